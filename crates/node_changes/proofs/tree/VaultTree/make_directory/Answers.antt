use Rattle.std.proofs.Common.{◌≡◌, List, ℕ, refl, ap, ap₂, ◌∙◌, subst}
use Rattle.std.proofs.lemmas.Result.{err_from_is_err_and}
use Rattle.clear_tree.specs.Kept.{KeptDir}
use Rattle.deeds.specs.Deeds.{PlainDeed, RemovesDir, IsOneOf}
use Rattle.deeds.specs.Plain.{plains}
use Rattle.deeds.specs.declared.deed.Deed.{Deed}
use Rattle.batch_looks.specs.declared.misfit.Misfit.TheVariants.{Foreign}
use Rattle.node_changes.proofs.Misfits.{directory_removes_none}
use Rattle.live_tree.specs.Changes.{added, new_node}
use Rattle.tree_deed_laws.specs.Deeds.{create_dir_deeds}
use Rattle.node_changes.specs.declared.tree.VaultTree.{VaultTree}
use Rattle.node_changes.proofs.Makings.{asked_of, making_of, directory_makes, place_by, takes_back, took_nothing}
use Rattle.node_changes.proofs.tree.VaultTree.make_directory.Goals as goal
use Rattle.node_changes.proofs.tree.VaultTree.make_directory.Goals.{then-is_new, else-is_new}

pub returns-clause-makes : goal.returns-clause-makes
returns-clause-makes g c = λ name mode clear.
    let site = c.args.site in
    let directory = c.args.directory.now in
    let asked = asked_of c.args.self.now c.args.parent site c.requires.site c.len-count.ensures.tree name clear in
    directory_makes (making_of c.args.self.now c.add.new.self asked c.are_texts.ensures c.kept_claims.ensures c.args.now mode (plains c.in_ok-deeds.deeds.items)) directory c.requires.directory.0 c.requires.directory.1
    (c.in_ok-deeds.ensures.deeds ∙ ap₂ (λ (e t : List ℕ). create_dir_deeds (place_by site.folder e site.place.long) t directory.folder directory.identifier) c.as_bytes.ensures c.as_bytes-2.ensures)
    (c.in_default.ensures.live ∙ ap (λ (i : List ℕ). added c.args.self.now.live (new_node c.args.parent site.name (KeptDir i directory.folder) site.place.entry site.place.long c.args.now) c.args.now)
    (c.from_vec.ensures ∙ c.in_ok-identifier.ensures.items))
    c.in_default.ensures.rows
    (rw (c.add.ensures.claims, ← c.next.ensures) c.in_ok-is_new.ensures.claims)

pub returns-clause-deeds : goal.returns-clause-deeds
returns-clause-deeds g c = (place_by c.args.site.folder c.as_bytes.result.now c.args.site.place.long, c.as_bytes-2.result.now, c.in_ok-deeds.ensures.deeds)

pub returns-in-Err-clause-same_claims : goal.returns-in-Err-clause-same_claims
returns-in-Err-clause-same_claims g c =
    elim c.if-is_new.branch [
      | then-is_new w ↦
          ap (λ (t : VaultTree). t.claims) w.self-is
          ∙ takes_back c.args.self.now.claims c.insert.new.self c.add.new.self.claims w.remove.new.self c.args.directory.now.folder c.next.result c.in_ok-is_new.is_new c.in_ok-is_new.ensures.inserted w.if-is_new.true c.add.ensures.claims
          w.remove.ensures.back
      | else-is_new w ↦
          ap (λ (t : VaultTree). t.claims) w.self-is
          ∙ took_nothing c.args.self.now.claims c.insert.new.self c.add.new.self.claims c.args.directory.now.folder c.next.result c.in_ok-is_new.is_new c.in_ok-is_new.ensures.inserted w.if-is_new.false c.add.ensures.claims
    ]

pub returns-in_err-look-clause-own : goal.returns-in_err-look-clause-own
returns-in_err-look-clause-own g c =
    let p = err_from_is_err_and c.from_residual-in_err-look.result c.from_residual-in_err-look.ensures.1 in
    let directory = c.args.directory.now in
    let none = directory_removes_none (place_by c.args.site.folder c.as_bytes.result.now c.args.site.place.long) c.as_bytes-2.result.now directory.folder directory.identifier in
    rw (p.1, p.2) (λ foreign.
    let is : c.in_err-look.field-0.0 ≡ Foreign = cc in
    let it = c.in_err-look.ensures.removing (rw is refl) in
    none it.0 (subst (λ (ds : List PlainDeed). IsOneOf (RemovesDir it.0) ds) c.in_ok-deeds.ensures.deeds (subst (λ (ds : List Deed). IsOneOf (RemovesDir it.0) (plains ds)) c.deref.ensures.value it.1)))
