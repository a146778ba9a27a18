use Rattle.std.proofs.Common.{◌≡◌, List, ℕ, refl, ap, ap₂, ◌∙◌, subst}
use Rattle.std.proofs.lemmas.Result.{err_from_is_err_and}
use Rattle.tree_deed_laws.specs.Deeds.{create_file_deeds}
use Rattle.deeds.specs.Deeds.{PlainDeed, RemovesDir, IsOneOf}
use Rattle.deeds.specs.Plain.{plains}
use Rattle.deeds.specs.declared.deed.Deed.{Deed}
use Rattle.batch_looks.specs.declared.misfit.Misfit.TheVariants.{Foreign}
use Rattle.node_changes.proofs.Misfits.{file_removes_none}
use Rattle.node_changes.proofs.Makings.{asked_of, making_of, file_makes, place_by}
use Rattle.node_changes.proofs.tree.VaultTree.make_file.Goals as goal

pub returns-clause-makes : goal.returns-clause-makes
returns-clause-makes g c = λ name mode clear.
    let site = c.args.site in
    let asked = asked_of c.args.self.now c.args.parent site c.requires.site c.len-count.ensures.tree name clear in
    file_makes (making_of c.args.self.now c.add.new.self asked c.are_texts.ensures c.kept_claims.ensures c.args.now mode (plains c.in_ok-deeds.deeds.items)) c.args.header.now c.told-header c.requires.header
    (c.in_ok-deeds.ensures.deeds ∙ ap₂ (λ (e t : List ℕ). create_file_deeds (place_by site.folder e site.place.long) t c.in_ok-bytes.bytes.items) c.as_bytes.ensures c.as_bytes-2.ensures
    ∙ ap (λ (h : List ℕ). create_file_deeds (place_by site.folder site.place.entry site.place.long) site.place.text h) c.in_ok-bytes.ensures.items)
    c.in_ok-add.ensures.live c.in_ok-add.ensures.rows c.add.ensures.claims

pub returns-clause-deeds : goal.returns-clause-deeds
returns-clause-deeds g c = (
  place_by c.args.site.folder c.as_bytes.result.now c.args.site.place.long,
  c.as_bytes-2.result.now,
  c.in_ok-deeds.ensures.deeds ∙ ap (λ (h : List ℕ). create_file_deeds (place_by c.args.site.folder c.as_bytes.result.now c.args.site.place.long) c.as_bytes-2.result.now h) c.in_ok-bytes.ensures.items,
)

pub returns-in_err-look-clause-own : goal.returns-in_err-look-clause-own
returns-in_err-look-clause-own g c =
    let p = err_from_is_err_and c.from_residual-in_err-look.result c.from_residual-in_err-look.ensures.1 in
    let none = file_removes_none (place_by c.args.site.folder c.as_bytes.result.now c.args.site.place.long) c.as_bytes-2.result.now c.in_ok-bytes.bytes.items in
    rw (p.1, p.2) (λ foreign.
    let is : c.in_err-look.field-0.0 ≡ Foreign = cc in
    let it = c.in_err-look.ensures.removing (rw is refl) in
    none it.0 (subst (λ (ds : List PlainDeed). IsOneOf (RemovesDir it.0) ds) c.in_ok-deeds.ensures.deeds (subst (λ (ds : List Deed). IsOneOf (RemovesDir it.0) (plains ds)) c.deref.ensures.value it.1)))
