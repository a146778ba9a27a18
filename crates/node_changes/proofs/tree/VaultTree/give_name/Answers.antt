use Rattle.std.proofs.Common.{refl}
use Rattle.std.proofs.lemmas.Result.{err_from_is_err_and}
use Rattle.outside.specs.Calls.{Rose}
use Rattle.outside.specs.Images.{disk_in}
use Rattle.outside.proofs.Told.{told_then, told_always}
use Rattle.deeds.specs.Plain.{plains}
use Rattle.deeds.proofs.Phases.{rose_before}
use Rattle.tree_model.specs.Asked.{change}
use Rattle.tree_loading.specs.Format.{sealing_of}
use Rattle.node_changes.proofs.Misfits.{misfit_cause, cannot_on}
use Rattle.node_changes.proofs.Named.{NamedTree, NamingDeeds, naming_of, name_refused, memory_refused, place_refused, deeds_refused, misfit_refused, can_be_given}
use Rattle.node_changes.proofs.tree.VaultTree.give_name.Goals as goal

pub returns-in_err-new-clause-refused : goal.returns-in_err-new-clause-refused
returns-in_err-new-clause-refused g c =
    let p = err_from_is_err_and c.from_residual.result c.from_residual.ensures.1 in
    rw (p.1, p.2) (told_always (disk_in (g.R.Reads.log c.args.folder.now)) _
    (λ d. name_refused (sealing_of c.args.self.now.keys) c.args.self.now.live c.args.self.now.claims c.args.number c.args.name c.args.modified c.args.now d c.in_err-new.field-0.0 c.in_err-new.ensures.refusal))

pub returns-in_err-check_place-clause-refused : goal.returns-in_err-check_place-clause-refused
returns-in_err-check_place-clause-refused g c =
    let p = err_from_is_err_and c.from_residual-in_err-check_place.result c.from_residual-in_err-check_place.ensures.1 in
    rw (p.1, p.2, ← c.in_ok-new.ensures.name)
    (place_refused (naming_of c.args.self.now c.entries_are_parts.ensures c.args.number c.in_ok-new.new c.in_ok-new.ensures.new c.args.modified c.args.now)
    (disk_in (g.R.Reads.log c.args.folder.now)) _ c.in_err-check_place.field-0.0 c.in_err-check_place.ensures.refusal)

pub returns-in_err-deeds-clause-refused : goal.returns-in_err-deeds-clause-refused
returns-in_err-deeds-clause-refused g c =
    let p = err_from_is_err_and c.from_residual-in_err-deeds.result c.from_residual-in_err-deeds.ensures.1 in
    rw (p.1, p.2, ← c.in_ok-new.ensures.name)
    (deeds_refused (naming_of c.args.self.now c.entries_are_parts.ensures c.args.number c.in_ok-new.new c.in_ok-new.ensures.new c.args.modified c.args.now)
    c.are_texts.ensures (disk_in (g.R.Reads.log c.args.folder.now)) c.in_ok-check_place.ensures.untaken c.in_err-deeds.field-0.0 c.in_err-deeds.ensures.refusal)

pub returns-in-Err-clause-refused : goal.returns-in-Err-clause-refused
returns-in-Err-clause-refused g c =
    let its = naming_of c.args.self.now c.entries_are_parts.ensures c.args.number c.in_ok-new.new c.in_ok-new.ensures.new c.args.modified c.args.now in
    rw (c.refusal_of.ensures, ← c.in_ok-new.ensures.name)
    (misfit_refused its (plains c.in_ok-deeds.deeds.items) (disk_in (g.R.Reads.log c.args.folder.now))
    (told_then (disk_in (g.R.Reads.log c.args.folder.now)) _ _ c.in_ok-check_place.ensures.untaken (λ d untaken. record {
      texts = c.are_texts.ensures;
      kept = c.kept_claims.ensures;
      whole = c.claims_are_whole.ensures;
      naming = c.in_ok-deeds.ensures.deeds;
      untaken = untaken;
    }))
    c.in-Err.misfit
    (λ is. cannot_on (g.R.Reads.log c.args.folder.now) (g.R.Reads.log c.check_place.new.folder) c.in_ok-check_place.ensures.log c.in_ok-deeds.deeds.items c.deref.result.now c.deref.ensures.value (c.in-Err.ensures.foreign (rw is refl))))

pub returns-in-Err-clause-cause : goal.returns-in-Err-clause-cause
returns-in-Err-clause-cause g c = λ asked named.
    rw c.refusal_of.ensures (misfit_cause (change c.args.number asked) (Rose (g.R.Reads.faults c.args.folder.now) (g.R.Reads.faults c.look.new.folder)) ⊥ c.in-Err.misfit tt
    (λ is. rose_before (g.R.Reads.faults c.args.folder.now) (g.R.Reads.faults c.check_place.new.folder) (g.R.Reads.faults c.look.new.folder) c.in_ok-check_place.ensures.later (c.in-Err.ensures.cause.rose (rw is refl))))

pub returns-in-Ok-clause-made : goal.returns-in-Ok-clause-made
returns-in-Ok-clause-made g c =
    let its = naming_of c.args.self.now c.entries_are_parts.ensures c.args.number c.in_ok-new.new c.in_ok-new.ensures.new c.args.modified c.args.now in
    rw (← c.in_ok-new.ensures.name, c.put_name.ensures.claims)
    (told_then (disk_in (g.R.Reads.log c.args.folder.now)) _ _ c.in_ok-check_place.ensures.untaken (λ d untaken contents stands.
    let named : NamedTree its c.put_name.new.self.live (plains c.in_ok-deeds.deeds.items) d = record {
      ready = record {
        texts = c.are_texts.ensures;
        kept = c.kept_claims.ensures;
        whole = c.claims_are_whole.ensures;
        naming = c.in_ok-deeds.ensures.deeds;
        untaken = untaken;
      };
      named = c.in-Ok.ensures.live;
      rows = c.in-Ok.ensures.rows;
    } in
    can_be_given its named contents stands))

pub returns-in-Err-put_name-clause-refused : goal.returns-in-Err-put_name-clause-refused
returns-in-Err-put_name-clause-refused g c =
    told_always (disk_in (g.R.Reads.log c.args.folder.now)) _
    (λ d. memory_refused (sealing_of c.args.self.now.keys) c.args.self.now.live c.args.self.now.claims c.args.number c.args.name c.args.modified c.args.now d)
