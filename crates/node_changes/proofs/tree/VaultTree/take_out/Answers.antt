use Rattle.std.proofs.Common.{refl, subst}
use Rattle.std.proofs.lemmas.Result.{err_from_is_err_and}
use Rattle.outside.specs.Calls.{Rose}
use Rattle.outside.specs.Images.{disk_in}
use Rattle.outside.proofs.Told.{told_always}
use Rattle.deeds.specs.Plain.{plains}
use Rattle.tree_model.specs.Asked.{remove}
use Rattle.tree_loading.specs.Format.{sealing_of}
use Rattle.node_changes.specs.Removal.{IsRemovalRefusal}
use Rattle.node_changes.proofs.Draws.{cause_more}
use Rattle.node_changes.proofs.Misfits.{misfit_cause, cannot_on}
use Rattle.node_changes.proofs.Refusing.{is_there, is_below_root, is_childless}
use Rattle.node_changes.proofs.Removals.{refused_by, deeds_refused, misfit_refused, removed_leads}
use Rattle.node_changes.proofs.tree.VaultTree.take_out.Goals as goal

pub returns-in-Some-clause-refused : goal.returns-in-Some-clause-refused
returns-in-Some-clause-refused g c =
    told_always (disk_in (g.R.Reads.log c.args.folder.now)) _
    (refused_by (sealing_of c.args.self.now.keys) c.args.self.now.live c.args.self.now.claims c.args.number c.args.now c.in-Some.refusal c.in-Some.ensures.refusal c.in-Some.ensures.own)

pub returns-in-Some-clause-cause : goal.returns-in-Some-clause-cause
returns-in-Some-clause-cause g c = cause_more (remove c.args.number) (Rose (g.R.Reads.faults c.args.folder.now) (g.R.Reads.faults c.args.folder.now)) ⊥ c.in-Some.refusal c.in-Some.ensures.own

pub removal_deeds-requires : goal.removal_deeds-requires
removal_deeds-requires g c = record { there = is_there c.args.self.now.live c.args.number (subst (IsRemovalRefusal c.args.self.now.live c.args.number) c.in_default.is c.removal_refusal.ensures.refusal) }

pub returns-in_err-deeds-clause-refused : goal.returns-in_err-deeds-clause-refused
returns-in_err-deeds-clause-refused g c =
    let p = err_from_is_err_and c.from_residual.result c.from_residual.ensures.1 in
    rw (p.1, p.2) (told_always (disk_in (g.R.Reads.log c.args.folder.now)) _
    (deeds_refused c.args.self.now.keys c.entries_are_parts.ensures c.args.self.now.live c.args.self.now.claims c.args.number c.args.now c.removal_refusal.ensures.tree
    (subst (IsRemovalRefusal c.args.self.now.live c.args.number) c.in_default.is c.removal_refusal.ensures.refusal) c.in_err-deeds.field-0.0 c.in_err-deeds.ensures.refusal))

pub returns-in-Err-clause-refused : goal.returns-in-Err-clause-refused
returns-in-Err-clause-refused g c =
    rw c.refusal_of.ensures (misfit_refused c.args.self.now.keys c.are_texts.ensures c.entries_are_parts.ensures c.args.self.now.live c.args.self.now.claims c.args.number c.args.now (plains c.in_ok-deeds.deeds.items)
    c.removal_refusal.ensures.tree (subst (IsRemovalRefusal c.args.self.now.live c.args.number) c.in_default.is c.removal_refusal.ensures.refusal) c.in_ok-deeds.ensures.deeds
    (disk_in (g.R.Reads.log c.args.folder.now)) c.in-Err.misfit
    (λ is. cannot_on (g.R.Reads.log c.args.folder.now) (g.R.Reads.log c.args.folder.now) refl c.in_ok-deeds.deeds.items c.deref.result.now c.deref.ensures.value (c.in-Err.ensures.foreign (rw is refl))))

pub returns-in-Err-clause-cause : goal.returns-in-Err-clause-cause
returns-in-Err-clause-cause g c =
    rw c.refusal_of.ensures (misfit_cause (remove c.args.number) (Rose (g.R.Reads.faults c.args.folder.now) (g.R.Reads.faults c.look.new.folder)) ⊥ c.in-Err.misfit tt
    (λ is. c.in-Err.ensures.cause.rose (rw is refl)))

pub forget-requires-clause-below : goal.forget-requires-clause-below
forget-requires-clause-below g c =
    is_below_root c.args.self.now.live c.removal_refusal.ensures.tree c.args.number (subst (IsRemovalRefusal c.args.self.now.live c.args.number) c.in_default.is c.removal_refusal.ensures.refusal)

pub forget-requires-clause-childless : goal.forget-requires-clause-childless
forget-requires-clause-childless g c =
    is_childless c.args.self.now.live c.removal_refusal.ensures.tree c.args.number (subst (IsRemovalRefusal c.args.self.now.live c.args.number) c.in_default.is c.removal_refusal.ensures.refusal)

pub returns-clause-made : goal.returns-clause-made
returns-clause-made g c =
    removed_leads c.args.self.now.keys c.are_texts.ensures c.kept_claims.ensures c.args.self.now.live c.forget.new.self.live c.args.self.now.claims c.forget.new.self.claims c.args.number c.args.now
    (plains c.in_ok-deeds.deeds.items) c.removal_refusal.ensures.tree (subst (IsRemovalRefusal c.args.self.now.live c.args.number) c.in_default.is c.removal_refusal.ensures.refusal)
    c.in_ok-deeds.ensures.deeds c.forget.ensures.live c.forget.ensures.rows c.forget.ensures.claims
