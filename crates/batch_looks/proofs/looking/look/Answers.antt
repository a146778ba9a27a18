use Rattle.std.proofs.Common.{subst}
use Rattle.std.proofs.lemmas.Result.{err_from_is_err_and}
use Rattle.deeds.specs.Deeds.{PlainDeed, IsOneOf}
use Rattle.deeds.specs.Plain.{plains}
use Rattle.deeds.proofs.Phases.{cause_then}
use Rattle.batch_looks.proofs.Foreign.{one_at, told_held_back}
use Rattle.batch_looks.proofs.looking.look.Goals as goal

pub returns-in_err-need_of-clause-foreign : goal.returns-in_err-need_of-clause-foreign
returns-in_err-need_of-clause-foreign g c =
    let p = err_from_is_err_and c.from_residual.result c.from_residual.ensures.1 in
    rw (p.1, p.2) (λ foreign.
    let it = c.in_err-need_of.ensures.foreign foreign in
    told_held_back c.args.deeds.now it.0 c.requires
    (subst (λ (x : PlainDeed). IsOneOf x (plains c.args.deeds.now)) it.1 (one_at c.args.deeds.now c.loop-deed.deed-index c.deed-item.result c.loop-deed-test.true c.deed-item.is))
    (g.R.Reads.log c.args.folder.now) (g.R.Reads.log c.loop-deed.folder) c.loop-deed.invariant.log it.2)

pub returns-in_err-need_of-clause-removing : goal.returns-in_err-need_of-clause-removing
returns-in_err-need_of-clause-removing g c =
    let p = err_from_is_err_and c.from_residual.result c.from_residual.ensures.1 in
    rw (p.1, p.2) (λ foreign.
    let it = c.in_err-need_of.ensures.foreign foreign in (
      it.0,
      subst (λ (x : PlainDeed). IsOneOf x (plains c.args.deeds.now)) it.1 (one_at c.args.deeds.now c.loop-deed.deed-index c.deed-item.result c.loop-deed-test.true c.deed-item.is),
    ))

pub returns-in_err-need_of-clause-cause : goal.returns-in_err-need_of-clause-cause
returns-in_err-need_of-clause-cause g c =
    let p = err_from_is_err_and c.from_residual.result c.from_residual.ensures.1 in
    rw (p.1, p.2) (cause_then (g.R.Reads.faults c.args.folder.now) (g.R.Reads.faults c.loop-deed.folder) (g.R.Reads.faults c.need_of.new.folder) _ c.loop-deed.invariant.later c.in_err-need_of.ensures.cause)

pub returns-clause-cause : goal.returns-clause-cause
returns-clause-cause g c = record { later = c.loop-deed.invariant.later; rose = λ failed. absurd cc }
