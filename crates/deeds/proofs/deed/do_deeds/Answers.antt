use Rattle.std.proofs.Common.{◌≡◌, suc, [], ◌∷◌, drop, arith}
use Rattle.std.proofs.lemmas.Result.{err_from_is_err_and}
use Rattle.outside.specs.Calls.{Changes}
use Rattle.deeds.specs.Deeds.{of_phase}
use Rattle.deeds.specs.Applying.{HasStopped}
use Rattle.deeds.specs.Plain.{plain, plains}
use Rattle.deeds.proofs.Doing.{split_at}
use Rattle.deeds.proofs.Applying.{unfit_by}
use Rattle.deeds.proofs.Phases.{plains_at, within_at, plains_all, refused_at, cause_then}
use Rattle.deeds.proofs.InPhase.{none_done, all_done, all_applied, next_amid, next_applied, next_done, next_grown, next_stopped}
use Rattle.deeds.proofs.deed.do_deeds.Given.{Over}
use Rattle.deeds.proofs.deed.do_deeds.Goals as goal
use Rattle.deeds.proofs.deed.do_deeds.Goals.{After-index-deeds-index}

-- the deed at the loop's index
here : (g : Over) (c : After-index-deeds-index g) → drop c.loop-index.index (plains c.args.deeds.now) ≡ plain c.index-deeds-index.result ∷ drop (suc c.loop-index.index) (plains c.args.deeds.now)
here g c = plains_at c.args.deeds.now c.loop-index.index c.index-deeds-index.result (split_at c.args.deeds.now c.loop-index.index c.index-deeds-index.result (omega arith) c.index-deeds-index.is)

pub loop-index-init : goal.loop-index-init
loop-index-init g c = none_done c.args.phase (plains c.args.deeds.now) (g.F.Reads.log c.args.folder.now) (g.F.Reads.faults c.args.folder.now)

pub do_at-requires : goal.do_at-requires
do_at-requires g c = within_at (plains c.args.deeds.now) c.loop-index.index (plain c.index-deeds-index.result) _ (here g (goal.at.do_at-requires g c).After-index-deeds-index) c.requires.within

pub loop-index-preserved : goal.loop-index-preserved
loop-index-preserved g c =
    next_done c.loop-index.invariant (here g (goal.at.loop-index-preserved g c).After-index-deeds-index) (g.F.Reads.log c.do_at.new.folder) (g.F.Reads.faults c.do_at.new.folder)
    c.in_ok-do_at.ensures.done c.in_ok-do_at.ensures.amid c.in_ok-do_at.ensures.grown c.in_ok-do_at.ensures.cause.later

pub returns-in_err-do_at-clause-amid : goal.returns-in_err-do_at-clause-amid
returns-in_err-do_at-clause-amid g c =
    next_amid c.loop-index.invariant (here g (goal.at.returns-in_err-do_at-clause-amid g c).After-index-deeds-index) (g.F.Reads.log c.do_at.new.folder) c.in_err-do_at.ensures.amid

pub returns-in_err-do_at-clause-grown : goal.returns-in_err-do_at-clause-grown
returns-in_err-do_at-clause-grown g c =
    next_grown c.loop-index.invariant (here g (goal.at.returns-in_err-do_at-clause-grown g c).After-index-deeds-index) (g.F.Reads.log c.do_at.new.folder) c.in_err-do_at.ensures.grown

pub returns-in_err-do_at-clause-applied : goal.returns-in_err-do_at-clause-applied
returns-in_err-do_at-clause-applied g c =
    next_applied c.loop-index.invariant (here g (goal.at.returns-in_err-do_at-clause-applied g c).After-index-deeds-index) (g.F.Reads.log c.do_at.new.folder)
    c.in_err-do_at.ensures.amid c.in_err-do_at.ensures.applied

pub returns-in_err-do_at-clause-unfit : goal.returns-in_err-do_at-clause-unfit
returns-in_err-do_at-clause-unfit g c =
    let at = here g (goal.at.returns-in_err-do_at-clause-unfit g c).After-index-deeds-index in
    let q = err_from_is_err_and c.from_residual.result c.from_residual.ensures.1 in
    rw (q.1, q.2) (refused_at c.args.phase (plains c.args.deeds.now) c.loop-index.index (plain c.index-deeds-index.result) at (g.F.Reads.log c.args.folder.now) (g.F.Reads.log c.loop-index.folder)
    (g.F.Reads.faults c.args.folder.now) (g.F.Reads.faults c.loop-index.folder) (g.F.Reads.faults c.do_at.new.folder) c.in_err-do_at.field-0.0 c.loop-index.invariant.done c.loop-index.invariant.later c.in_err-do_at.ensures.unfit)

pub returns-in_err-do_at-clause-left : goal.returns-in_err-do_at-clause-left
returns-in_err-do_at-clause-left g c =
    let b = g.F.Reads.log c.loop-index.folder in
    let d = g.F.Reads.log c.do_at.new.folder in
    let at = here g (goal.at.returns-in_err-do_at-clause-left g c).After-index-deeds-index in
    let q = err_from_is_err_and c.from_residual.result c.from_residual.ensures.1 in
    rw (q.1, q.2) (unfit_by c.in_err-do_at.field-0.0 (λ index. Changes b d (HasStopped (of_phase c.args.phase (plain c.index-deeds-index.result ∷ []))))
    (λ index. Changes (g.F.Reads.log c.args.folder.now) d (HasStopped (of_phase c.args.phase (plains c.args.deeds.now)))) (λ index stopped. next_stopped c.loop-index.invariant at d stopped) c.in_err-do_at.ensures.left)

pub returns-in_err-do_at-clause-cause : goal.returns-in_err-do_at-clause-cause
returns-in_err-do_at-clause-cause g c =
    let q = err_from_is_err_and c.from_residual.result c.from_residual.ensures.1 in
    rw (q.1, q.2) (cause_then (g.F.Reads.faults c.args.folder.now) (g.F.Reads.faults c.loop-index.folder) (g.F.Reads.faults c.do_at.new.folder) _ c.loop-index.invariant.later c.in_err-do_at.ensures.cause)

pub returns-clause-done : goal.returns-clause-done
returns-clause-done g c = all_done c.loop-index.invariant (plains_all c.args.deeds.now c.loop-index.index (omega arith))

pub returns-clause-applied : goal.returns-clause-applied
returns-clause-applied g c = all_applied c.loop-index.invariant (plains_all c.args.deeds.now c.loop-index.index (omega arith))

pub returns-clause-cause : goal.returns-clause-cause
returns-clause-cause g c = record { later = c.loop-index.invariant.later; rose = λ failed. absurd cc }
