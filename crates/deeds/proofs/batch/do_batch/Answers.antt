use Rattle.std.proofs.Common.{◌≡◌, ◌++◌, List, Option, refl, arith}
use Rattle.std.proofs.lemmas.Result.{err_from_is_err_and}
use Rattle.outside.specs.Calls.{Changes}
use Rattle.outside.specs.Images.{Log, now, IsSteady}
use Rattle.outside.proofs.Told.{both_changed, through, changed_by, told_new, unchanged}
use Rattle.deeds.specs.declared.phase.Phase.TheVariants as phases
use Rattle.deeds.specs.Deeds.{PlainDeed, DoesAll, StaysAmid, GoesOnAt, named, of_phase}
use Rattle.outside.specs.Unsynced.{IsSynced}
use Rattle.deeds.specs.Applying.{HasStopped, StaysApplied}
use Rattle.deeds.specs.Plain.{plains}
use Rattle.deeds.proofs.Doing.{does_then, stays_then, stays_front}
use Rattle.deeds.proofs.Applying.{applied_front, applied_stays, stopped_front, stopped_then, unfit_by}
use Rattle.deeds.proofs.Phases.{cause_then}
use Rattle.deeds.proofs.Batches.{within_batch, refused_in}
use Rattle.deeds.proofs.Growing.{grown_at, steady_of}
use Rattle.deeds.proofs.Named.{phase_grown}
use Rattle.deeds.proofs.batch.do_batch.Goals as goal

abbrev Done : List PlainDeed → Log → Log → Type 0
Done xs old new = IsSynced new × DoesAll xs (now old) (now new)

done_then : (xs ys : List PlainDeed) (a b c : Log) → Done xs a b → Done ys b c → Done (xs ++ ys) a c
done_then xs ys a b c first second = (second.0, does_then xs ys (now a) (now b) (now c) first.1 second.1)

does : (xs : List PlainDeed) (a b : Option Log) → Changes a b (Done xs) → Changes a b (λ old new. DoesAll xs (now old) (now new))
does xs a b did = changed_by a b (Done xs) (λ old new. DoesAll xs (now old) (now new)) (λ x y k. k.1) did

-- ---- the phases one after another, from each log to the next

module _ (ds : List PlainDeed) where
  abbrev made : List PlainDeed
  made = of_phase phases.Make ds

  abbrev moved : List PlainDeed
  moved = of_phase phases.Move ds

  abbrev removed : List PlainDeed
  removed = of_phase phases.Remove ds

  first_amid : (l0 l1 : Option Log) → Changes l0 l1 (StaysAmid made) → Changes l0 l1 (StaysAmid (made ++ moved ++ removed))
  first_amid l0 l1 first = changed_by l0 l1 (StaysAmid (made ++ moved)) (StaysAmid (made ++ moved ++ removed)) (stays_front (made ++ moved) removed)
      (changed_by l0 l1 (StaysAmid made) (StaysAmid (made ++ moved)) (stays_front made moved) first)

  module _ (l0 l1 l2 : Option Log) where
    two_done : Changes l0 l1 (Done made) → Changes l1 l2 (Done moved) → Changes l0 l2 (Done (made ++ moved))
    two_done first second = through l0 l1 l2 (Done made) (Done moved) (Done (made ++ moved)) (done_then made moved) first second

    moved_amid : Changes l0 l1 (StaysAmid made) → Changes l1 l2 (StaysAmid moved) → Changes l0 l2 (StaysAmid (made ++ moved))
    moved_amid first second = through l0 l1 l2 (StaysAmid made) (StaysAmid moved) (StaysAmid (made ++ moved)) (stays_then made moved) first second

    two_amid : Changes l0 l1 (StaysAmid made) → Changes l1 l2 (StaysAmid moved) → Changes l0 l2 (StaysAmid (made ++ moved ++ removed))
    two_amid first second = changed_by l0 l2 (StaysAmid (made ++ moved)) (StaysAmid (made ++ moved ++ removed)) (stays_front (made ++ moved) removed) (moved_amid first second)

    module _ (l3 : Option Log) where
      all_done : Changes l0 l1 (Done made) → Changes l1 l2 (Done moved) → Changes l2 l3 (Done removed) → Changes l0 l3 (Done (made ++ moved ++ removed))
      all_done first second third = through l0 l2 l3 (Done (made ++ moved)) (Done removed) (Done (made ++ moved ++ removed)) (done_then (made ++ moved) removed) (two_done first second) third

      all_amid : Changes l0 l1 (StaysAmid made) → Changes l1 l2 (StaysAmid moved) → Changes l2 l3 (StaysAmid removed) → Changes l0 l3 (StaysAmid (made ++ moved ++ removed))
      all_amid first second third =
          through l0 l2 l3 (StaysAmid (made ++ moved)) (StaysAmid removed) (StaysAmid (made ++ moved ++ removed)) (stays_then (made ++ moved) removed) (moved_amid first second) third

-- ---- at the paths that the batch names

two_grown : (ds : List PlainDeed) (l0 l1 l2 : Option Log) → Changes l0 l1 (GoesOnAt (named (made ds))) → Changes l1 l2 (GoesOnAt (named (moved ds))) → Changes l0 l2 (GoesOnAt (named ds))
two_grown ds l0 l1 l2 first second = grown_at (named ds) l0 l1 l2 (phase_grown phases.Make ds l0 l1 first) (phase_grown phases.Move ds l1 l2 second)

all_grown : (ds : List PlainDeed) (l0 l1 l2 l3 : Option Log) → Changes l0 l1 (GoesOnAt (named (made ds))) → Changes l1 l2 (GoesOnAt (named (moved ds))) → Changes l2 l3 (GoesOnAt (named (removed ds))) → Changes l0 l3 (GoesOnAt (named ds))
all_grown ds l0 l1 l2 l3 first second third = grown_at (named ds) l0 l2 l3 (two_grown ds l0 l1 l2 first second) (phase_grown phases.Remove ds l2 l3 third)

-- ---- the answers

pub do_phase-requires-clause-within : goal.do_phase-requires-clause-within
do_phase-requires-clause-within g c = within_batch (plains c.args.deeds.now) c.requires.batch.each

pub do_phase-requires-2-clause-within : goal.do_phase-requires-2-clause-within
do_phase-requires-2-clause-within g c = within_batch (plains c.args.deeds.now) c.requires.batch.each

pub do_phase-requires-3-clause-within : goal.do_phase-requires-3-clause-within
do_phase-requires-3-clause-within g c = within_batch (plains c.args.deeds.now) c.requires.batch.each

pub do_phase-requires-2-clause-steady : goal.do_phase-requires-2-clause-steady
do_phase-requires-2-clause-steady g c = told_new (g.F.Reads.log c.args.folder.now) (g.F.Reads.log c.do_phase.new.folder) (Done (of_phase phases.Make (plains c.args.deeds.now))) IsSteady (λ old new done. steady_of new done.0) c.in_ok-do_phase.ensures.done

pub do_phase-requires-3-clause-steady : goal.do_phase-requires-3-clause-steady
do_phase-requires-3-clause-steady g c = told_new (g.F.Reads.log c.do_phase.new.folder) (g.F.Reads.log c.do_phase-2.new.folder) (Done (of_phase phases.Move (plains c.args.deeds.now))) IsSteady (λ old new done. steady_of new done.0) c.in_ok-do_phase-2.ensures.done

pub returns-clause-done : goal.returns-clause-done
returns-clause-done g c =
    all_done (plains c.args.deeds.now) (g.F.Reads.log c.args.folder.now) (g.F.Reads.log c.do_phase.new.folder) (g.F.Reads.log c.do_phase-2.new.folder) (g.F.Reads.log c.do_phase-3.new.folder)
    c.in_ok-do_phase.ensures.done c.in_ok-do_phase-2.ensures.done c.in_ok-do_phase-3.ensures.done

pub returns-clause-amid : goal.returns-clause-amid
returns-clause-amid g c =
    all_amid (plains c.args.deeds.now) (g.F.Reads.log c.args.folder.now) (g.F.Reads.log c.do_phase.new.folder) (g.F.Reads.log c.do_phase-2.new.folder) (g.F.Reads.log c.do_phase-3.new.folder)
    c.in_ok-do_phase.ensures.amid c.in_ok-do_phase-2.ensures.amid c.in_ok-do_phase-3.ensures.amid

pub returns-in_err-do_phase-clause-amid : goal.returns-in_err-do_phase-clause-amid
returns-in_err-do_phase-clause-amid g c =
    first_amid (plains c.args.deeds.now) (g.F.Reads.log c.args.folder.now) (g.F.Reads.log c.do_phase.new.folder) c.in_err-do_phase.ensures.amid

pub returns-in_err-do_phase-2-clause-amid : goal.returns-in_err-do_phase-2-clause-amid
returns-in_err-do_phase-2-clause-amid g c =
    two_amid (plains c.args.deeds.now) (g.F.Reads.log c.args.folder.now) (g.F.Reads.log c.do_phase.new.folder) (g.F.Reads.log c.do_phase-2.new.folder) c.in_ok-do_phase.ensures.amid c.in_err-do_phase-2.ensures.amid

pub returns-in_err-do_phase-3-clause-amid : goal.returns-in_err-do_phase-3-clause-amid
returns-in_err-do_phase-3-clause-amid g c =
    all_amid (plains c.args.deeds.now) (g.F.Reads.log c.args.folder.now) (g.F.Reads.log c.do_phase.new.folder) (g.F.Reads.log c.do_phase-2.new.folder) (g.F.Reads.log c.do_phase-3.new.folder)
    c.in_ok-do_phase.ensures.amid c.in_ok-do_phase-2.ensures.amid c.in_err-do_phase-3.ensures.amid

pub returns-in_err-do_phase-clause-unfit : goal.returns-in_err-do_phase-clause-unfit
returns-in_err-do_phase-clause-unfit g c =
    let ds = plains c.args.deeds.now in
    let l0 = g.F.Reads.log c.args.folder.now in
    let f0 = g.F.Reads.faults c.args.folder.now in
    let f1 = g.F.Reads.faults c.do_phase.new.folder in
    let q = err_from_is_err_and c.from_residual.result c.from_residual.ensures.1 in
    rw (q.1, q.2) (refused_in phases.Make ds l0 l0 f0 f0 f1 c.in_err-do_phase.field-0.0 (unchanged l0 l0 (λ old new. now new ≡ now old) refl (λ l. refl)) (omega arith) c.in_err-do_phase.ensures.unfit)

pub returns-in_err-do_phase-2-clause-unfit : goal.returns-in_err-do_phase-2-clause-unfit
returns-in_err-do_phase-2-clause-unfit g c =
    let ds = plains c.args.deeds.now in
    let l0 = g.F.Reads.log c.args.folder.now in
    let l1 = g.F.Reads.log c.do_phase.new.folder in
    let f0 = g.F.Reads.faults c.args.folder.now in
    let f1 = g.F.Reads.faults c.do_phase.new.folder in
    let f2 = g.F.Reads.faults c.do_phase-2.new.folder in
    let q = err_from_is_err_and c.from_residual-in_err-do_phase-2.result c.from_residual-in_err-do_phase-2.ensures.1 in
    rw (q.1, q.2) (refused_in phases.Move ds l0 l1 f0 f1 f2 c.in_err-do_phase-2.field-0.0 (does (made ds) l0 l1 c.in_ok-do_phase.ensures.done) (c.in_ok-do_phase.ensures.cause.later) c.in_err-do_phase-2.ensures.unfit)

pub returns-in_err-do_phase-2-clause-cause : goal.returns-in_err-do_phase-2-clause-cause
returns-in_err-do_phase-2-clause-cause g c =
    let f0 = g.F.Reads.faults c.args.folder.now in
    let f1 = g.F.Reads.faults c.do_phase.new.folder in
    let f2 = g.F.Reads.faults c.do_phase-2.new.folder in
    let q = err_from_is_err_and c.from_residual-in_err-do_phase-2.result c.from_residual-in_err-do_phase-2.ensures.1 in
    rw (q.1, q.2) (cause_then f0 f1 f2 _ (c.in_ok-do_phase.ensures.cause.later) c.in_err-do_phase-2.ensures.cause)

pub returns-in_err-do_phase-3-clause-unfit : goal.returns-in_err-do_phase-3-clause-unfit
returns-in_err-do_phase-3-clause-unfit g c =
    let ds = plains c.args.deeds.now in
    let l0 = g.F.Reads.log c.args.folder.now in
    let l1 = g.F.Reads.log c.do_phase.new.folder in
    let l2 = g.F.Reads.log c.do_phase-2.new.folder in
    let f0 = g.F.Reads.faults c.args.folder.now in
    let f2 = g.F.Reads.faults c.do_phase-2.new.folder in
    let f3 = g.F.Reads.faults c.do_phase-3.new.folder in
    let q = err_from_is_err_and c.from_residual-in_err-do_phase-3.result c.from_residual-in_err-do_phase-3.ensures.1 in
    rw (q.1, q.2) (refused_in phases.Remove ds l0 l2 f0 f2 f3 c.in_err-do_phase-3.field-0.0 (does (made ds ++ moved ds) l0 l2 (two_done ds l0 l1 l2 c.in_ok-do_phase.ensures.done c.in_ok-do_phase-2.ensures.done)) (omega (arith, c.in_ok-do_phase.ensures.cause.later, c.in_ok-do_phase-2.ensures.cause.later)) c.in_err-do_phase-3.ensures.unfit)

pub returns-in_err-do_phase-3-clause-cause : goal.returns-in_err-do_phase-3-clause-cause
returns-in_err-do_phase-3-clause-cause g c =
    let f0 = g.F.Reads.faults c.args.folder.now in
    let f2 = g.F.Reads.faults c.do_phase-2.new.folder in
    let f3 = g.F.Reads.faults c.do_phase-3.new.folder in
    let q = err_from_is_err_and c.from_residual-in_err-do_phase-3.result c.from_residual-in_err-do_phase-3.ensures.1 in
    rw (q.1, q.2) (cause_then f0 f2 f3 _ (omega (arith, c.in_ok-do_phase.ensures.cause.later, c.in_ok-do_phase-2.ensures.cause.later)) c.in_err-do_phase-3.ensures.cause)

pub returns-clause-cause : goal.returns-clause-cause
returns-clause-cause g c = record { later = omega (arith, c.in_ok-do_phase.ensures.cause.later, c.in_ok-do_phase-2.ensures.cause.later, c.in_ok-do_phase-3.ensures.cause.later); rose = λ failed. absurd cc }

pub returns-in_err-do_phase-clause-grown : goal.returns-in_err-do_phase-clause-grown
returns-in_err-do_phase-clause-grown g c = phase_grown phases.Make (plains c.args.deeds.now) (g.F.Reads.log c.args.folder.now) (g.F.Reads.log c.do_phase.new.folder) c.in_err-do_phase.ensures.grown

pub returns-in_err-do_phase-2-clause-grown : goal.returns-in_err-do_phase-2-clause-grown
returns-in_err-do_phase-2-clause-grown g c =
    two_grown (plains c.args.deeds.now) (g.F.Reads.log c.args.folder.now) (g.F.Reads.log c.do_phase.new.folder) (g.F.Reads.log c.do_phase-2.new.folder) c.in_ok-do_phase.ensures.grown c.in_err-do_phase-2.ensures.grown

pub returns-in_err-do_phase-3-clause-grown : goal.returns-in_err-do_phase-3-clause-grown
returns-in_err-do_phase-3-clause-grown g c =
    all_grown (plains c.args.deeds.now) (g.F.Reads.log c.args.folder.now) (g.F.Reads.log c.do_phase.new.folder) (g.F.Reads.log c.do_phase-2.new.folder) (g.F.Reads.log c.do_phase-3.new.folder)
    c.in_ok-do_phase.ensures.grown c.in_ok-do_phase-2.ensures.grown c.in_err-do_phase-3.ensures.grown

pub returns-clause-grown : goal.returns-clause-grown
returns-clause-grown g c =
    all_grown (plains c.args.deeds.now) (g.F.Reads.log c.args.folder.now) (g.F.Reads.log c.do_phase.new.folder) (g.F.Reads.log c.do_phase-2.new.folder) (g.F.Reads.log c.do_phase-3.new.folder)
    c.in_ok-do_phase.ensures.grown c.in_ok-do_phase-2.ensures.grown c.in_ok-do_phase-3.ensures.grown

-- ---- if a deed is refused, or the folder fails

module _ (ds : List PlainDeed) (l0 l1 : Option Log) where
  abbrev Whole : List PlainDeed → Log → Log → Type 0
  Whole xs old new = Done xs old new × StaysAmid xs old new

  abbrev Front : List PlainDeed → Log → Log → Type 0
  Front xs old new = StaysAmid xs old new × StaysApplied xs old new

  first_applied : Changes l0 l1 (StaysAmid (made ds)) → Changes l0 l1 (StaysApplied (made ds)) → Changes l0 l1 (StaysApplied (made ds ++ moved ds ++ removed ds))
  first_applied stays applied =
      changed_by l0 l1 (Front (made ds)) (StaysApplied (made ds ++ moved ds ++ removed ds))
      (λ x y h. applied_front (made ds ++ moved ds) (removed ds) x y (stays_front (made ds) (moved ds) x y h.0) (applied_front (made ds) (moved ds) x y h.0 h.1))
      (both_changed l0 l1 (StaysAmid (made ds)) (StaysApplied (made ds)) stays applied)

  first_stopped : Changes l0 l1 (HasStopped (made ds)) → Changes l0 l1 (HasStopped (made ds ++ moved ds ++ removed ds))
  first_stopped stopped = changed_by l0 l1 (HasStopped (made ds)) (HasStopped (made ds ++ moved ds ++ removed ds))
      (λ x y h. stopped_front (made ds ++ moved ds) (removed ds) x y (stopped_front (made ds) (moved ds) x y h)) stopped

  module _ (l2 : Option Log) where
    second_applied : Changes l0 l1 (Done (made ds)) → Changes l0 l1 (StaysAmid (made ds)) → Changes l1 l2 (StaysAmid (moved ds)) → Changes l1 l2 (StaysApplied (moved ds)) → Changes l0 l2 (StaysApplied (made ds ++ moved ds ++ removed ds))
    second_applied does first stays applied =
        through l0 l1 l2 (Whole (made ds)) (Front (moved ds)) (StaysApplied (made ds ++ moved ds ++ removed ds))
        (λ x y z h k. applied_front (made ds ++ moved ds) (removed ds) x z (stays_then (made ds) (moved ds) x y z h.1 k.0) (applied_stays (made ds) (moved ds) x y z h.0.1 h.1 k.1))
        (both_changed l0 l1 (Done (made ds)) (StaysAmid (made ds)) does first) (both_changed l1 l2 (StaysAmid (moved ds)) (StaysApplied (moved ds)) stays applied)

    second_stopped : Changes l0 l1 (Done (made ds)) → Changes l1 l2 (HasStopped (moved ds)) → Changes l0 l2 (HasStopped (made ds ++ moved ds ++ removed ds))
    second_stopped does stopped =
        through l0 l1 l2 (Done (made ds)) (HasStopped (moved ds)) (HasStopped (made ds ++ moved ds ++ removed ds))
        (λ x y z h k. stopped_front (made ds ++ moved ds) (removed ds) x z (stopped_then (made ds) (moved ds) x y z h.1 k)) does stopped

    module _ (l3 : Option Log) where
      third_applied : Changes l0 l1 (Done (made ds)) → Changes l1 l2 (Done (moved ds)) → Changes l0 l1 (StaysAmid (made ds)) → Changes l1 l2 (StaysAmid (moved ds)) → Changes l2 l3 (StaysApplied (removed ds))
          → Changes l0 l3 (StaysApplied (made ds ++ moved ds ++ removed ds))
      third_applied one two first second applied =
          through l0 l2 l3 (Whole (made ds ++ moved ds)) (StaysApplied (removed ds)) (StaysApplied (made ds ++ moved ds ++ removed ds))
          (λ x y z h k. applied_stays (made ds ++ moved ds) (removed ds) x y z h.0.1 h.1 k)
          (both_changed l0 l2 (Done (made ds ++ moved ds)) (StaysAmid (made ds ++ moved ds)) (two_done ds l0 l1 l2 one two) (moved_amid ds l0 l1 l2 first second)) applied

      third_stopped : Changes l0 l1 (Done (made ds)) → Changes l1 l2 (Done (moved ds)) → Changes l2 l3 (HasStopped (removed ds)) → Changes l0 l3 (HasStopped (made ds ++ moved ds ++ removed ds))
      third_stopped one two stopped =
          through l0 l2 l3 (Done (made ds ++ moved ds)) (HasStopped (removed ds)) (HasStopped (made ds ++ moved ds ++ removed ds))
          (λ x y z h k. stopped_then (made ds ++ moved ds) (removed ds) x y z h.1 k) (two_done ds l0 l1 l2 one two) stopped

pub returns-in_err-do_phase-clause-applied : goal.returns-in_err-do_phase-clause-applied
returns-in_err-do_phase-clause-applied g c =
    first_applied (plains c.args.deeds.now) (g.F.Reads.log c.args.folder.now) (g.F.Reads.log c.do_phase.new.folder) c.in_err-do_phase.ensures.amid c.in_err-do_phase.ensures.applied

pub returns-in_err-do_phase-clause-left : goal.returns-in_err-do_phase-clause-left
returns-in_err-do_phase-clause-left g c =
    let ds = plains c.args.deeds.now in
    let l0 = g.F.Reads.log c.args.folder.now in
    let l1 = g.F.Reads.log c.do_phase.new.folder in
    let q = err_from_is_err_and c.from_residual.result c.from_residual.ensures.1 in
    rw (q.1, q.2) (unfit_by c.in_err-do_phase.field-0.0 (λ at. Changes l0 l1 (HasStopped (made ds))) (λ at. Changes l0 l1 (HasStopped (made ds ++ moved ds ++ removed ds))) (λ at stopped. first_stopped ds l0 l1 stopped) c.in_err-do_phase.ensures.left)

pub returns-in_err-do_phase-2-clause-applied : goal.returns-in_err-do_phase-2-clause-applied
returns-in_err-do_phase-2-clause-applied g c =
    second_applied (plains c.args.deeds.now) (g.F.Reads.log c.args.folder.now) (g.F.Reads.log c.do_phase.new.folder) (g.F.Reads.log c.do_phase-2.new.folder)
    c.in_ok-do_phase.ensures.done c.in_ok-do_phase.ensures.amid c.in_err-do_phase-2.ensures.amid c.in_err-do_phase-2.ensures.applied

pub returns-in_err-do_phase-2-clause-left : goal.returns-in_err-do_phase-2-clause-left
returns-in_err-do_phase-2-clause-left g c =
    let ds = plains c.args.deeds.now in
    let l0 = g.F.Reads.log c.args.folder.now in
    let l1 = g.F.Reads.log c.do_phase.new.folder in
    let l2 = g.F.Reads.log c.do_phase-2.new.folder in
    let q = err_from_is_err_and c.from_residual-in_err-do_phase-2.result c.from_residual-in_err-do_phase-2.ensures.1 in
    rw (q.1, q.2) (unfit_by c.in_err-do_phase-2.field-0.0 (λ at. Changes l1 l2 (HasStopped (moved ds))) (λ at. Changes l0 l2 (HasStopped (made ds ++ moved ds ++ removed ds)))
    (λ at stopped. second_stopped ds l0 l1 l2 c.in_ok-do_phase.ensures.done stopped) c.in_err-do_phase-2.ensures.left)

pub returns-in_err-do_phase-3-clause-applied : goal.returns-in_err-do_phase-3-clause-applied
returns-in_err-do_phase-3-clause-applied g c =
    third_applied (plains c.args.deeds.now) (g.F.Reads.log c.args.folder.now) (g.F.Reads.log c.do_phase.new.folder) (g.F.Reads.log c.do_phase-2.new.folder) (g.F.Reads.log c.do_phase-3.new.folder)
    c.in_ok-do_phase.ensures.done c.in_ok-do_phase-2.ensures.done c.in_ok-do_phase.ensures.amid c.in_ok-do_phase-2.ensures.amid c.in_err-do_phase-3.ensures.applied

pub returns-in_err-do_phase-3-clause-left : goal.returns-in_err-do_phase-3-clause-left
returns-in_err-do_phase-3-clause-left g c =
    let ds = plains c.args.deeds.now in
    let l0 = g.F.Reads.log c.args.folder.now in
    let l2 = g.F.Reads.log c.do_phase-2.new.folder in
    let l3 = g.F.Reads.log c.do_phase-3.new.folder in
    let q = err_from_is_err_and c.from_residual-in_err-do_phase-3.result c.from_residual-in_err-do_phase-3.ensures.1 in
    rw (q.1, q.2) (unfit_by c.in_err-do_phase-3.field-0.0 (λ at. Changes l2 l3 (HasStopped (removed ds))) (λ at. Changes l0 l3 (HasStopped (made ds ++ moved ds ++ removed ds)))
    (λ at stopped. third_stopped ds l0 (g.F.Reads.log c.do_phase.new.folder) l2 l3 c.in_ok-do_phase.ensures.done c.in_ok-do_phase-2.ensures.done stopped) c.in_err-do_phase-3.ensures.left)

pub returns-clause-applied : goal.returns-clause-applied
returns-clause-applied g c =
    third_applied (plains c.args.deeds.now) (g.F.Reads.log c.args.folder.now) (g.F.Reads.log c.do_phase.new.folder) (g.F.Reads.log c.do_phase-2.new.folder) (g.F.Reads.log c.do_phase-3.new.folder)
    c.in_ok-do_phase.ensures.done c.in_ok-do_phase-2.ensures.done c.in_ok-do_phase.ensures.amid c.in_ok-do_phase-2.ensures.amid c.in_ok-do_phase-3.ensures.applied
