use Rattle.std.proofs.Common.{◌∷◌, [], refl, sym, subst, arith}
use Rattle.outside.specs.Calls.{Told, Changes}
use Rattle.outside.specs.Disk.{Disk, Path}
use Rattle.outside.specs.Changes.{Write, CanDo}
use Rattle.outside.specs.Images.{Log, now, IsSteady}
use Rattle.outside.proofs.Told.{told_new}
use Rattle.deeds.specs.Deeds.{DoesAll, in_order}
use Rattle.outside.specs.Unsynced.{IsSynced}
use Rattle.deeds.specs.Plain.{plains}
use Rattle.deeds.proofs.Growing.{steady_of}
use Rattle.deeds.proofs.Phases.{cause_then}
use Rattle.chunk_journal.specs.Journal.{journal_file}
use Rattle.chunk_journal.specs.Stages.{HasStaged, IsKept}
use Rattle.chunk_journal.proofs.Gate.{IsStaged, IsOpened, AreDone, told_staged_leaves, told_staged, told_gate_leaves, told_opened, told_deeds_leave, told_done, told_close_leaves, told_closed, can_open, can_close, can_run, with_old}
use Rattle.chunk_journal.proofs.running.commit_ready.Given.{Over}
use Rattle.chunk_journal.proofs.running.commit_ready.Goals as goal
use Rattle.chunk_journal.proofs.running.commit_ready.Goals.{In_ok-stage, In_ok-write_synced, In_ok-do_deeds}

-- ---- the stages, each from the one before

abbrev Staged : (g : Over) → In_ok-stage g → Type 0
Staged g c = Changes (g.D.Reads.log c.args.folder.now) (g.D.Reads.log c.stage.new.folder) (IsStaged (plains c.args.deeds.now) c.requires.batch c.requires.repeatable)

abbrev Opened : (g : Over) → In_ok-write_synced g → Type 0
Opened g c = Changes (g.D.Reads.log c.args.folder.now) (g.D.Reads.log c.write_synced.new.folder) (IsOpened (plains c.args.deeds.now) c.requires.batch c.requires.repeatable)

abbrev Done : (g : Over) → In_ok-do_deeds g → Type 0
Done g c = Changes (g.D.Reads.log c.args.folder.now) (g.D.Reads.log c.do_deeds.new.folder) (AreDone (plains c.args.deeds.now) c.requires.batch c.requires.repeatable)

staged : (g : Over) (c : In_ok-stage g) → Staged g c
staged g c =
    told_staged (plains c.args.deeds.now) c.requires.batch c.requires.repeatable c.args.journal.now c.requires.journal (g.D.Reads.log c.args.folder.now) (g.D.Reads.log c.stage.new.folder)
    c.requires.ready c.in_ok-stage.ensures.any_moment c.in_ok-stage.ensures.staged

opened : (g : Over) (c : In_ok-write_synced g) → Changes (g.D.Reads.log c.args.folder.now) (g.D.Reads.log c.stage.new.folder) (IsStaged (plains c.args.deeds.now) c.requires.batch c.requires.repeatable) → Opened g c
opened g c stage =
    told_opened (plains c.args.deeds.now) c.requires.batch c.requires.repeatable c.args.journal.now c.requires.journal (g.D.Reads.log c.args.folder.now) (g.D.Reads.log c.stage.new.folder) (g.D.Reads.log c.write_synced.new.folder)
    stage c.in_ok-write_synced.ensures.written c.in_ok-write_synced.ensures.any_moment

done : (g : Over) (c : In_ok-do_deeds g) → Changes (g.D.Reads.log c.args.folder.now) (g.D.Reads.log c.write_synced.new.folder) (IsOpened (plains c.args.deeds.now) c.requires.batch c.requires.repeatable) → Done g c
done g c gate =
    told_done (plains c.args.deeds.now) c.requires.batch c.requires.repeatable c.args.journal.now c.requires.journal (g.D.Reads.log c.args.folder.now) (g.D.Reads.log c.write_synced.new.folder) (g.D.Reads.log c.do_deeds.new.folder)
    gate c.in_ok-do_deeds.ensures.grown c.in_ok-do_deeds.ensures.amid c.in_ok-do_deeds.ensures.done

-- ---- the answers

pub write_synced-requires-clause-steady : goal.write_synced-requires-clause-steady
write_synced-requires-clause-steady g c =
    told_new (g.D.Reads.log c.args.folder.now) (g.D.Reads.log c.stage.new.folder) (HasStaged (plains c.args.deeds.now)) IsSteady (λ x y s. steady_of y s.0) c.in_ok-stage.ensures.staged

pub write_synced-requires-clause-can : goal.write_synced-requires-clause-can
write_synced-requires-clause-can g c =
    let at = goal.at.write_synced-requires-clause-can g c in
    subst (λ (q : Path). Told (g.D.Reads.log c.stage.new.folder) (λ log. CanDo (Write q 0 (1 ∷ [])) (now log))) (sym c.requires.journal)
    (told_new (g.D.Reads.log c.args.folder.now) (g.D.Reads.log c.stage.new.folder) (IsStaged (plains c.args.deeds.now) c.requires.batch c.requires.repeatable) (λ log. CanDo (Write journal_file 0 (1 ∷ [])) (now log)) (can_open (plains c.args.deeds.now) c.requires.batch c.requires.repeatable) (staged g at.In_ok-stage))

pub do_deeds-requires-clause-steady : goal.do_deeds-requires-clause-steady
do_deeds-requires-clause-steady g c =
    told_new (g.D.Reads.log c.stage.new.folder) (g.D.Reads.log c.write_synced.new.folder) (IsKept (Write c.args.journal.now 0 (1 ∷ []))) IsSteady (λ x y s. steady_of y s.steady) c.in_ok-write_synced.ensures.written

pub do_deeds-requires-clause-can : goal.do_deeds-requires-clause-can
do_deeds-requires-clause-can g c =
    let at = goal.at.do_deeds-requires-clause-can g c in
    let Can = λ (log : Log). (after : Disk) × DoesAll (in_order (plains c.args.deeds.now)) (now log) after in
    told_new (g.D.Reads.log c.args.folder.now) (g.D.Reads.log c.write_synced.new.folder) (λ x y. IsOpened (plains c.args.deeds.now) c.requires.batch c.requires.repeatable x y × Can x) Can (λ x y q. can_run (plains c.args.deeds.now) c.requires.batch c.requires.repeatable x y q.0 q.1)
    (with_old (g.D.Reads.log c.args.folder.now) (g.D.Reads.log c.write_synced.new.folder) (IsOpened (plains c.args.deeds.now) c.requires.batch c.requires.repeatable) Can (opened g at.In_ok-write_synced (staged g at.In_ok-stage)) c.requires.can)

pub write_synced-requires-2-clause-steady : goal.write_synced-requires-2-clause-steady
write_synced-requires-2-clause-steady g c =
    told_new (g.D.Reads.log c.write_synced.new.folder) (g.D.Reads.log c.do_deeds.new.folder) (λ x y. IsSynced y × DoesAll (in_order (plains c.args.deeds.now)) (now x) (now y)) IsSteady (λ x y s. steady_of y s.0) c.in_ok-do_deeds.ensures.done

pub write_synced-requires-2-clause-can : goal.write_synced-requires-2-clause-can
write_synced-requires-2-clause-can g c =
    let at = goal.at.write_synced-requires-2-clause-can g c in
    subst (λ (q : Path). Told (g.D.Reads.log c.do_deeds.new.folder) (λ log. CanDo (Write q 0 (0 ∷ [])) (now log))) (sym c.requires.journal)
    (told_new (g.D.Reads.log c.args.folder.now) (g.D.Reads.log c.do_deeds.new.folder) (AreDone (plains c.args.deeds.now) c.requires.batch c.requires.repeatable) (λ log. CanDo (Write journal_file 0 (0 ∷ [])) (now log)) (can_close (plains c.args.deeds.now) c.requires.batch c.requires.repeatable) (done g at.In_ok-do_deeds (opened g at.In_ok-write_synced (staged g at.In_ok-stage))))

pub returns-in_err-stage-clause-any_moment : goal.returns-in_err-stage-clause-any_moment
returns-in_err-stage-clause-any_moment g c =
    told_staged_leaves (plains c.args.deeds.now) c.requires.batch c.requires.repeatable c.args.journal.now c.requires.journal (g.D.Reads.log c.args.folder.now) (g.D.Reads.log c.stage.new.folder) c.requires.ready c.in_err-stage.ensures.any_moment

pub returns-in_err-write_synced-clause-any_moment : goal.returns-in_err-write_synced-clause-any_moment
returns-in_err-write_synced-clause-any_moment g c =
    let at = goal.at.returns-in_err-write_synced-clause-any_moment g c in
    told_gate_leaves (plains c.args.deeds.now) c.requires.batch c.requires.repeatable c.args.journal.now c.requires.journal (g.D.Reads.log c.args.folder.now) (g.D.Reads.log c.stage.new.folder) (g.D.Reads.log c.write_synced.new.folder) (staged g at.In_ok-stage) c.in_err-write_synced.ensures.any_moment

pub returns-in_err-do_deeds-clause-any_moment : goal.returns-in_err-do_deeds-clause-any_moment
returns-in_err-do_deeds-clause-any_moment g c =
    let at = goal.at.returns-in_err-do_deeds-clause-any_moment g c in
    told_deeds_leave (plains c.args.deeds.now) c.requires.batch c.requires.repeatable c.args.journal.now c.requires.journal (g.D.Reads.log c.args.folder.now) (g.D.Reads.log c.write_synced.new.folder) (g.D.Reads.log c.do_deeds.new.folder) (opened g at.In_ok-write_synced (staged g at.In_ok-stage)) c.in_err-do_deeds.ensures.grown c.in_err-do_deeds.ensures.amid

pub returns-in_err-write_synced-2-clause-any_moment : goal.returns-in_err-write_synced-2-clause-any_moment
returns-in_err-write_synced-2-clause-any_moment g c =
    let at = goal.at.returns-in_err-write_synced-2-clause-any_moment g c in
    told_close_leaves (plains c.args.deeds.now) c.requires.batch c.requires.repeatable c.args.journal.now c.requires.journal (g.D.Reads.log c.args.folder.now) (g.D.Reads.log c.do_deeds.new.folder) (g.D.Reads.log c.write_synced-2.new.folder) (done g at.In_ok-do_deeds (opened g at.In_ok-write_synced (staged g at.In_ok-stage))) c.in_err-write_synced-2.ensures.any_moment

pub returns-clause-any_moment : goal.returns-clause-any_moment
returns-clause-any_moment g c =
    let at = goal.at.returns-clause-any_moment g c in
    told_close_leaves (plains c.args.deeds.now) c.requires.batch c.requires.repeatable c.args.journal.now c.requires.journal (g.D.Reads.log c.args.folder.now) (g.D.Reads.log c.do_deeds.new.folder) (g.D.Reads.log c.write_synced-2.new.folder) (done g at.In_ok-do_deeds (opened g at.In_ok-write_synced (staged g at.In_ok-stage))) c.in_ok-write_synced-2.ensures.any_moment

pub returns-clause-committed : goal.returns-clause-committed
returns-clause-committed g c =
    let at = goal.at.returns-clause-committed g c in
    told_closed (plains c.args.deeds.now) c.requires.batch c.requires.repeatable c.args.journal.now c.requires.journal (g.D.Reads.log c.args.folder.now) (g.D.Reads.log c.do_deeds.new.folder) (g.D.Reads.log c.write_synced-2.new.folder) (done g at.In_ok-do_deeds (opened g at.In_ok-write_synced (staged g at.In_ok-stage))) c.in_ok-write_synced-2.ensures.written

pub returns-in_err-write_synced-clause-cause : goal.returns-in_err-write_synced-clause-cause
returns-in_err-write_synced-clause-cause g c =
    cause_then (g.D.Reads.faults c.args.folder.now) (g.D.Reads.faults c.stage.new.folder) (g.D.Reads.faults c.write_synced.new.folder) _ (omega (arith, c.in_ok-stage.ensures.cause.later)) (record { later = c.in_err-write_synced.ensures.cause.later; rose = λ failed. c.in_err-write_synced.ensures.cause.rose refl })

pub returns-in_err-do_deeds-clause-cause : goal.returns-in_err-do_deeds-clause-cause
returns-in_err-do_deeds-clause-cause g c =
    cause_then (g.D.Reads.faults c.args.folder.now) (g.D.Reads.faults c.write_synced.new.folder) (g.D.Reads.faults c.do_deeds.new.folder) _ (omega (arith, c.in_ok-stage.ensures.cause.later, c.in_ok-write_synced.ensures.cause.later)) (record { later = c.in_err-do_deeds.ensures.cause.later; rose = λ failed. c.in_err-do_deeds.ensures.cause.rose refl })

pub returns-in_err-write_synced-2-clause-cause : goal.returns-in_err-write_synced-2-clause-cause
returns-in_err-write_synced-2-clause-cause g c =
    cause_then (g.D.Reads.faults c.args.folder.now) (g.D.Reads.faults c.do_deeds.new.folder) (g.D.Reads.faults c.write_synced-2.new.folder) _ (omega (arith, c.in_ok-stage.ensures.cause.later, c.in_ok-write_synced.ensures.cause.later, c.in_ok-do_deeds.ensures.cause.later)) (record { later = c.in_err-write_synced-2.ensures.cause.later; rose = λ failed. c.in_err-write_synced-2.ensures.cause.rose refl })

pub returns-clause-cause : goal.returns-clause-cause
returns-clause-cause g c =
    record { later = omega (arith, c.in_ok-stage.ensures.cause.later, c.in_ok-write_synced.ensures.cause.later, c.in_ok-do_deeds.ensures.cause.later, c.in_ok-write_synced-2.ensures.cause.later); rose = λ failed. absurd cc }
