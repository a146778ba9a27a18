use Rattle.std.proofs.Common.{refl, arith}
use Rattle.outside.specs.Calls.{Changes}
use Rattle.outside.specs.Disk.{Disk}
use Rattle.outside.specs.Images.{Log, now}
use Rattle.outside.proofs.Told.{told_new, told_through, both_changed, changed_by}
use Rattle.deeds.specs.Deeds.{DoesAll, in_order}
use Rattle.deeds.specs.Plain.{plains}
use Rattle.deeds.proofs.Phases.{cause_then}
use Rattle.chunk_journal.specs.Journal.{IsQuiet, IsReady, IsAlike, StaysShut, AnyMoment, HasCommitted}
use Rattle.chunk_journal.proofs.Gate.{with_old}
use Rattle.chunk_journal.proofs.Commits.{run_ready, made_leaves, then_leaves, then_committed}
use Rattle.chunk_journal.proofs.running.commit.Given.{Over}
use Rattle.chunk_journal.proofs.running.commit.Goals as goal
use Rattle.chunk_journal.proofs.running.commit.Goals.{After-commit_ready}

abbrev Ready : Log → Log → Type 0
Ready old new = IsReady new × IsAlike (now old) (now new)

pub commit_ready-requires-clause-ready : goal.commit_ready-requires-clause-ready
commit_ready-requires-clause-ready g c = told_new (g.D.Reads.log c.args.folder.now) (g.D.Reads.log c.make_ready.new.folder) Ready IsReady (λ x y r. r.0) c.in_ok-make_ready.ensures.ready

pub commit_ready-requires-clause-can : goal.commit_ready-requires-clause-can
commit_ready-requires-clause-can g c =
    let bs = plains c.args.deeds.now in
    let l0 = g.D.Reads.log c.args.folder.now in
    let l1 = g.D.Reads.log c.make_ready.new.folder in
    told_new l0 l1 (λ x y. (Ready x y × IsQuiet x) × ((after : Disk) × DoesAll (in_order bs) (now x) after)) (λ log. (after : Disk) × DoesAll (in_order bs) (now log) after)
    (λ x y p. let u = run_ready bs c.requires.repeatable x y p.1.0 p.0.1 p.0.0.1 p.1.1 in (u.0, u.1))
    (with_old l0 l1 (λ x y. Ready x y × IsQuiet x) (λ log. (after : Disk) × DoesAll (in_order bs) (now log) after) (with_old l0 l1 Ready IsQuiet c.in_ok-make_ready.ensures.ready c.requires.quiet) c.requires.can)

pub returns-in_err-make_ready-clause-any_moment : goal.returns-in_err-make_ready-clause-any_moment
returns-in_err-make_ready-clause-any_moment g c =
    changed_by (g.D.Reads.log c.args.folder.now) (g.D.Reads.log c.make_ready.new.folder) StaysShut (AnyMoment (plains c.args.deeds.now)) (made_leaves (plains c.args.deeds.now) c.requires.repeatable) c.in_err-make_ready.ensures.any_moment

-- the journal is there, and the batch is committed as far as that came
made_then : (g : Over) (c : After-commit_ready g) → Changes (g.D.Reads.log c.make_ready.new.folder) (g.D.Reads.log c.commit_ready.new.folder) (AnyMoment (plains c.args.deeds.now)) → Changes (g.D.Reads.log c.args.folder.now) (g.D.Reads.log c.commit_ready.new.folder) (AnyMoment (plains c.args.deeds.now))
made_then g c any =
    let bs = plains c.args.deeds.now in
    told_through (g.D.Reads.log c.args.folder.now) (g.D.Reads.log c.make_ready.new.folder) (g.D.Reads.log c.commit_ready.new.folder) IsQuiet (λ x y. StaysShut x y × Ready x y) (AnyMoment bs) (AnyMoment bs) (λ x y z q p any. then_leaves bs c.requires.repeatable x y z q p.0 p.1.1 any)
    c.requires.quiet (both_changed (g.D.Reads.log c.args.folder.now) (g.D.Reads.log c.make_ready.new.folder) StaysShut Ready c.in_ok-make_ready.ensures.any_moment c.in_ok-make_ready.ensures.ready) any

pub returns-in_err-commit_ready-clause-any_moment : goal.returns-in_err-commit_ready-clause-any_moment
returns-in_err-commit_ready-clause-any_moment g c = made_then g (goal.at.returns-in_err-commit_ready-clause-any_moment g c).After-commit_ready c.in_err-commit_ready.ensures.any_moment

pub returns-clause-any_moment : goal.returns-clause-any_moment
returns-clause-any_moment g c = made_then g (goal.at.returns-clause-any_moment g c).After-commit_ready c.in_ok-commit_ready.ensures.any_moment

pub returns-clause-committed : goal.returns-clause-committed
returns-clause-committed g c =
    let bs = plains c.args.deeds.now in
    told_through (g.D.Reads.log c.args.folder.now) (g.D.Reads.log c.make_ready.new.folder) (g.D.Reads.log c.commit_ready.new.folder) IsQuiet Ready (HasCommitted bs) (HasCommitted bs) (λ x y z q r has. then_committed bs c.requires.repeatable x y z q r.1 has)
    c.requires.quiet c.in_ok-make_ready.ensures.ready c.in_ok-commit_ready.ensures.committed

pub returns-in_err-commit_ready-clause-cause : goal.returns-in_err-commit_ready-clause-cause
returns-in_err-commit_ready-clause-cause g c =
    cause_then (g.D.Reads.faults c.args.folder.now) (g.D.Reads.faults c.make_ready.new.folder) (g.D.Reads.faults c.commit_ready.new.folder) _ c.in_ok-make_ready.ensures.cause.later
    (record { later = c.in_err-commit_ready.ensures.cause.later; rose = λ failed. c.in_err-commit_ready.ensures.cause.rose refl })

pub returns-clause-cause : goal.returns-clause-cause
returns-clause-cause g c = record { later = omega (arith, c.in_ok-make_ready.ensures.cause.later, c.in_ok-commit_ready.ensures.cause.later); rose = λ failed. absurd cc }
