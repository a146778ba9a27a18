use Rattle.std.proofs.Common.{◌≡◌, ◌+◌, ◌≤◌, length, subst, arith}
use Rattle.outside.specs.Calls.{Changes}
use Rattle.outside.specs.Changes.{Write}
use Rattle.outside.specs.Disk.{Path}
use Rattle.outside.specs.Images.{HasDone, HasBroken}
use Rattle.outside.proofs.Told.{changed_by, told_new}
use Rattle.chunk_journal.specs.Journal.{journal_file}
use Rattle.chunk_journal.specs.Stages.{HasPlace, KeepsFront, KeepsItShut}
use Rattle.chunk_journal.proofs.Behind.{behind_did, behind_shut, behind_broke, behind_place, less_place}
use Rattle.chunk_journal.proofs.headers.write_behind.Given.{Over}
use Rattle.chunk_journal.proofs.headers.write_behind.Goals as goal
use Rattle.chunk_journal.proofs.headers.write_behind.Goals.{In_ok-write}

-- the journal was written
did : (g : Over) (c : In_ok-write g) → Changes (g.D.Reads.log c.args.folder.now) (g.D.Reads.log c.write.new.self) (HasDone (Write journal_file c.args.at c.args.bytes.now))
did g c = subst (λ (p : Path). Changes (g.D.Reads.log c.args.folder.now) (g.D.Reads.log c.write.new.self) (HasDone (Write p c.args.at c.args.bytes.now))) c.requires.journal c.in_ok-write.ensures.done

pub returns-in_err-write-clause-any_moment : goal.returns-in_err-write-clause-any_moment
returns-in_err-write-clause-any_moment g c =
    changed_by (g.D.Reads.log c.args.folder.now) (g.D.Reads.log c.write.new.self) (HasBroken (Write journal_file c.args.at c.args.bytes.now)) KeepsItShut (behind_broke c.args.at c.args.bytes.now c.requires.behind)
    (subst (λ (p : Path). Changes (g.D.Reads.log c.args.folder.now) (g.D.Reads.log c.write.new.self) (HasBroken (Write p c.args.at c.args.bytes.now))) c.requires.journal c.in_err-write.ensures.broken)

pub returns-clause-front : goal.returns-clause-front
returns-clause-front g c =
    changed_by (g.D.Reads.log c.args.folder.now) (g.D.Reads.log c.write.new.self) (HasDone (Write journal_file c.args.at c.args.bytes.now)) (KeepsFront c.args.at) (behind_did c.args.at c.args.bytes.now c.requires.behind)
    (did g (goal.at.returns-clause-front g c).In_ok-write)

pub returns-clause-place : goal.returns-clause-place
returns-clause-place g c =
    let next = c.saturating_add.result in
    let end = c.args.at + length c.args.bytes.now in
    told_new (g.D.Reads.log c.args.folder.now) (g.D.Reads.log c.write.new.self) (HasDone (Write journal_file c.args.at c.args.bytes.now)) (HasPlace next)
    (λ old new did. less_place next end (omega (arith, c.saturating_add.ensures)) new (behind_place c.args.at c.args.bytes.now old new did))
    (did g (goal.at.returns-clause-place g c).In_ok-write)

pub returns-clause-any_moment : goal.returns-clause-any_moment
returns-clause-any_moment g c =
    changed_by (g.D.Reads.log c.args.folder.now) (g.D.Reads.log c.write.new.self) (HasDone (Write journal_file c.args.at c.args.bytes.now)) KeepsItShut (behind_shut c.args.at c.args.bytes.now c.requires.behind)
    (did g (goal.at.returns-clause-any_moment g c).In_ok-write)
