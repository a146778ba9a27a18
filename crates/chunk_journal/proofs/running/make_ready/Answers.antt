use Rattle.outside.proofs.Told.{told_same}
use Rattle.chunk_journal.specs.Journal.{IsQuiet, StaysShut}
use Rattle.chunk_journal.proofs.Commits.{quiet_stays}
use Rattle.chunk_journal.proofs.running.make_ready.Goals as goal

pub returns-in_err-has_gate-clause-any_moment : goal.returns-in_err-has_gate-clause-any_moment
returns-in_err-has_gate-clause-any_moment g c = told_same (g.D.Reads.log c.args.folder.now) (g.D.Reads.log c.has_gate.new.folder) IsQuiet StaysShut c.in_err-has_gate.ensures.log quiet_stays c.requires.quiet

pub returns-then-branch-clause-any_moment : goal.returns-then-branch-clause-any_moment
returns-then-branch-clause-any_moment g c = told_same (g.D.Reads.log c.args.folder.now) (g.D.Reads.log c.has_gate.new.folder) IsQuiet StaysShut c.in_ok-has_gate.ensures.log quiet_stays c.requires.quiet
