use Rattle.std.proofs.Common.{◌≡◌}
use Rattle.std.specs.Prelude.{IsTrue}
use Rattle.outside.specs.Calls.{HasCause}
use Rattle.chunk_journal.proofs.headers.has_other_header.Given as goal

abbrev pub invariant-loop-deed : goal.invariant-loop-deed
invariant-loop-deed g l = record {
  log : g.D.Reads.log l.folder ≡ g.D.Reads.log l.fn.folder;
  changes : g.D.Reads.changes l.folder ≡ g.D.Reads.changes l.fn.folder;
  cause : HasCause (g.D.Reads.faults l.fn.folder) (g.D.Reads.faults l.folder) (IsTrue l.has_other);
}
