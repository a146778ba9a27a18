use Rattle.std.proofs.Common.{◌≡◌}
use Rattle.std.specs.Prelude.{IsTrue, IsFalse}
use Rattle.outside.specs.Calls.{HasCause, Told}
use Rattle.write_back.proofs.looking.drop_changed.Given as goal

abbrev pub invariant-loop-index : goal.invariant-loop-index
invariant-loop-index g l = record {
  untold : Told (g.R.Reads.log l.fn.folder) (λ log. IsFalse l.dropped);
  kept : IsFalse l.dropped → l.pending ≡ l.fn.pending;
  log : g.R.Reads.log l.folder ≡ g.R.Reads.log l.fn.folder;
  changes : g.R.Reads.changes l.folder ≡ g.R.Reads.changes l.fn.folder;
  cause : HasCause (g.R.Reads.faults l.fn.folder) (g.R.Reads.faults l.folder) (IsTrue l.dropped);
}
