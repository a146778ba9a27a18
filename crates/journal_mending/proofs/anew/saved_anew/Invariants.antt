use Rattle.std.proofs.Common.{◌≡◌, ◌≤◌}
use Rattle.journal_mending.proofs.anew.saved_anew.Given as goal

abbrev pub invariant-loop-index : goal.invariant-loop-index
invariant-loop-index g l = record {
  log : g.R.Reads.log l.folder ≡ g.R.Reads.log l.fn.folder;
  changes : g.R.Reads.changes l.folder ≡ g.R.Reads.changes l.fn.folder;
  later : g.R.Reads.faults l.fn.folder ≤ g.R.Reads.faults l.folder;
}
