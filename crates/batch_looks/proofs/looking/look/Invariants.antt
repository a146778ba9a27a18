use Rattle.std.proofs.Common.{◌≡◌, ◌≤◌}
use Rattle.batch_looks.proofs.looking.look.Given as goal

abbrev pub invariant-loop-deed : goal.invariant-loop-deed
invariant-loop-deed g l = record {
  log : g.R.Reads.log l.folder ≡ g.R.Reads.log l.fn.folder;
  changes : g.R.Reads.changes l.folder ≡ g.R.Reads.changes l.fn.folder;
  later : g.R.Reads.faults l.fn.folder ≤ g.R.Reads.faults l.folder;
}
