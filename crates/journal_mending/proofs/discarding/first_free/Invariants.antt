use Rattle.std.proofs.Common.{◌≡◌, ◌≤◌}
use Rattle.outside.specs.Calls.{Told}
use Rattle.journal_mending.proofs.Keeping.{AllTaken}
use Rattle.journal_mending.proofs.discarding.first_free.Given as goal

abbrev pub invariant-loop-number : goal.invariant-loop-number
invariant-loop-number g l = record {
  log : g.R.Reads.log l.folder ≡ g.R.Reads.log l.fn.folder;
  later : g.R.Reads.faults l.fn.folder ≤ g.R.Reads.faults l.folder;
  first : Told (g.R.Reads.log l.fn.folder) (AllTaken l.number);
}
