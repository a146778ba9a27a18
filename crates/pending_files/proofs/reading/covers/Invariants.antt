use Rattle.std.proofs.Common.{ℕ, ◌≤◌, ◌<◌}
use Rattle.deeds.specs.Reshape.{IsUncovered}
use Rattle.deeds.specs.Plain.{plain_ranges}
use Rattle.pending_files.proofs.reading.covers.Given as goal

abbrev pub invariant-loop-start : goal.invariant-loop-start
invariant-loop-start l = record {
  from : l.at ≤ l.end;
  covered : (i : ℕ) → l.at ≤ i → i < l.end → IsUncovered (plain_ranges l.ranges) i → ⊥;
}
