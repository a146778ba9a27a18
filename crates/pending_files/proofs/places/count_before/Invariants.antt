use Rattle.std.proofs.Common.{◌+◌, ℕ, drop}
use Rattle.deeds.specs.Plain.{plain_ranges}
use Rattle.pending_files.specs.Kept.{IsGap}
use Rattle.pending_files.proofs.places.count_before.Given as goal

abbrev pub invariant-loop-index : goal.invariant-loop-index
invariant-loop-index l = (k : ℕ) → IsGap l.at (plain_ranges (drop l.index l.ranges)) k → IsGap l.at (plain_ranges l.ranges) (l.index + k)
