use Rattle.std.proofs.Common.{◌≡◌, ◌≤◌, ◌+◌, ℕ, length, take}
use Rattle.outside.specs.Disk.{Disk}
use Rattle.outside_mem.specs.Kept.{all_calls}
use Rattle.outside_mem.specs.Pictures.{changes_since}
use Rattle.outside_mem.proofs.images.synced_len.Given as goal

abbrev pub invariant-loop-index : goal.invariant-loop-index
invariant-loop-index l = record {
  within : l.synced ≤ l.index;
  since : (start : Disk) (k : ℕ) → l.synced ≤ k → k ≤ l.index → length (changes_since (all_calls start (take k l.calls))) + l.synced ≡ k;
}
