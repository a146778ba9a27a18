use Rattle.std.proofs.Common.{◌≡◌, ℕ, List, length, drop}
use Rattle.deeds.specs.Reshape.{written, CanWrite}
use Rattle.deeds.specs.Plain.{plain_ranges}
use Rattle.pending_files.specs.Later.{Shows}
use Rattle.pending_files.proofs.reading.overlay.Given as goal

abbrev pub invariant-loop-range : goal.invariant-loop-range
invariant-loop-range l = record {
  long : length l.window ≡ length l.initial.window;
  shown : (was : List ℕ) → CanWrite (plain_ranges l.ranges) was → Shows l.at was l.initial.window
      → (so_far : List ℕ) × CanWrite (plain_ranges (drop l.range-index l.ranges)) so_far × Shows l.at so_far l.window
      × (written (plain_ranges (drop l.range-index l.ranges)) so_far ≡ written (plain_ranges l.ranges) was);
}
