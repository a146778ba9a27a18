use Rattle.std.proofs.Common.{◌≡◌, ◌+◌, ℕ}
use Rattle.std.specs.Prelude.{vec_len}
use Rattle.deeds.specs.Plain.{plain_ranges}
use Rattle.pending_files.specs.Pending.{cut_to, AreChunks}
use Rattle.pending_files.specs.Kept.{IsList, AreBuffers}
use Rattle.pending_files.proofs.room.cut_ranges.Given as goal

abbrev pub invariant-loop-range : goal.invariant-loop-range
invariant-loop-range l = record {
  same : cut_to l.len (plain_ranges l.ranges.items) ≡ cut_to l.len (plain_ranges l.initial.ranges.items);
  chunks : (most : ℕ) × AreChunks 0 most (plain_ranges l.ranges.items);
  list : IsList l.ranges;
  buffers : AreBuffers l.buffers;
  all : vec_len l.ranges + vec_len l.buffers ≡ vec_len l.initial.ranges + vec_len l.initial.buffers;
}

abbrev pub decreases-loop-range : goal.decreases-loop-range
decreases-loop-range l = vec_len l.ranges
