use Rattle.std.proofs.Common.{◌≡◌, ◌+◌}
use Rattle.std.specs.Prelude.{vec_len}
use Rattle.std.specs.List.{AllByRecursion}
use Rattle.deeds.specs.Plain.{plains}
use Rattle.pending_files.specs.Pending.{chunk_count, IsWaiting}
use Rattle.pending_files.specs.Kept.{AreLent, AreLists, AreBuffers}
use Rattle.pending_files.proofs.pending.Pending.clear.Given as goal

abbrev pub invariant-loop-deed : goal.invariant-loop-deed
invariant-loop-deed l = record {
  each : AllByRecursion IsWaiting (plains l.self-inside.deeds.items);
  lent : AreLent l.self-inside.deeds;
  lists : AreLists l.self-inside.lists;
  buffers : AreBuffers l.self-inside.buffers;
  all_lists : vec_len l.self-inside.deeds + vec_len l.self-inside.lists ≡ 64;
  all_buffers : chunk_count (plains l.self-inside.deeds.items) + vec_len l.self-inside.buffers ≡ 64;
}

abbrev pub decreases-loop-deed : goal.decreases-loop-deed
decreases-loop-deed l = vec_len l.self-inside.deeds
