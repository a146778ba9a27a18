use Rattle.std.proofs.Common.{◌≡◌}
use Rattle.std.specs.Prelude.{vec_len}
use Rattle.pending_files.specs.Kept.{AreBuffers}
use Rattle.pending_files.proofs.room.new_buffers.Given as goal

abbrev pub invariant-loop : goal.invariant-loop
invariant-loop l = record { are : AreBuffers l.buffers; count : vec_len l.buffers ≡ l.counter }
