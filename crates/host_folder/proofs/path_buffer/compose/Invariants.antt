-- The room holds the text of the path's first parts, and has place for the rest.
use Rattle.std.proofs.Common.{◌≡◌, ◌≤◌, ◌+◌, ◌*◌, length, take, string_bytes, string_len}
use Rattle.std.specs.String.{string_capacity}
use Rattle.host_calls.specs.HostPath.{joined}
use Rattle.host_folder.proofs.path_buffer.compose.Given as goal

abbrev pub invariant-loop-index : goal.invariant-loop-index
invariant-loop-index l = record {
  text : string_bytes l.room ≡ joined l.base (take l.index l.path);
  len : string_len l.room ≤ length l.base + 256 * l.index;
  capacity : string_capacity l.initial.room ≤ string_capacity l.room;
}
