use Rattle.std.proofs.Common.{◌≡◌, ◌+◌, ◌≤◌, vec_len, vec_capacity}
use Rattle.session_core.proofs.fids.FidTable.clear.Given as goal

abbrev pub invariant-loop-slot : goal.invariant-loop-slot
invariant-loop-slot l = record {
  all : vec_len l.self-inside.used + vec_len l.self-inside.spare ≡ 1024;
  used_room : 1024 ≤ vec_capacity l.self-inside.used;
  spare_room : 1024 ≤ vec_capacity l.self-inside.spare;
}

abbrev pub decreases-loop-slot : goal.decreases-loop-slot
decreases-loop-slot l = vec_len l.self-inside.used
