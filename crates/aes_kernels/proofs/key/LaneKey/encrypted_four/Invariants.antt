use Rattle.std.proofs.Common.{◌≡◌, ◌-◌}
use Rattle.aes_kernels.proofs.LaneKeys.{vectors}
use Rattle.aes_kernels.proofs.key.LaneKey.encrypted_four.Given as goal

abbrev pub invariant-loop-r : goal.invariant-loop-r
invariant-loop-r l = l.x ≡ vectors l.self (l.r - 1) l.blocks
