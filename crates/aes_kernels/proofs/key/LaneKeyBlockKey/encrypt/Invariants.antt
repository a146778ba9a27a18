use Rattle.std.proofs.Common.{◌≡◌, ◌-◌, map}
use Rattle.aes_kernels.specs.Nibbles.{based}
use Rattle.aes_kernels.proofs.LaneKeys.{after}
use Rattle.aes_kernels.proofs.key.LaneKeyBlockKey.encrypt.Given as goal

abbrev pub invariant-loop-r : goal.invariant-loop-r
invariant-loop-r l = l.x ≡ map based (after l.self (l.r - 1) l.block)
