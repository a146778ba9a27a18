use Rattle.std.proofs.Common.{ℕ, List, ◌-◌}
use Rattle.aes_kernels.specs.Circuit.{ArePlanes, AreRoundKeys, HasBlocks, after}
use Rattle.aes_kernels.proofs.blocks.encrypted_eight.Given as goal

-- the blocks after r - 1 rounds
abbrev pub invariant-loop-r : goal.invariant-loop-r
invariant-loop-r l = ArePlanes l.x × ((key : List ℕ) → AreRoundKeys key l.keys → HasBlocks l.x (after key l.blocks (l.r - 1)))
