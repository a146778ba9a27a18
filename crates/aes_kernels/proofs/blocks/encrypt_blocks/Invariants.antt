use Rattle.std.proofs.Common.{◌≡◌, ◌*◌, ◌++◌, map, take, drop}
use Rattle.aes_block.specs.Aes.{aes}
use Rattle.aes_kernels.proofs.blocks.encrypt_blocks.Given as goal

-- the first groups are encrypted
abbrev pub invariant-loop-i : goal.invariant-loop-i
invariant-loop-i l = l.blocks ≡ map (aes l.key) (take (8 * l.i) l.fn.blocks) ++ drop (8 * l.i) l.fn.blocks

-- the first blocks are encrypted
abbrev pub invariant-loop-i-2 : goal.invariant-loop-i-2
invariant-loop-i-2 l = l.blocks ≡ map (aes l.key) (take l.i l.fn.blocks) ++ drop l.i l.fn.blocks
