use Rattle.std.proofs.Common.{◌≡◌, ◌*◌, ◌++◌, map, take, drop}
use Rattle.aes_block.specs.Aes.{aes}
use Rattle.aes_kernels.proofs.key.LaneKeyBlockKey.encrypt_blocks.Given as goal

-- the first groups are encrypted
abbrev pub invariant-loop-i : goal.invariant-loop-i
invariant-loop-i l = l.blocks ≡ map (aes l.self) (take (4 * l.i) l.fn.blocks) ++ drop (4 * l.i) l.fn.blocks

-- the first blocks are encrypted
abbrev pub invariant-loop-i-2 : goal.invariant-loop-i-2
invariant-loop-i-2 l = l.blocks ≡ map (aes l.self) (take l.i l.fn.blocks) ++ drop l.i l.fn.blocks
