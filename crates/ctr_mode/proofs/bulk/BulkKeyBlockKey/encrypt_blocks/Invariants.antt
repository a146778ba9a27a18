use Rattle.std.proofs.Common.{◌≡◌, ◌*◌, ◌++◌, map, take, drop}
use Rattle.aes_block.specs.Aes.{aes}
use Rattle.ctr_mode.proofs.bulk.BulkKeyBlockKey.encrypt_blocks.Given as goal

-- the first groups are encrypted
abbrev pub invariant-loop-i : goal.invariant-loop-i
invariant-loop-i l = l.blocks ≡ map (aes l.self) (take (8 * l.i) l.fn.blocks) ++ drop (8 * l.i) l.fn.blocks
