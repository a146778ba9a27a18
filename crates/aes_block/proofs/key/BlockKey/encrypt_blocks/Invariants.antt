use Rattle.std.proofs.Common.{◌≡◌, ◌++◌, map, take, drop}
use Rattle.aes_block.proofs.key.BlockKey.encrypt_blocks.Given as goal

-- the first blocks are encrypted, and the others are as they were
abbrev pub invariant-loop-block : goal.invariant-loop-block
invariant-loop-block g l =
    l.blocks ≡ map (g.Self.BlockKey.cipher l.fn.self) (take l.block-index l.initial.blocks) ++ drop l.block-index l.initial.blocks
