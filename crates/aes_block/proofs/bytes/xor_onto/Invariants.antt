use Rattle.std.proofs.Common.{◌≡◌, ◌++◌, take, drop}
use Rattle.aes_block.specs.Bytes.{xor_bytes}
use Rattle.aes_block.proofs.bytes.xor_onto.Given as goal

-- the first i bytes are xored, and the others are as they were
abbrev pub invariant-loop-i : goal.invariant-loop-i
invariant-loop-i l =
    l.target ≡ xor_bytes (take l.i l.initial.target) l.bytes ++ drop l.i l.initial.target
