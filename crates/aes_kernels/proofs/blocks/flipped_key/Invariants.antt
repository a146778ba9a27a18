use Rattle.std.proofs.Common.{◌≡◌, ◌<◌, ℕ, length, get_or, bit_xor}
use Rattle.aes_kernels.proofs.blocks.flipped_key.Given as goal

abbrev pub invariant-loop-i : goal.invariant-loop-i
invariant-loop-i l = (length l.flipped ≡ 16) × ((k : ℕ) → k < l.i → get_or l.flipped k 0 ≡ bit_xor (get_or l.bytes k 0) l.flip)
