use Rattle.std.proofs.Common.{◌≡◌, ℕ, List, length}
use Rattle.aes_block.specs.Aes.{aes}
use Rattle.gcm_mode.specs.Counted.{Counted}
use Rattle.gcm_mode.proofs.stream.xor_rest.Given as goal

-- the first i blocks are done
abbrev pub invariant-loop-i : goal.invariant-loop-i
invariant-loop-i l = (old : List ℕ) → length old ≡ length l.fn.text → Counted (aes l.key) l.nonce old l.start l.fn.text → Counted (aes l.key) l.nonce old l.i l.text
