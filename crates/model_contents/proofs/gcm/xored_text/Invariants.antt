use Rattle.std.proofs.Common.{◌≡◌, length, take}
use Rattle.aes_block.specs.Bytes.{xor_bytes}
use Rattle.model_contents.proofs.gcm.xored_text.Given as goal

-- the first places are xored
abbrev pub invariant-loop-byte : goal.invariant-loop-byte
invariant-loop-byte l = l.out.items ≡ xor_bytes (take (length l.yielded) l.text) (take (length l.yielded) l.mask)
