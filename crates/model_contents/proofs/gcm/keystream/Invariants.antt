use Rattle.std.proofs.Common.{◌≡◌}
use Rattle.aes_block.specs.Aes.{aes}
use Rattle.gcm_mode.specs.Gcm.{keystream}
use Rattle.model_contents.proofs.gcm.keystream.Given as goal

-- the first i blocks are there
abbrev pub invariant-loop-i : goal.invariant-loop-i
invariant-loop-i l = l.stream.items ≡ keystream (aes l.key) l.nonce l.i
