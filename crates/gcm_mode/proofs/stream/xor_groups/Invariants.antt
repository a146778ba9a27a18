use Rattle.std.proofs.Common.{◌≡◌, ◌+◌, ◌*◌, ◌%◌, ◌^◌}
use Rattle.aes_block.specs.Aes.{aes}
use Rattle.gcm_mode.specs.Counted.{Counted}
use Rattle.gcm_mode.proofs.stream.xor_groups.Given as goal

-- the first 8 * i blocks are done
abbrev pub invariant-loop-i : goal.invariant-loop-i
invariant-loop-i l = (l.counter ≡ (8 * l.i + 2) % 2 ^ 32) × Counted (aes l.key) l.nonce l.fn.text (8 * l.i) l.text
