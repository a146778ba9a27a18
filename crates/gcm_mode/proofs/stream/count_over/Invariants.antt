use Rattle.std.proofs.Common.{◌≡◌, ◌+◌, ◌*◌, ◌%◌, ◌^◌}
use Rattle.aes_block.specs.Aes.{aes}
use Rattle.gcm_mode.specs.Counted.{Counted}
use Rattle.gcm_mode.proofs.stream.count_over.Given as goal

-- the first 4 * i blocks are done
abbrev pub invariant-loop-i : goal.invariant-loop-i
invariant-loop-i l = (l.counter ≡ (4 * l.i + 2) % 2 ^ 32) × Counted (aes l.key) l.nonce l.fn.text (4 * l.i) l.text
