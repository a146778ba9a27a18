use Rattle.std.proofs.Common.{◌≡◌, ◌-◌, ◌*◌, take}
use Rattle.aes_block.specs.Aes.{expanded_key}
use Rattle.model_contents.proofs.cipher.key_schedule.Given as goal

abbrev pub invariant-loop-i : goal.invariant-loop-i
invariant-loop-i l = take (4 * l.i) l.schedule ≡ expanded_key l.key (l.i - l.key_words)
