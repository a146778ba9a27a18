use Rattle.std.proofs.Common.{◌≡◌, ◌-◌}
use Rattle.aes_block.specs.Aes.{state_after}
use Rattle.model_contents.proofs.cipher.aes.Given as goal

abbrev pub invariant-loop-round : goal.invariant-loop-round
invariant-loop-round l = l.state ≡ state_after l.schedule l.fn.block (l.round - 1)
