use Rattle.std.proofs.Common.{◌≡◌}
use Rattle.aes_block.specs.Aes.{power_of_x}
use Rattle.model_contents.proofs.cipher.power_of_x.Given as goal

abbrev pub invariant-loop : goal.invariant-loop
invariant-loop l = l.power ≡ power_of_x l.counter
