use Rattle.std.proofs.Common.{◌≡◌}
use Rattle.aes_block.specs.Aes.{aes}
use Rattle.siv_mode.specs.Cmac.{chained}
use Rattle.model_contents.proofs.mac.chained.Given as goal

abbrev pub invariant-loop-i : goal.invariant-loop-i
invariant-loop-i l = l.chain ≡ chained (aes l.key) l.text l.i
