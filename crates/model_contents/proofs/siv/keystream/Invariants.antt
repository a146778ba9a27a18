use Rattle.std.proofs.Common.{◌≡◌}
use Rattle.aes_block.specs.Aes.{aes}
use Rattle.siv_mode.specs.Siv.{keystream}
use Rattle.model_contents.proofs.siv.keystream.Given as goal

abbrev pub invariant-loop-i : goal.invariant-loop-i
invariant-loop-i l = l.stream.items ≡ keystream (aes l.key) l.start l.i
