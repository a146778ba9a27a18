use Rattle.std.proofs.Common.{◌≡◌}
use Rattle.aes_block.specs.Aes.{inverse_aes}
use Rattle.key_wrap.specs.Wrap.{unwrapped_after}
use Rattle.key_wrap.proofs.unwrap.Given as goal

abbrev pub invariant-loop-taken : goal.invariant-loop-taken
invariant-loop-taken l = l.state ≡ unwrapped_after (inverse_aes l.cipher) l.wrapped l.taken
