use Rattle.std.proofs.Common.{◌≡◌, ◌++◌}
use Rattle.aes_block.specs.Aes.{aes}
use Rattle.key_wrap.specs.Wrap.{check_value, wrapped_after}
use Rattle.key_wrap.proofs.wrap.Given as goal

abbrev pub invariant-loop-taken : goal.invariant-loop-taken
invariant-loop-taken l = l.state ≡ wrapped_after (aes l.cipher) (check_value ++ l.key) l.taken
