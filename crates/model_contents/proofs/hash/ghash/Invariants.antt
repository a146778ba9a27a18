use Rattle.std.proofs.Common.{◌≡◌}
use Rattle.gcm_mode.specs.Ghash.{hashed}
use Rattle.model_contents.proofs.hash.ghash.Given as goal

-- the first i blocks are hashed
abbrev pub invariant-loop-i : goal.invariant-loop-i
invariant-loop-i l = l.hash ≡ hashed l.h l.text l.i
