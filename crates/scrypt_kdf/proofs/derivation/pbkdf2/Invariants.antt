use Rattle.std.proofs.Common.{◌+◌}
use Rattle.scrypt_kdf.specs.Pbkdf2.{block}
use Rattle.scrypt_kdf.proofs.Blocks.{IsFilled}
use Rattle.scrypt_kdf.proofs.derivation.pbkdf2.Given as goal

abbrev pub invariant-loop-i : goal.invariant-loop-i
invariant-loop-i l = IsFilled (λ i. block l.password l.salt l.turns (i + 1)) l.fn.out l.out l.i
