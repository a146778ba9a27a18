use Rattle.std.proofs.Common.{◌≡◌, ◌<◌}
use Rattle.scrypt_kdf.specs.Scrypt.{scrypt}
use Rattle.cipher_bench.specs.declared.scrypt.TheConstants.{PASSWORD, SALT}
use Rattle.cipher_bench.proofs.scrypt.key.Given as goal

abbrev pub invariant-loop-repetition : goal.invariant-loop-repetition
invariant-loop-repetition l = 0 < l._repetition → l.key ≡ scrypt PASSWORD.now SALT.now l.n l.r l.p 64
