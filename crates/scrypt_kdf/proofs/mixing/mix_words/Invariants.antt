use Rattle.std.proofs.Common.{◌≡◌, ◌*◌}
use Rattle.scrypt_kdf.specs.Salsa.{bytes_of_words}
use Rattle.scrypt_kdf.specs.Scrypt.{x_after}
use Rattle.scrypt_kdf.proofs.mixing.mix_words.Given as goal

abbrev pub invariant-loop-pair : goal.invariant-loop-pair
invariant-loop-pair l = bytes_of_words l.x ≡ x_after l.cost l.r (bytes_of_words l.fn.x) (2 * l._pair)
