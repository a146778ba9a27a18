use Rattle.scrypt_kdf.specs.Salsa.{bytes_of_words}
use Rattle.scrypt_kdf.specs.Rows.{HoldsRows}
use Rattle.scrypt_kdf.proofs.mixing.fill_table.Given as goal

abbrev pub invariant-loop-i : goal.invariant-loop-i
invariant-loop-i l = HoldsRows l.r (bytes_of_words l.x) l.table l.i
