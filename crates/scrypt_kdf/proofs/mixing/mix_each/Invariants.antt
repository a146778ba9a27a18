use Rattle.scrypt_kdf.proofs.Parts.{AreMixed}
use Rattle.scrypt_kdf.proofs.mixing.mix_each.Given as goal

abbrev pub invariant-loop-i : goal.invariant-loop-i
invariant-loop-i l = AreMixed l.cost l.r l.fn.parts l.parts l.i
