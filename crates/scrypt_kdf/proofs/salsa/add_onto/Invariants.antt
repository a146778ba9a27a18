use Rattle.std.proofs.Common.{◌≡◌, ◌++◌, take, drop}
use Rattle.scrypt_kdf.specs.Salsa.{add_words}
use Rattle.scrypt_kdf.proofs.salsa.add_onto.Given as goal

abbrev pub invariant-loop-i : goal.invariant-loop-i
invariant-loop-i l = l.target ≡ add_words (take l.i l.words) (take l.i l.initial.target) ++ drop l.i l.initial.target
