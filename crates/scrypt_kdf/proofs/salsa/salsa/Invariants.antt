use Rattle.std.proofs.Common.{◌≡◌}
use Rattle.scrypt_kdf.proofs.Rounds.{rounds}
use Rattle.scrypt_kdf.proofs.salsa.salsa.Given as goal

abbrev pub invariant-loop-round : goal.invariant-loop-round
invariant-loop-round l = l.mixed ≡ rounds l.x l._round
