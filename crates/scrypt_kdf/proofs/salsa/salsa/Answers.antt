use Rattle.std.proofs.Common.{refl, arith}
use Rattle.scrypt_kdf.proofs.Rounds.{rounds-none, rounds-more, salsa-is}
use Rattle.scrypt_kdf.proofs.salsa.salsa.Goals as goal

pub loop-round-init : goal.loop-round-init
loop-round-init c = rounds-none _ _ refl

pub loop-round-preserved : goal.loop-round-preserved
loop-round-preserved c = rounds-more _ _ _ _ c.loop-round.invariant c.double_round-mixed.ensures

pub returns : goal.returns
returns c = salsa-is _ _ _ c.loop-round._round (omega arith) c.loop-round.invariant c.add_onto.ensures
