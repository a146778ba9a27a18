use Rattle.std.proofs.Common.{refl, arith}
use Rattle.scrypt_kdf.proofs.Rounds.{add_over_more, add_over_all}
use Rattle.scrypt_kdf.proofs.salsa.add_onto.Goals as goal

pub loop-i-preserved : goal.loop-i-preserved
loop-i-preserved c =
    add_over_more c.loop-i.i _ _ c.args.target.now c.args.words.now c.loop-i.target (omega arith) (omega arith) c.loop-i.invariant refl refl

pub returns : goal.returns
returns c = add_over_all c.loop-i.i _ _ _ (omega arith) (omega arith) c.loop-i.invariant
