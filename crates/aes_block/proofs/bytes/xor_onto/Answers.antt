use Rattle.std.proofs.Common.{refl, arith}
use Rattle.aes_block.proofs.StateLemmas.{xor_over_more}
use Rattle.aes_block.proofs.bytes.xor_onto.Goals as goal

pub loop-i-preserved : goal.loop-i-preserved
loop-i-preserved c =
    xor_over_more c.loop-i.i _ _ c.args.target.now c.args.bytes.now c.loop-i.target (omega arith) (omega arith) c.loop-i.invariant refl refl
