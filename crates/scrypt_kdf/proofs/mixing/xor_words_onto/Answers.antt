use Rattle.std.proofs.Common.{refl, arith}
use Rattle.aes_block.proofs.StateLemmas.{xor_over_more, xor_over_all}
use Rattle.scrypt_kdf.proofs.mixing.xor_words_onto.Goals as goal

pub loop-i-preserved : goal.loop-i-preserved
loop-i-preserved c =
    xor_over_more c.loop-i.i _ _ c.args.target.now c.args.words.now c.loop-i.target (omega arith) (omega arith) c.loop-i.invariant refl refl

pub returns : goal.returns
returns c = xor_over_all c.loop-i.i _ _ _ (omega arith) c.loop-i.invariant
