use Rattle.std.proofs.Common.{◌∙◌, get_or, bit_xor, arith}
use Rattle.std.proofs.lemmas.List.{get_or_default, length-set}
use Rattle.std.proofs.lemmas.List.Edits.{map_over_more}
use Rattle.hmac_sha.proofs.Blocks.{map_over_all}
use Rattle.hmac_sha.proofs.xored.Goals as goal

pub loop-b-preserved : goal.loop-b-preserved
loop-b-preserved g c =
    let s = c.loop-b.b-items in
    let i = c.loop-b.b-index in
    record {
      long = length-set s i _ ∙ c.loop-b.invariant.long;
      so_far = map_over_more (λ b. bit_xor b c.args.byte) c.args.block.now s i (get_or s i 0) (omega (arith, c.loop-b.invariant.long)) c.loop-b.invariant.so_far
          (get_or_default s i 0 _ (omega arith));
    }

pub returns : goal.returns
returns g c =
    map_over_all (λ b. bit_xor b c.args.byte) c.loop-b.b-index c.args.block.now c.loop-b.b-items (omega (arith, c.loop-b.invariant.long)) c.loop-b.invariant.so_far
