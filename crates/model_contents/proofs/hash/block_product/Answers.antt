use Rattle.std.proofs.Common.{◌≡◌, ℕ, suc, ◌+◌, ◌-◌, ap, sym, ◌∙◌, arith}
use Rattle.std.specs.Int.Bits.{bit_xor, xor_zero_r}
use Rattle.gcm_mode.specs.Ghash.{product, product_of}
use Rattle.gcm_mode.proofs.Products.{product_of_none, product_of_skipped, product_of_taken}
use Rattle.model_contents.proofs.hash.block_product.Goals as goal
use Rattle.model_contents.proofs.hash.block_product.Goals.{then-x-i-eq1, else-x-i-eq1}

pub loop-i-preserved : goal.loop-i-preserved
loop-i-preserved c =
    let left : 128 - (c.loop-i.i + 1) ≡ 127 - c.loop-i.i = omega arith in
    let now : suc (127 - c.loop-i.i) ≡ 128 - c.loop-i.i = omega arith in
    rw left
    (elim c.if-x-i-eq1.branch [
      | then-x-i-eq1 w ↦
          product_of_taken c.loop-i.sum c.if-x-i-eq1.sum (127 - c.loop-i.i) c.args.x c.loop-i.power c.times_x-power.result w.if-x-i-eq1.true w.sum-is c.times_x-power.ensures
      | else-x-i-eq1 w ↦
          product_of_skipped c.loop-i.sum c.if-x-i-eq1.sum (127 - c.loop-i.i) c.args.x c.loop-i.power c.times_x-power.result w.if-x-i-eq1.false w.sum-is c.times_x-power.ensures
    ]
    ∙ ap (λ (n : ℕ). bit_xor c.loop-i.sum (product_of n c.args.x c.loop-i.power)) now ∙ c.loop-i.invariant)

pub returns : goal.returns
unfolding product
returns c =
    let none : 128 - c.loop-i.i ≡ 0 = omega arith in
    sym (xor_zero_r c.loop-i.sum) ∙ ap (λ (n : ℕ). bit_xor c.loop-i.sum n) (sym (product_of_none c.args.x c.loop-i.power)) ∙ (rw none at c.loop-i.invariant)
