use Rattle.std.proofs.Common.{◌≡◌, get_or, ap, sym, ◌∙◌, arith}
use Rattle.gcm_mode.specs.Ghash.{product_of}
use Rattle.gcm_mode.proofs.Products.{product_of_one}
use Rattle.gcm_mode.proofs.ghash.ProductTable.new.Goals as goal

pub invariant_of-result : goal.invariant_of-result
invariant_of-result c = λ i within.
    let eight : get_or c.loop-nibble.entry-items 8 0 ≡ c.args.subkey = c.loop-nibble.invariant 8 (omega arith) ∙ product_of_one c.args.subkey in
    c.loop-nibble.invariant i (omega arith) ∙ ap (product_of 4 i) (sym eight)

pub returns : goal.returns
returns c = c.loop-nibble.invariant 8 (omega arith) ∙ product_of_one c.args.subkey
