use Rattle.std.proofs.Common.{◌≡◌, ◌*◌, ◌/◌, ◌%◌, ◌^◌, ℕ, ap, get_or, sym, ◌∙◌, arith}
use Rattle.std.specs.Int.Bits.{bit_and, bit_xor}
use Rattle.std.proofs.lemmas.Nat.{and_mask}
use Rattle.gcm_mode.specs.Ghash.{product, product_of}
use Rattle.gcm_mode.proofs.Products.{product_of_nibble_more, product_of_none}
use Rattle.gcm_mode.proofs.ghash.ProductTableSubkey.product.Goals as goal

pub loop-i-init : goal.loop-i-init
loop-i-init c = sym (product_of_none c.args.x c.args.self.now)

pub loop-i-preserved : goal.loop-i-preserved
loop-i-preserved c =
    let nibble : ℕ = bit_and (c.args.x / 2 ^ (4 * c.loop-i.i)) 15 in
    let low : bit_and (c.args.x / 2 ^ (4 * c.loop-i.i)) 15 ≡ (c.args.x / 2 ^ (4 * c.loop-i.i)) % 16 = and_mask (c.args.x / 2 ^ (4 * c.loop-i.i)) 4 in
    let found : get_or c.self.inside.table nibble 0 ≡ product_of 4 nibble c.args.self.now =
    c.self.invariant nibble (omega (arith, low)) ∙ ap (product_of 4 nibble) c.self.view_is in
    product_of_nibble_more c.args.self.now c.args.x c.loop-i.i c.loop-i.sum _ nibble (get_or c.self.inside.table nibble 0) c.loop-i.invariant low found
    (ap (λ (k : ℕ). bit_xor k (get_or c.self.inside.table nibble 0)) c.times_x4.ensures)

pub returns : goal.returns
unfolding product
returns c =
    let all : 4 * c.loop-i.i ≡ 128 = omega arith in
    rw all at c.loop-i.invariant
