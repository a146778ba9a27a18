use Rattle.std.proofs.Common.{◌≡◌, ◌+◌, ◌-◌, ◌*◌, ◌/◌, ◌%◌, ◌^◌, ◌<◌, ℕ, ap, get_or, sym, ◌∙◌, arith, refl}
use Rattle.std.specs.Int.Bits.{bit_and}
use Rattle.std.proofs.lemmas.Nat.{and_mask}
use Rattle.gcm_mode.specs.Ghash.{place_entry, product}
use Rattle.gcm_mode.proofs.Products.{product_of_halves, with_rest-all, with_rest-more}
use Rattle.gcm_mode.proofs.ghash.PlaceTableSubkey.product.Goals as goal

pub loop-i-init : goal.loop-i-init
loop-i-init c = product_of_halves c.args.x c.args.self.now _ refl

pub loop-i-preserved : goal.loop-i-preserved
loop-i-preserved c =
    let h : ℕ = c.args.self.now in
    let i : ℕ = c.loop-i.i in
    let a : ℕ = bit_and (c.args.x / 2 ^ 64 / 2 ^ (60 - 4 * i)) 15 in
    let b : ℕ = bit_and (bit_and c.args.x 0xffff_ffff_ffff_ffff / 2 ^ (60 - 4 * i)) 15 in
    let low-a : a ≡ (c.args.x / 2 ^ 64 / 2 ^ (60 - 4 * i)) % 16 = and_mask (c.args.x / 2 ^ 64 / 2 ^ (60 - 4 * i)) 4 in
    let low-b : b ≡ (bit_and c.args.x 0xffff_ffff_ffff_ffff / 2 ^ (60 - 4 * i)) % 16 = and_mask (bit_and c.args.x 0xffff_ffff_ffff_ffff / 2 ^ (60 - 4 * i)) 4 in
    let entry : (j : ℕ) → j < 512 → get_or c.self.inside.table j 0 ≡ place_entry h j =
    λ j within. c.self.invariant j within ∙ ap (λ (k : ℕ). place_entry k j) c.self.view_is in
    with_rest-more h (c.args.x / 2 ^ 64) (bit_and c.args.x 0xffff_ffff_ffff_ffff) c.loop-i.sum i _ _ (omega arith)
    (entry (16 * i + a) (omega (arith, low-a))) (entry (16 * (16 + i) + b) (omega (arith, low-b)))
    ∙ c.loop-i.invariant

pub returns : goal.returns
unfolding product
returns c =
    let all : c.loop-i.i ≡ 16 = omega arith in
    sym (with_rest-all c.args.self.now (c.args.x / 2 ^ 64) (bit_and c.args.x 0xffff_ffff_ffff_ffff) c.loop-i.sum) ∙ (rw all at c.loop-i.invariant)
