use Rattle.std.proofs.Common.{◌≡◌, ℕ, ◌+◌, ◌*◌, ◌/◌, ◌^◌, ◌<◌, List, ◌++◌, length, ap, ap₂, refl, sym, subst, ◌∙◌, arith}
use Rattle.std.specs.Int.Bits.{bit_xor, xor_zero_r}
use Rattle.gcm_mode.specs.Ghash.{hashed, product, zero_padded}
use Rattle.gcm_mode.proofs.Groups.{pair_more, product-zero}
use Rattle.gcm_mode.proofs.Hashing.{hashed_behind_more, hashed_behind_none}
use Rattle.gcm_mode.proofs.ghash.PlaceTable.absorb_pairs.Goals as goal

pub returns-then-pairs-eq0 : goal.returns-then-pairs-eq0
returns-then-pairs-eq0 c = λ front known.
    let none : 2 * c.args.pairs ≡ 0 = omega arith in
    ap (λ (k : ℕ). hashed c.args.self.now (front ++ zero_padded c.args.text.now) (length front / 16 + k)) none
    ∙ hashed_behind_none c.args.self.now front (zero_padded c.args.text.now) c.args.before known

pub loop-i-init : goal.loop-i-init
loop-i-init c = λ front known.
    hashed_behind_none c.args.self.now front (zero_padded c.args.text.now) c.args.before known
    ∙ sym (ap (bit_xor c.args.before) (product-zero c.args.self.now) ∙ xor_zero_r c.args.before)

pub loop-i-preserved : goal.loop-i-preserved
loop-i-preserved c = λ front known.
    let h : ℕ = c.args.self.now in
    let text : List ℕ = zero_padded c.args.text.now in
    let even : ℕ = c.loop-i.even in
    let odd : ℕ = c.loop-i.odd in
    let b : ℕ = c.block_number.result in
    let d : ℕ = c.block_number-in-loop-i.result in
    let low : c.args.self.now < 2 ^ 128 = subst (λ (k : ℕ). k < 2 ^ 128) c.self.view_is c.is_block.ensures in
    let square : c.new-square.result ≡ product c.args.self.now c.args.self.now = c.new-square.ensures ∙ c.product.ensures ∙ ap (λ (k : ℕ). product k c.args.self.now) c.self.view_is in
    let first = hashed_behind_more h front text (2 * c.loop-i.i) (bit_xor even (product odd h)) b known.0 c.block_number.ensures (c.loop-i.invariant front known) in
    let second = hashed_behind_more h front text (2 * c.loop-i.i + 1) (product (bit_xor (bit_xor even (product odd h)) b) h) d known.0 c.block_number-in-loop-i.ensures first in
    let place : 2 * (c.loop-i.i + 1) ≡ 2 * c.loop-i.i + 1 + 1 = omega arith in
    ap (λ (k : ℕ). hashed h (front ++ text) (length front / 16 + k)) place ∙ second
    ∙ pair_more h (bit_xor even (product odd h)) even odd b d low refl
    ∙ sym (ap₂ (λ (m n : ℕ). bit_xor m (product (bit_xor n d) h))
    (c.product-even.ensures ∙ ap (product (bit_xor even b)) square) (c.product-in-loop-i.ensures ∙ ap (product odd) square))

pub returns : goal.returns
returns c = λ front known.
    let all : c.args.pairs ≡ c.loop-i.i = omega arith in
    ap (λ (k : ℕ). hashed c.args.self.now (front ++ zero_padded c.args.text.now) (length front / 16 + 2 * k)) all
    ∙ c.loop-i.invariant front known ∙ sym (ap (bit_xor c.loop-i.even) c.product-2.ensures)
