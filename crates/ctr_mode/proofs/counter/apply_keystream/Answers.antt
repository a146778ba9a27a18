use Rattle.std.proofs.Common.{◌≡◌, ℕ, ◌+◌, ◌*◌, ◌<◌, List, length, min, ap, subst, sym, ◌∙◌, arith}
use Rattle.std.proofs.lemmas.List.{length-take-le}
use Rattle.ctr_mode.specs.Counted.{IsCountedTo}
use Rattle.ctr_mode.proofs.Counters.{counted_all, counter_block-from}
use Rattle.ctr_mode.proofs.counter.apply_keystream.Goals as goal

pub loop-i-preserved : goal.loop-i-preserved
loop-i-preserved g c =
    let cipher : List ℕ → List ℕ = g.K.BlockKey.cipher c.args.key.now in
    let first : ℕ = c.args.first in
    let start : ℕ = 32 * c.loop-i.i in
    let text : List ℕ = c.args.text.now in
    let before : min c.div_ceil-blocks.result (32 * c.loop-i.i) ≡ 32 * c.loop-i.i = omega (arith, c.div_ceil-i-end.ensures) in
    let count : length c.encrypt_counters.new.masks ≡ c.min.result = c.encrypt_counters.auto.masks ∙ length-take-le c.min.result _ (omega (arith, c.min.ensures)) in
    let after : 32 * c.loop-i.i + length c.encrypt_counters.new.masks ≡ min c.div_ceil-blocks.result (32 * (c.loop-i.i + 1)) = omega (arith, c.div_ceil-i-end.ensures, count, c.min.ensures) in
    let masks = λ (j : ℕ) (within : j < length c.encrypt_counters.new.masks).
    c.encrypt_counters.ensures j within ∙ ap cipher (counter_block-from first start j) in
    subst (λ (n : ℕ). IsCountedTo cipher first text c.xor_masks.new.text n) after
    (c.xor_masks.ensures cipher first text c.makes_blocks.ensures.cipher (sym c.loop-i.auto.text)
    (subst (λ (n : ℕ). IsCountedTo cipher first text c.loop-i.text n) before c.loop-i.invariant) masks)

pub returns : goal.returns
returns g c = counted_all _ _ _ _ _ c.loop-i.invariant (omega (arith, c.div_ceil-i-end.ensures, c.div_ceil-blocks.ensures))
