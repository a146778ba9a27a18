use Rattle.std.proofs.Common.{◌≡◌, ℕ, ◌+◌, ◌-◌, ◌*◌, ◌^◌, ◌<◌, List, bit_and, length, min, refl, subst, sym, ◌∙◌, arith, rules}
use Rattle.std.proofs.lemmas.List.{length-take-le}
use Rattle.siv_mode.specs.Counted.{IsCountedTo}
use Rattle.aes_block.proofs.BlockNumbers.{from_be_bytes_block}
use Rattle.siv_mode.proofs.Counters.{counted_all, counter_from}
use Rattle.siv_mode.proofs.keystream.apply_keystream.Goals as goal

pub loop-i-preserved : goal.loop-i-preserved
loop-i-preserved g c =
    let cipher : List ℕ → List ℕ = g.K.BlockKey.cipher c.args.key.now in
    let first : ℕ = bit_and c.from_be_bytes-first.result (2 ^ 128 - 1 - 2 ^ 63 - 2 ^ 31) in
    let start : ℕ = 4 * c.loop-i.i in
    let text : List ℕ = c.args.text.now in
    let before : min c.div_ceil-blocks.result (4 * c.loop-i.i) ≡ 4 * c.loop-i.i = omega (arith, c.div_ceil-i-end.ensures) in
    let count : length c.encrypt_counters.new.masks ≡ c.min.result = c.encrypt_counters.auto.masks ∙ length-take-le c.min.result _ (omega (arith, c.min.ensures)) in
    let after : 4 * c.loop-i.i + length c.encrypt_counters.new.masks ≡ min c.div_ceil-blocks.result (4 * (c.loop-i.i + 1)) = omega (arith, c.div_ceil-i-end.ensures, count, c.min.ensures) in
    let masks = λ (j : ℕ) (within : j < length c.encrypt_counters.new.masks).
    c.encrypt_counters.ensures j within ∙ counter_from cipher first start j in
    subst (λ (n : ℕ). IsCountedTo cipher first text c.xor_masks.new.text n) after
    (c.xor_masks.ensures cipher first text c.makes_blocks.ensures.cipher (sym c.loop-i.auto.text)
    (subst (λ (n : ℕ). IsCountedTo cipher first text c.loop-i.text n) before c.loop-i.invariant) masks)

pub returns : goal.returns
returns g c =
    let first = c.from_be_bytes-first.ensures ∙ from_be_bytes_block c.args.tag (search rules) in
    counted_all _ _ _ _ _ _ c.loop-i.invariant (rw first refl) (omega (arith, c.div_ceil-i-end.ensures, c.div_ceil-blocks.ensures))
