use Rattle.std.proofs.Common.{◌≡◌, ◌+◌, ◌*◌, ◌%◌, ◌^◌, ◌<◌, ℕ, List, [], length, get_or, ap, subst, sym, ◌∙◌, arith}
use Rattle.aes_block.specs.Aes.{aes}
use Rattle.aes_block.specs.Bytes.{MakesBlocks}
use Rattle.gcm_mode.specs.Gcm.{counter_block}
use Rattle.gcm_mode.specs.Counted.{Counted}
use Rattle.gcm_mode.proofs.Counting.{Counted_all, counter_block_same}
use Rattle.gcm_mode.proofs.stream.count_over.Goals as goal

pub loop-i-preserved : goal.loop-i-preserved
loop-i-preserved c =
    let k : List ℕ = c.args.key.now in
    let nonce : List ℕ = c.args.nonce.now in
    let more : 4 * c.loop-i.i + length c.four_masks-masks.result ≡ 4 * (c.loop-i.i + 1) = omega arith in
    let masks : (j : ℕ) → j < length c.four_masks-masks.result → get_or c.four_masks-masks.result j [] ≡ aes c.args.key.now (counter_block nonce (4 * c.loop-i.i + j + 2)) =
    λ j within. c.four_masks-masks.ensures j (omega arith)
    ∙ ap (aes k) (counter_block_same nonce (4 * c.loop-i.i + j + 2) ((c.loop-i.counter + j) % 2 ^ 32) (omega (arith, c.loop-i.invariant.0))) in
    let blocks : MakesBlocks (aes c.args.key.now) = subst (λ (key : List ℕ). MakesBlocks (aes key)) c.key.ensures c.makes_blocks.ensures.cipher in (
      omega (arith, c.loop-i.invariant.0),
      subst (λ (n : ℕ). Counted (aes k) nonce c.args.text.now n c.xor_masks.new.text) more
          (c.xor_masks.ensures (aes k) nonce c.args.text.now blocks (sym (c.loop-i.auto.text ∙ c.xor_groups-counter.auto.text)) c.loop-i.invariant.1 masks),
    )

pub returns-else-text-groups : goal.returns-else-text-groups
returns-else-text-groups c =
    Counted_all (aes c.args.key.now) c.args.nonce.now c.args.text.now c.loop-i.text (4 * c.loop-i.i) (omega arith) c.loop-i.invariant.1
