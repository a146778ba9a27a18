use Rattle.std.proofs.Common.{◌≡◌, ◌+◌, ◌*◌, ◌%◌, ◌^◌, ◌<◌, ℕ, List, [], length, get_or, ap, subst, sym, ◌∙◌, arith, refl}
use Rattle.aes_block.specs.Aes.{aes}
use Rattle.aes_block.specs.Bytes.{MakesBlocks}
use Rattle.aes_kernels.specs.Circuit.{AreRoundKeys}
use Rattle.gcm_mode.specs.Gcm.{counter_block}
use Rattle.gcm_mode.specs.Counted.{Counted}
use Rattle.gcm_mode.proofs.Counting.{Counted_none, counter_block_same}
use Rattle.gcm_mode.proofs.stream.xor_groups.Goals as goal

pub loop-i-init : goal.loop-i-init
loop-i-init c = (refl, Counted_none (aes c.args.key.now) c.args.nonce.now c.args.text.now)

pub loop-i-preserved : goal.loop-i-preserved
loop-i-preserved c =
    let k : List ℕ = c.args.key.now in
    let nonce : List ℕ = c.args.nonce.now in
    let more : 8 * c.loop-i.i + length c.eight_masks-masks.result ≡ 8 * (c.loop-i.i + 1) = omega arith in
    let keys : AreRoundKeys c.args.key.now c.round_keys-keys.result = subst (λ (key : List ℕ). AreRoundKeys key c.round_keys-keys.result) c.key-2.ensures c.round_keys-keys.ensures in
    let masks : (j : ℕ) → j < length c.eight_masks-masks.result → get_or c.eight_masks-masks.result j [] ≡ aes c.args.key.now (counter_block nonce (8 * c.loop-i.i + j + 2)) =
    λ j within. c.eight_masks-masks.ensures c.args.key.now keys j (omega arith)
    ∙ ap (aes k) (counter_block_same nonce (8 * c.loop-i.i + j + 2) ((c.loop-i.counter + j) % 2 ^ 32) (omega (arith, c.loop-i.invariant.0))) in
    let blocks : MakesBlocks (aes c.args.key.now) = subst (λ (key : List ℕ). MakesBlocks (aes key)) c.key.ensures c.makes_blocks.ensures.cipher in (
      omega (arith, c.loop-i.invariant.0),
      subst (λ (n : ℕ). Counted (aes k) nonce c.args.text.now n c.xor_masks.new.text) more
          (c.xor_masks.ensures (aes k) nonce c.args.text.now blocks (sym c.loop-i.auto.text) c.loop-i.invariant.1 masks),
    )

pub returns-then-groups-eq0-clause-text : goal.returns-then-groups-eq0-clause-text
returns-then-groups-eq0-clause-text c =
    let none : 8 * c.args.groups ≡ 0 = omega arith in
    subst (λ (n : ℕ). Counted (aes c.args.key.now) c.args.nonce.now c.args.text.now n c.args.text.now) (sym none) (Counted_none (aes c.args.key.now) c.args.nonce.now c.args.text.now)
