use Rattle.std.proofs.Common.{◌≡◌, ℕ, ◌+◌, ◌-◌, ◌*◌, ◌%◌, ◌^◌, List, [], length, min, get_or, ap, subst, sym, ◌∙◌, arith, refl}
use Rattle.aes_block.specs.Aes.{aes}
use Rattle.aes_block.specs.Bytes.{MakesBlocks}
use Rattle.gcm_mode.specs.Gcm.{counter_block}
use Rattle.gcm_mode.proofs.Counting.{Counted_all, Counted_more, counter_block_same}
use Rattle.gcm_mode.proofs.stream.xor_rest.Goals as goal

pub loop-i-preserved : goal.loop-i-preserved
loop-i-preserved c = λ old long known.
    let n : ℕ = c.loop-i.i in
    let j : ℕ = c.loop-i.i - c.args.start in
    let mask : List ℕ = get_or c.four_masks-masks.result (c.loop-i.i - c.args.start) [] in
    let size : length old ≡ length c.loop-i.text = long ∙ sym c.loop-i.auto.text in
    let blocks : MakesBlocks (aes c.args.key.now) = subst (λ (k : List ℕ). MakesBlocks (aes k)) c.key.ensures c.makes_blocks.ensures.cipher in
    let is : mask ≡ aes c.args.key.now (counter_block c.args.nonce.now (c.loop-i.i + 2)) =
    c.four_masks-masks.ensures j (omega arith)
    ∙ ap (aes c.args.key.now) (counter_block_same c.args.nonce.now (c.loop-i.i + 2) ((c.args.first + (c.loop-i.i - c.args.start)) % 2 ^ 32) (omega arith)) in
    Counted_more (aes c.args.key.now) c.args.nonce.now old c.loop-i.text mask c.xor_onto.new.target n c.min-end.result _
    (c.loop-i.invariant old long known) (omega arith) (c.min-end.ensures ∙ ap (λ (m : ℕ). min m (16 * c.loop-i.i + 16)) (sym size)) refl is
    (ap length is ∙ blocks.long (counter_block c.args.nonce.now (c.loop-i.i + 2))) c.xor_onto.ensures

pub returns : goal.returns
returns c = λ old long known.
    Counted_all (aes c.args.key.now) c.args.nonce.now old c.loop-i.text c.loop-i.i (omega arith) (c.loop-i.invariant old long known)
