use Rattle.std.proofs.Common.{◌≡◌, ℕ, ◌-◌, ◌<◌, List, [], map, get_or, refl, ap, sym, ◌∙◌, arith, lit<}
use Rattle.aes_block.specs.Aes.{aes}
use Rattle.aes_kernels.specs.Circuit.{HasBlocks, after}
use Rattle.aes_kernels.proofs.SBox.{eight-is}
use Rattle.aes_kernels.proofs.Elements.{eight-same}
use Rattle.aes_kernels.proofs.States.{first-blocks, last-blocks, next-blocks}
use Rattle.aes_kernels.proofs.Turning.{turned-out}
use Rattle.aes_kernels.proofs.blocks.encrypted_eight.Goals as goal

pub loop-r-init : goal.loop-r-init
loop-r-init c = (
  c.add_key-x.ensures.planes,
  λ key are. first-blocks c.planes_of.result (get_or c.args.keys.now 0 []) c.add_key-x.result key c.args.blocks.now (are.sizes 0 (lit< tt)) (are.each 0 (lit< tt)) c.planes_of.ensures.blocks c.add_key-x.ensures.bytes,
)

pub loop-r-preserved : goal.loop-r-preserved
loop-r-preserved c = (
  c.round-next.ensures.planes,
  λ key are. next-blocks c.loop-r.x (get_or c.args.keys.now c.loop-r.r []) c.round-next.result key c.args.blocks.now c.loop-r.r (omega arith) (are.sizes c.loop-r.r (omega arith)) (are.each c.loop-r.r (omega arith)) (c.loop-r.invariant.1 key are) c.round-next.ensures.bytes,
)

pub returns : goal.returns
returns c = λ key are.
    let blocks : List (List ℕ) = c.args.blocks.now in
    let end : c.loop-r.r - 1 ≡ 13 = omega arith in
    let before : HasBlocks c.loop-r.x (after key c.args.blocks.now 13) = rw end at (c.loop-r.invariant.1 key are) in
    let done = last-blocks c.loop-r.x (get_or c.args.keys.now 14 []) c.last_round.result key c.args.blocks.now are.size (are.sizes 14 (lit< tt)) (are.each 14 (lit< tt)) before c.last_round.ensures.bytes in
    let y : List (List ℕ) = c.transposed.result in
    let out = λ (bit : ℕ) (small : bit < 8). turned-out c.last_round.result y bit (get_or y bit []) c.last_round.ensures.planes.0 c.transposed.ensures.planes.0 small c.transposed.ensures.bits refl in
    eight-same
    (c.block_of.ensures.lanes ∙ out 0 (lit< tt) c.block_of.ensures.bytes ∙ done 0 (lit< tt))
    (c.block_of-2.ensures.lanes ∙ out 1 (lit< tt) c.block_of-2.ensures.bytes ∙ done 1 (lit< tt))
    (c.block_of-3.ensures.lanes ∙ out 2 (lit< tt) c.block_of-3.ensures.bytes ∙ done 2 (lit< tt))
    (c.block_of-4.ensures.lanes ∙ out 3 (lit< tt) c.block_of-4.ensures.bytes ∙ done 3 (lit< tt))
    (c.block_of-5.ensures.lanes ∙ out 4 (lit< tt) c.block_of-5.ensures.bytes ∙ done 4 (lit< tt))
    (c.block_of-6.ensures.lanes ∙ out 5 (lit< tt) c.block_of-6.ensures.bytes ∙ done 5 (lit< tt))
    (c.block_of-7.ensures.lanes ∙ out 6 (lit< tt) c.block_of-7.ensures.bytes ∙ done 6 (lit< tt))
    (c.block_of-8.ensures.lanes ∙ out 7 (lit< tt) c.block_of-8.ensures.bytes ∙ done 7 (lit< tt))
    ∙ ap (map (aes key)) (sym (eight-is c.args.blocks.now c.told-blocks))
