use Rattle.std.proofs.Common.{[], length, map, get_or, ap, sym, subst, ◌∙◌, arith}
use Rattle.std.proofs.lemmas.List.{length-map}
use Rattle.aes_block.specs.Aes.{aes}
use Rattle.aes_kernels.specs.Nibbles.{AreRoundKeys, IsKey, first_round_of}
use Rattle.aes_kernels.proofs.LaneKeys.{AreBlocks, four-is, vectors-first, vectors-last, vectors-more}
use Rattle.aes_kernels.proofs.key.LaneKey.encrypted_four.Goals as goal

pub loop-r-init : goal.loop-r-init
loop-r-init c =
    let key : IsKey c.args.self.now = subst IsKey c.self.view_is c.self.invariant.0 in
    let keys : AreRoundKeys c.args.self.now c.self.inside.round_keys = subst (λ k. AreRoundKeys k c.self.inside.round_keys) c.self.view_is c.self.invariant.1 in
    let whole = four-is c.args.blocks.now (omega arith) in
    vectors-first c.args.self.now _ c.args.blocks.now _ key (subst AreBlocks (sym (four-is c.args.blocks.now (omega arith))) (c.is_block.ensures, (c.is_block-2.ensures, (c.is_block-3.ensures, (c.is_block-4.ensures, tt))))) (keys 0 (omega arith))
    (c.first_rounds-x.ensures ∙ ap (map (first_round_of (get_or c.self.inside.round_keys 0 []))) (sym whole))

pub loop-r-preserved : goal.loop-r-preserved
loop-r-preserved c =
    let key : IsKey c.args.self.now = subst IsKey c.self.view_is c.self.invariant.0 in
    let keys : AreRoundKeys c.args.self.now c.self.inside.round_keys = subst (λ k. AreRoundKeys k c.self.inside.round_keys) c.self.view_is c.self.invariant.1 in
    let whole = four-is c.args.blocks.now (omega arith) in
    vectors-more c.args.self.now _ c.args.blocks.now _ c.loop-r.x c.loop-r.r key (subst AreBlocks (sym (four-is c.args.blocks.now (omega arith))) (c.is_block.ensures, (c.is_block-2.ensures, (c.is_block-3.ensures, (c.is_block-4.ensures, tt))))) (omega arith) c.loop-r-test.true (keys c.loop-r.r (omega arith))
    c.loop-r.invariant c.rounds-next.ensures

pub returns : goal.returns
returns c =
    let key : IsKey c.args.self.now = subst IsKey c.self.view_is c.self.invariant.0 in
    let keys : AreRoundKeys c.args.self.now c.self.inside.round_keys = subst (λ k. AreRoundKeys k c.self.inside.round_keys) c.self.view_is c.self.invariant.1 in
    let whole = four-is c.args.blocks.now (omega arith) in
    let made = vectors-last c.args.self.now _ c.args.blocks.now _ c.loop-r.x c.loop-r.r key (subst AreBlocks (sym (four-is c.args.blocks.now (omega arith))) (c.is_block.ensures, (c.is_block-2.ensures, (c.is_block-3.ensures, (c.is_block-4.ensures, tt))))) (omega arith) (keys 14 (omega arith))
    c.loop-r.invariant c.last_rounds-x.ensures in
    sym (four-is c.last_rounds-x.result (ap length made ∙ length-map c.args.blocks.now (aes c.args.self.now) ∙ omega arith)) ∙ made
