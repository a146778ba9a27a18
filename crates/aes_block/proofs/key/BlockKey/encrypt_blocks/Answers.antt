use Rattle.std.proofs.Common.{◌∙◌, ap, set, get_or, [], arith}
use Rattle.std.proofs.lemmas.List.{get_or_default}
use Rattle.std.proofs.lemmas.List.Edits.{map_over_more}
use Rattle.aes_block.proofs.StateLemmas.{map_over_all}
use Rattle.aes_block.proofs.key.BlockKey.encrypt_blocks.Goals as goal

pub loop-block-preserved : goal.loop-block-preserved
loop-block-preserved g c =
    let blocks = c.loop-block.blocks in
    let i = c.loop-block.block-index in
    ap (set blocks i) c.encrypt.ensures
    ∙ map_over_more (g.Self.BlockKey.cipher c.args.self.now) c.args.blocks.now blocks i (get_or blocks i []) (omega arith) c.loop-block.invariant
    (get_or_default blocks i [] _ (omega arith))

pub returns : goal.returns
returns g c =
    map_over_all (g.Self.BlockKey.cipher c.args.self.now) c.loop-block.block-index c.args.blocks.now c.loop-block.blocks (omega arith) c.loop-block.invariant
