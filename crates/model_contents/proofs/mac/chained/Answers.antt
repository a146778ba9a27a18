use Rattle.std.proofs.Common.{refl, ap, ◌∙◌}
use Rattle.aes_block.specs.Aes.{aes}
use Rattle.siv_mode.specs.Cmac.{chained}
use Rattle.model_contents.proofs.MacLemmas.{chained-more}
use Rattle.model_contents.proofs.mac.chained.Goals as goal

pub loop-i-init : goal.loop-i-init
unfolding chained
loop-i-init c = refl

pub loop-i-preserved : goal.loop-i-preserved
loop-i-preserved c =
    let key = c.args.key.now in
    c.aes-chain.ensures ∙ ap (aes key) c.xored.ensures ∙ chained-more (aes key) c.args.text.now c.loop-i.chain c.block_at.result c.loop-i.i c.loop-i.invariant c.block_at.ensures
