use Rattle.std.proofs.Common.{◌*◌, ◌/◌, length, ap, ◌∙◌, arith}
use Rattle.std.proofs.lemmas.Slice.{between_to_end}
use Rattle.aes_block.specs.Aes.{aes}
use Rattle.model_contents.proofs.MacLemmas.{cmac-is}
use Rattle.model_contents.proofs.mac.cmac.Goals as goal

pub returns : goal.returns
returns c =
    let key = c.args.key.now in
    let text = c.args.text.now in
    let count = c.saturating_sub-count.result / 16 in
    c.aes.ensures ∙ ap (aes key) c.xored.ensures
    ∙ cmac-is (aes key) text c.chained.result c.last_block-last.result _ count (ap (λ n. n / 16) c.saturating_sub-count.ensures)
    c.chained.ensures (between_to_end text (16 * count) (length text) (omega arith)) c.last_block-last.ensures
