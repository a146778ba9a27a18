use Rattle.std.proofs.Common.{ap, ◌∙◌, sym, add-one}
use Rattle.aes_block.specs.Aes.{power_of_x}
use Rattle.aes_block.specs.Field.{times_x}
use Rattle.model_contents.proofs.FieldLemmas.{product-two}
use Rattle.model_contents.proofs.cipher.power_of_x.Goals as goal

pub loop-preserved : goal.loop-preserved
loop-preserved c = c.product-power.ensures ∙ product-two c.loop.power ∙ ap times_x c.loop.invariant ∙ ap power_of_x (sym (add-one c.loop.counter))
