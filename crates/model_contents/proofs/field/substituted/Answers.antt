use Rattle.std.proofs.Common.{◌∙◌, ap}
use Rattle.aes_block.specs.Field.{affine, substituted}
use Rattle.model_contents.proofs.field.substituted.Goals as goal

pub returns : goal.returns
unfolding substituted
returns c = c.affine.ensures ∙ ap affine c.inverse.ensures
