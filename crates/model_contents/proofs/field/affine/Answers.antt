use Rattle.std.proofs.Common.{arith}
use Rattle.model_contents.proofs.FieldLemmas.{affine-rotated}
use Rattle.model_contents.proofs.field.affine.Goals as goal

pub returns : goal.returns
returns c = rw (c.rotate_left.ensures, c.rotate_left-2.ensures, c.rotate_left-3.ensures, c.rotate_left-4.ensures) (affine-rotated c.args.b (omega arith))
