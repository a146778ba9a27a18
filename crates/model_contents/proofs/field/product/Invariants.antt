use Rattle.model_contents.proofs.FieldLemmas.{IsSoFar}
use Rattle.model_contents.proofs.field.product.Given as goal

abbrev pub invariant-loop-i : goal.invariant-loop-i
invariant-loop-i l = IsSoFar l.a l.b l.i l.sum l.multiple
