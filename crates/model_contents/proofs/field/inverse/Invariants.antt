use Rattle.model_contents.proofs.FieldLemmas.{IsSought}
use Rattle.model_contents.proofs.field.inverse.Given as goal

abbrev pub invariant-loop-x : goal.invariant-loop-x
invariant-loop-x l = IsSought l.b l.x
