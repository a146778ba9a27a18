use Rattle.demonstration.proofs.Ordered.{AreOrderedTo}
use Rattle.demonstration.proofs.left.are_ordered.Given as goal

abbrev pub invariant-loop-index : goal.invariant-loop-index
invariant-loop-index l = record { ordered : AreOrderedTo l.rows l.index }
