use Rattle.clear_tree.proofs.Laws.{walk_ends, walk_goes_on}
use Rattle.clear_tree.proofs.walk_is_exact.Goals as goal

pub returns-clause-ends : goal.returns-clause-ends
returns-clause-ends c = walk_ends

pub returns-clause-goes_on : goal.returns-clause-goes_on
returns-clause-goes_on c = walk_goes_on
