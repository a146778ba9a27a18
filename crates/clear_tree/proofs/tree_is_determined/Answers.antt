use Rattle.clear_tree.proofs.Laws.{one_tree_law}
use Rattle.clear_tree.proofs.tree_is_determined.Goals as goal

pub returns : goal.returns
returns c = one_tree_law
