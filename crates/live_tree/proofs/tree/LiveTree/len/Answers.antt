use Rattle.live_tree.proofs.Finding.{tree_is}
use Rattle.live_tree.proofs.tree.LiveTree.len.Goals as goal

pub returns-clause-tree : goal.returns-clause-tree
returns-clause-tree c = rw (← c.self.view_is) (tree_is c.self.inside.names _ c.self.invariant)
