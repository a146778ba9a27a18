use Rattle.clear_tree.proofs.Building.{whole_tree}
use Rattle.clear_tree.proofs.tree.Tree.len.Goals as goal

pub returns-clause-tree : goal.returns-clause-tree
returns-clause-tree c = rw (← c.self.view_is) (whole_tree c.self.inside.root c.self.inside.others.items c.self.inside.twice c.self.invariant)
