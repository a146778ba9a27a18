use Rattle.std.proofs.Common.{sym}
use Rattle.live_tree.proofs.Public.{before_parent}
use Rattle.live_tree.proofs.tree.LiveTree.parent_of.Goals as goal

pub returns-clause-before : goal.returns-clause-before
returns-clause-before c = before_parent c.self.inside.names _ c.args.number c.parent.result c.in-Some.node.now c.self.invariant (sym c.in-Some.ensures.value) c.parent.ensures
