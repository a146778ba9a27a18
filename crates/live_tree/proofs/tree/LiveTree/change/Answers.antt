use Rattle.live_tree.proofs.Steps.{change_is, change_held}
use Rattle.live_tree.proofs.tree.LiveTree.change.Goals as goal

pub invariant_of-self : goal.invariant_of-self
invariant_of-self c = change_held c.self.inside.names _ c.args.number c.args.now c.self.invariant c.change_node.new.nodes.entries c.change_node.ensures

pub returns : goal.returns
returns c = change_is _ c.args.self.now c.args.number c.args.now c.self.view_is c.change_node.new.nodes.entries c.change_node.ensures
