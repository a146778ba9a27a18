use Rattle.live_tree.proofs.Steps.{date_is, date_held, rows_of_dated}
use Rattle.live_tree.proofs.tree.LiveTree.set_modified.Goals as goal

pub invariant_of-self : goal.invariant_of-self
invariant_of-self c = date_held c.self.inside.names _ c.args.number c.args.modified c.self.invariant c.date_node.new.nodes.entries c.date_node.ensures

pub returns-clause-held : goal.returns-clause-held
returns-clause-held c = date_is _ c.args.self.now c.args.number c.args.modified c.self.view_is c.date_node.new.nodes.entries c.date_node.ensures

pub returns-clause-rows : goal.returns-clause-rows
returns-clause-rows c =
    rows_of_dated c.self.inside.names _ c.args.self.now _ c.args.number c.args.modified c.self.invariant c.self.view_is
    (date_is _ c.args.self.now c.args.number c.args.modified c.self.view_is c.date_node.new.nodes.entries c.date_node.ensures)
