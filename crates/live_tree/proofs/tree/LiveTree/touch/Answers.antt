use Rattle.live_tree.proofs.Steps.{touch_is, touch_held, rows_of_touched, written_in}
use Rattle.live_tree.proofs.tree.LiveTree.touch.Goals as goal

pub resize_node-requires : goal.resize_node-requires
resize_node-requires c = written_in _ c.args.self.now c.args.number c.self.view_is c.requires.file

pub invariant_of-self : goal.invariant_of-self
invariant_of-self c =
    touch_held c.self.inside.names _ c.args.self.now c.args.number c.args.size c.args.now c.self.invariant c.self.view_is c.requires.file c.resize_node.new.nodes.entries c.change_node.new.nodes.entries
    c.resize_node.ensures c.change_node.ensures

pub returns-clause-held : goal.returns-clause-held
returns-clause-held c =
    touch_is _ c.args.self.now c.args.number c.args.size c.args.now c.self.view_is c.resize_node.new.nodes.entries c.change_node.new.nodes.entries
    c.resize_node.ensures c.change_node.ensures

pub returns-clause-rows : goal.returns-clause-rows
returns-clause-rows c =
    rows_of_touched c.self.inside.names _ c.args.self.now _ c.args.number c.args.size c.args.now c.self.invariant c.self.view_is c.requires.file
    (touch_is _ c.args.self.now c.args.number c.args.size c.args.now c.self.view_is c.resize_node.new.nodes.entries c.change_node.new.nodes.entries
    c.resize_node.ensures c.change_node.ensures)
