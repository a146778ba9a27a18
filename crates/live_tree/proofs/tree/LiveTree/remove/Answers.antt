use Rattle.live_tree.proofs.Public.{rows_of_removed, childless_changed, there_changed}
use Rattle.live_tree.proofs.tree.LiveTree.remove.Goals as goal

pub drop_node-requires-clause-childless : goal.drop_node-requires-clause-childless
drop_node-requires-clause-childless c = rw c.change.ensures (childless_changed c.args.self.now c.args.number c.parent_of-parent.result c.args.now c.requires.childless)

pub returns-clause-rows : goal.returns-clause-rows
returns-clause-rows c =
    rows_of_removed c.args.self.now c.change.new.self c.drop_node.new.self c.args.number c.parent_of-parent.result c.args.now c.parent_of-parent.ensures.value c.change.ensures c.drop_node.ensures

pub drop_node-requires-clause-there : goal.drop_node-requires-clause-there
drop_node-requires-clause-there c = rw c.change.ensures (there_changed c.args.self.now c.args.number c.parent_of-parent.result c.args.now c.requires.there)
