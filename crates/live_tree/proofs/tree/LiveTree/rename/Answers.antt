use Rattle.live_tree.proofs.Public.{rows_of_renamed}
use Rattle.live_tree.proofs.tree.LiveTree.rename.Goals as goal

pub returns-clause-rows : goal.returns-clause-rows
returns-clause-rows c =
    rows_of_renamed c.args.self.now c.give_name.new.self c.change.new.self c.args.number c.parent_of-parent.result c.args.name c.args.entry c.args.long c.args.now c.parent_of-parent.ensures.ordered c.parent_of-parent.ensures.value
    (c.parent_of-parent.ensures.before c.requires.below) c.in_ok-give_name.ensures.named c.change.ensures
