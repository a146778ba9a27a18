use Rattle.live_tree.proofs.Public.{rows_of_added}
use Rattle.live_tree.proofs.tree.LiveTree.add.Goals as goal

pub append-requires-clause-free : goal.append-requires-clause-free
append-requires-clause-free c = rw c.in_ok-made.ensures c.requires.free

pub returns-clause-rows : goal.returns-clause-rows
returns-clause-rows c =
    rows_of_added c.self.inside.names _ c.args.self.now c.append.new.self c.change.new.self c.in_ok-made.field-0 c.args.parent c.args.name _ c.args.entry c.args.long c.args.now c.self.invariant c.self.view_is
    c.requires.parent c.requires.what c.in_ok-made.ensures c.in_ok-append.ensures.appended c.change.ensures
