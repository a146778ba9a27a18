use Rattle.live_tree.proofs.Finding.{if_none}
use Rattle.live_tree.proofs.tree.LiveTree.look.Goals as goal

pub returns-clause-none : goal.returns-clause-none
returns-clause-none c = rw (← c.self.view_is) (if_none c.self.inside.names _ c.self.invariant c.args.parent c.args.name.now c.number_at.result c.number_at.ensures)
