use Rattle.std.specs.Option.{option_copied}
use Rattle.live_tree.proofs.Finding.{if_next, if_no_next}
use Rattle.live_tree.proofs.tree.LiveTree.next_after.Goals as goal

pub returns-clause-next : goal.returns-clause-next
returns-clause-next c = rw (← c.self.view_is) (if_next c.self.inside.names _ c.self.invariant c.args.parent (option_copied c.args.last) c.next_name.result c.next_name.ensures.next)

pub returns-clause-none : goal.returns-clause-none
returns-clause-none c = rw (← c.self.view_is) (if_no_next c.self.inside.names _ c.self.invariant c.args.parent (option_copied c.args.last) c.next_name.result c.next_name.ensures.none)
