use Rattle.live_tree_laws.proofs.Keeping.{childless_have_no_child, free_names_are_free}
use Rattle.live_tree_laws.proofs.names_are_held.Goals as goal

pub returns-clause-free : goal.returns-clause-free
returns-clause-free c = free_names_are_free

pub returns-clause-childless : goal.returns-clause-childless
returns-clause-childless c = childless_have_no_child
