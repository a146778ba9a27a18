use Rattle.tree_deed_laws.proofs.Shapes.{removal_follows}
use Rattle.tree_deed_laws.proofs.removals_follow.Goals as goal

pub returns : goal.returns
returns c = removal_follows
