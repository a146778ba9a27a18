use Rattle.live_tree_laws.proofs.Removing.{removing_holds}
use Rattle.live_tree_laws.proofs.removing_holds.Goals as goal

pub returns : goal.returns
returns c = removing_holds
