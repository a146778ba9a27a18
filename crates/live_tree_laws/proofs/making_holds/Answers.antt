use Rattle.live_tree_laws.proofs.Making.{making_holds}
use Rattle.live_tree_laws.proofs.making_holds.Goals as goal

pub returns : goal.returns
returns c = making_holds
