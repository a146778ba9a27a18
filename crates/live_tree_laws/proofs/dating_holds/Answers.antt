use Rattle.live_tree_laws.proofs.Writing.{dating_holds}
use Rattle.live_tree_laws.proofs.dating_holds.Goals as goal

pub returns : goal.returns
returns c = dating_holds
