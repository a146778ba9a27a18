use Rattle.live_tree_laws.proofs.Loading.{loading_holds}
use Rattle.live_tree_laws.proofs.loading_holds.Goals as goal

pub returns : goal.returns
returns c = loading_holds
