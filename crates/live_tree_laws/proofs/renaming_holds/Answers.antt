use Rattle.live_tree_laws.proofs.Renaming.{renaming_holds}
use Rattle.live_tree_laws.proofs.renaming_holds.Goals as goal

pub returns : goal.returns
returns c = renaming_holds
