use Rattle.live_tree_laws.proofs.Writing.{writing_holds}
use Rattle.live_tree_laws.proofs.writing_holds.Goals as goal

pub returns : goal.returns
returns c = writing_holds
