use Rattle.clear_tree.proofs.Loaded.{loading_ends}
use Rattle.clear_tree.proofs.loading_ends.Goals as goal

pub returns : goal.returns
returns c = loading_ends
