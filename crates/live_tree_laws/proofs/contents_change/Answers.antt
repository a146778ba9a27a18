use Rattle.live_tree_laws.proofs.Rewriting.{contents_change}
use Rattle.live_tree_laws.proofs.contents_change.Goals as goal

pub returns : goal.returns
returns c = contents_change
