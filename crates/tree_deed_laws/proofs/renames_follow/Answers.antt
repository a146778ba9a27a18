use Rattle.tree_deed_laws.proofs.Shapes.{rename_follows}
use Rattle.tree_deed_laws.proofs.renames_follow.Goals as goal

pub returns : goal.returns
returns c = rename_follows
