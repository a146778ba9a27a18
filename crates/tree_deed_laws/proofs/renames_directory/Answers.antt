use Rattle.tree_deed_laws.proofs.Renames.{renames_directory}
use Rattle.tree_deed_laws.proofs.renames_directory.Goals as goal

pub returns : goal.returns
returns c = renames_directory
