use Rattle.tree_deed_laws.proofs.Renames.{renames_file}
use Rattle.tree_deed_laws.proofs.renames_file.Goals as goal

pub returns : goal.returns
returns c = renames_file
