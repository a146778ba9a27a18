use Rattle.tree_deed_laws.proofs.Removes.{removes_directory}
use Rattle.tree_deed_laws.proofs.removes_directory.Goals as goal

pub returns : goal.returns
returns c = removes_directory
