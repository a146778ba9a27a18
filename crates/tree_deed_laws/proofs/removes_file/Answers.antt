use Rattle.tree_deed_laws.proofs.Removes.{removes_file}
use Rattle.tree_deed_laws.proofs.removes_file.Goals as goal

pub returns : goal.returns
returns c = removes_file
