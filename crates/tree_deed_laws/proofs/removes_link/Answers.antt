use Rattle.tree_deed_laws.proofs.Removes.{removes_link}
use Rattle.tree_deed_laws.proofs.removes_link.Goals as goal

pub returns : goal.returns
returns c = removes_link
