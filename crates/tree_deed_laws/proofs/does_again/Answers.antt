use Rattle.tree_deed_laws.proofs.Again.{does_again}
use Rattle.tree_deed_laws.proofs.does_again.Goals as goal

pub returns : goal.returns
returns c = does_again
