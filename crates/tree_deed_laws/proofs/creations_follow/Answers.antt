use Rattle.tree_deed_laws.proofs.Shapes.{directory_follows, file_follows}
use Rattle.tree_deed_laws.proofs.creations_follow.Goals as goal

pub returns-clause-file : goal.returns-clause-file
returns-clause-file c = file_follows

pub returns-clause-directory : goal.returns-clause-directory
returns-clause-directory c = directory_follows
