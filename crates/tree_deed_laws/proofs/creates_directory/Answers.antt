use Rattle.tree_deed_laws.proofs.Creates.{creates_directory}
use Rattle.tree_deed_laws.proofs.creates_directory.Goals as goal

pub returns : goal.returns
returns c = creates_directory
