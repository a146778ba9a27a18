use Rattle.tree_deed_laws.proofs.Creates.{creates_file}
use Rattle.tree_deed_laws.proofs.creates_file.Goals as goal

pub returns : goal.returns
returns c = creates_file
