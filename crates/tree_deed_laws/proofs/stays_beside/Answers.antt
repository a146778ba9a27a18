use Rattle.tree_deed_laws.proofs.Beside.{stays_beside}
use Rattle.tree_deed_laws.proofs.stays_beside.Goals as goal

pub returns : goal.returns
returns c = stays_beside
