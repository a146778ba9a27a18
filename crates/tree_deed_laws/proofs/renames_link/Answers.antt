use Rattle.tree_deed_laws.proofs.Renames.{renames_link}
use Rattle.tree_deed_laws.proofs.renames_link.Goals as goal

pub returns : goal.returns
returns c = renames_link
