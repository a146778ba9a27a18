use Rattle.tree_deed_laws.proofs.Held.{entries_are_of_places}
use Rattle.tree_deed_laws.proofs.entries_are_of_places.Goals as goal

pub returns : goal.returns
returns c = entries_are_of_places
