use Rattle.live_tree_laws.proofs.Files.{files_stand_at_places, places_are_held}
use Rattle.live_tree_laws.proofs.places_are_held.Goals as goal

pub returns-clause-places : goal.returns-clause-places
returns-clause-places c = places_are_held

pub returns-clause-files : goal.returns-clause-files
returns-clause-files c = files_stand_at_places
