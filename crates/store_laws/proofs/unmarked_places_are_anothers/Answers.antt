use Rattle.store_laws.proofs.Requests.{places_are_anothers}
use Rattle.store_laws.proofs.Unmarked.{histories_stay_unmarked}
use Rattle.store_laws.proofs.unmarked_places_are_anothers.Goals as goal

pub returns-clause-stay : goal.returns-clause-stay
returns-clause-stay c = histories_stay_unmarked

pub returns-clause-anothers : goal.returns-clause-anothers
returns-clause-anothers c = places_are_anothers
