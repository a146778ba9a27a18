use Rattle.name_places.proofs.Listed.{claims_are_whole}
use Rattle.name_places.proofs.laws.claims_are_whole.Goals as goal

pub returns : goal.returns
returns c = claims_are_whole
