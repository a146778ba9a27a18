use Rattle.session_core.proofs.FoundBack.{found_back}
use Rattle.session_core.proofs.laws.fids_are_found_by_looking_back.Goals as goal

pub returns : goal.returns
returns c = found_back
