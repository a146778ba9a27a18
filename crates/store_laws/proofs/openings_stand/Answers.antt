use Rattle.store_laws.proofs.Openings.{openings_stand}
use Rattle.store_laws.proofs.Others.{found_is_kept}
use Rattle.store_laws.proofs.Ends.{failed_openings_recover}
use Rattle.store_laws.proofs.openings_stand.Goals as goal

pub returns-clause-stand : goal.returns-clause-stand
returns-clause-stand c = openings_stand

pub returns-clause-failed : goal.returns-clause-failed
returns-clause-failed c = failed_openings_recover

pub returns-clause-kept : goal.returns-clause-kept
returns-clause-kept c = found_is_kept
