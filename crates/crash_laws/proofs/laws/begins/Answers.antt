use Rattle.crash_laws.proofs.Openings.{begins_found, begins_now, opening_recovers}
use Rattle.crash_laws.proofs.laws.begins.Goals as goal

pub returns-clause-found : goal.returns-clause-found
returns-clause-found c start = begins_found _

pub returns-clause-now : goal.returns-clause-now
returns-clause-now c start = begins_now _

pub returns-clause-failed : goal.returns-clause-failed
returns-clause-failed c start = opening_recovers _
