use Rattle.crash_laws.proofs.States.{state_tidy}
use Rattle.crash_laws.proofs.Stops.{state_stops}
use Rattle.crash_laws.proofs.laws.stops_recover.Goals as goal

pub returns-clause-prefix : goal.returns-clause-prefix
returns-clause-prefix c start = λ opened rows. state_stops _ rows opened

pub returns-clause-tidy : goal.returns-clause-tidy
returns-clause-tidy c start = state_tidy _
