use Rattle.crash_laws.proofs.Moves.{running_stable, ended_moment}
use Rattle.crash_laws.proofs.laws.tallies_hold.Goals as goal

pub returns-clause-stable : goal.returns-clause-stable
returns-clause-stable c start = λ opened rows. running_stable _ opened rows

pub returns-clause-moment : goal.returns-clause-moment
returns-clause-moment c start = ended_moment
