use Rattle.crash_laws.proofs.Stops.{closes_whole, closes_broken}
use Rattle.crash_laws.proofs.laws.closes.Goals as goal

pub returns-clause-whole : goal.returns-clause-whole
returns-clause-whole c start = λ blind opened rows. closes_whole _ rows opened blind

pub returns-clause-safe : goal.returns-clause-safe
returns-clause-safe c start = λ blind opened rows. closes_broken _ rows opened blind
