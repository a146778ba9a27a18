use Rattle.crash_laws.proofs.Moves.{running_safe}
use Rattle.crash_laws.proofs.laws.running_safe.Goals as goal

pub returns : goal.returns
returns c start = λ opened rows. running_safe _ opened rows
