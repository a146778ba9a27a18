use Rattle.crash_laws.proofs.Moves.{lives_on}
use Rattle.crash_laws.proofs.laws.lives_on.Goals as goal

pub returns : goal.returns
returns c start = lives_on _
