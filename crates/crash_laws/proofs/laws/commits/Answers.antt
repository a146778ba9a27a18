use Rattle.crash_laws.proofs.Moves.{commits}
use Rattle.crash_laws.proofs.laws.commits.Goals as goal

pub returns : goal.returns
returns c start = λ blind opened rows. commits _ opened rows blind
