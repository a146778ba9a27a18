use Rattle.crash_laws.proofs.Moves.{settles}
use Rattle.crash_laws.proofs.laws.settles.Goals as goal

pub returns : goal.returns
returns c start = λ blind opened rows. settles _ opened rows blind
