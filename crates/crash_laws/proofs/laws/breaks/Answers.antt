use Rattle.crash_laws.proofs.Moves.{breaks}
use Rattle.crash_laws.proofs.laws.breaks.Goals as goal

pub returns : goal.returns
returns c start = λ blind opened rows. breaks _ opened rows blind
