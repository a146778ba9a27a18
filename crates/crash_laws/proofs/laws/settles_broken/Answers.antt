use Rattle.crash_laws.proofs.Moves.{settles_broken}
use Rattle.crash_laws.proofs.laws.settles_broken.Goals as goal

pub returns : goal.returns
returns c start = λ blind opened rows. settles_broken _ opened rows blind
