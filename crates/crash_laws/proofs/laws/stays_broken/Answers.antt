use Rattle.crash_laws.proofs.Moves.{stays_broken}
use Rattle.crash_laws.proofs.laws.stays_broken.Goals as goal

pub returns : goal.returns
returns c start = λ opened rows. stays_broken _ opened rows
