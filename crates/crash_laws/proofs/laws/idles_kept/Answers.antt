use Rattle.crash_laws.proofs.Moves.{idles_kept}
use Rattle.crash_laws.proofs.laws.idles_kept.Goals as goal

pub returns : goal.returns
returns c start = λ opened rows. idles_kept _ opened rows
