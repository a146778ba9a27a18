use Rattle.crash_laws.proofs.Moves.{idles}
use Rattle.crash_laws.proofs.laws.idles.Goals as goal

pub returns : goal.returns
returns c start = λ opened rows history pending pending' log entry after is at stable does shows. idles _ opened rows history pending pending' log entry is at stable after does shows
