use Rattle.crash_laws.proofs.Stable.{stable_next}
use Rattle.crash_laws.proofs.laws.stables_follow.Goals as goal

pub returns : goal.returns
returns c = stable_next
