use Rattle.crash_laws.proofs.Histories.{continues}
use Rattle.crash_laws.proofs.laws.continues.Goals as goal

pub returns : goal.returns
returns c = continues
