use Rattle.crash_laws.proofs.Safe.{crash_more}
use Rattle.crash_laws.proofs.laws.crash_more.Goals as goal

pub returns : goal.returns
returns c start = crash_more _
