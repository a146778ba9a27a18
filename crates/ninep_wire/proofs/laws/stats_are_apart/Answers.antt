use Rattle.ninep_wire.proofs.StatLaws.{apart}
use Rattle.ninep_wire.proofs.laws.stats_are_apart.Goals as goal

pub returns : goal.returns
returns c = apart
