use Rattle.ninep_wire.proofs.FrameLaws.{apart}
use Rattle.ninep_wire.proofs.laws.t_spellings_are_apart.Goals as goal

pub returns : goal.returns
returns c = apart
