use Rattle.ninep_wire.proofs.RMessageLaws.{apart}
use Rattle.ninep_wire.proofs.laws.r_spellings_are_apart.Goals as goal

pub returns : goal.returns
returns c = apart
