use Rattle.std.proofs.Common.{ap}
use Rattle.deeds.specs.Plain.{plain}
use Rattle.batch_looks.proofs.looking.need_of.Goals as goal

pub returns-in-RemoveDir-clause-foreign : goal.returns-in-RemoveDir-clause-foreign
returns-in-RemoveDir-clause-foreign g c = λ foreign. (c.in-RemoveDir.path, ap plain c.in-RemoveDir.is, c.need_emptied.ensures.foreign foreign)
