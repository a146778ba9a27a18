use Rattle.std.proofs.Common.{arith}
use Rattle.std.proofs.lemmas.Grind.{common_steps}
use Rattle.outside_mem.proofs.Fronts.{front_moved}
use Rattle.outside_mem.proofs.stream.MemSourceSource.read.Goals as goal

pub returns-clause-bytes : goal.returns-clause-bytes
returns-clause-bytes c = rw (← c.self.view_is) (front_moved c.self.inside.bytes.items _ c.self.inside.at _ (grind (arith, common_steps)))
