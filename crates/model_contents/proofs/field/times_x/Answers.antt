use Rattle.std.proofs.Common.{arith}
use Rattle.model_contents.proofs.FieldLemmas.{times_x-low, times_x-high}
use Rattle.model_contents.proofs.field.times_x.Goals as goal

pub returns-then-b-lt128 : goal.returns-then-b-lt128
returns-then-b-lt128 c = times_x-low c.args.b (omega arith)

pub returns-else-b-lt128 : goal.returns-else-b-lt128
returns-else-b-lt128 c = times_x-high c.args.b (omega arith) (omega arith)
