use Rattle.std.proofs.Common.{arith}
use Rattle.key_wrap.proofs.States.{joined-is}
use Rattle.key_wrap.proofs.steps.joined.Goals as goal

pub returns : goal.returns
returns c = joined-is _ _ c.args.first.now c.args.second.now _ 8 c.copy_from_slice.ensures.after c.copy_from_slice-2.ensures.after c.requires.first (omega arith)
