use Rattle.std.proofs.Common.{arith, ◌+◌, ◌-◌}
use Rattle.aes_block.specs.Aes.{aes}
use Rattle.key_wrap.proofs.States.{wrap_step-is}
use Rattle.key_wrap.proofs.steps.wrap_step.Goals as goal

pub returns : goal.returns
returns c =
    wrap_step-is (aes c.args.kek.now) c.args.step c.offset-at.result (c.offset-at.result + 8 - c.offset-at.result) c.args.state.now _ _ _ _ _ c.offset-at.ensures (omega arith)
    c.joined-block.ensures c.encrypt.ensures c.encrypt.array_long c.write_part.ensures c.with_counter-check.ensures c.write_part-2.ensures
