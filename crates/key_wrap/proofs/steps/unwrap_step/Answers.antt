use Rattle.std.proofs.Common.{arith, ◌+◌, ◌-◌}
use Rattle.aes_block.specs.Aes.{inverse_aes}
use Rattle.key_wrap.proofs.States.{unwrap_step-is}
use Rattle.key_wrap.proofs.steps.unwrap_step.Goals as goal

pub returns : goal.returns
returns c =
    unwrap_step-is (inverse_aes c.args.kek.now) c.args.step c.offset-at.result (c.offset-at.result + 8 - c.offset-at.result) c.args.state.now _ _ _ _ _ c.offset-at.ensures (omega arith)
    c.with_counter-check.ensures c.joined-block.ensures c.decrypt.ensures c.decrypt.array_long c.write_part.ensures c.write_part-2.ensures
