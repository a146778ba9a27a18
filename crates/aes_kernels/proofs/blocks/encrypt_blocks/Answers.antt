use Rattle.std.proofs.Common.{[], get_or, refl, arith}
use Rattle.aes_block.specs.Aes.{aes}
use Rattle.aes_kernels.proofs.LaneKeys.{one_more}
use Rattle.aes_kernels.proofs.Groups.{eight_more}
use Rattle.aes_kernels.proofs.blocks.encrypt_blocks.Goals as goal

pub loop-i-preserved : goal.loop-i-preserved
loop-i-preserved c =
    eight_more (aes c.args.key.now) c.args.blocks.now c.loop-i.blocks c.encrypted_eight-made.result c.loop-i.i (omega arith) c.loop-i.auto.blocks c.loop-i.invariant (c.encrypted_eight-made.ensures c.args.key.now c.round_keys-keys.ensures)

pub loop-i-2-preserved : goal.loop-i-2-preserved
loop-i-2-preserved c =
    one_more (aes c.args.key.now) c.args.blocks.now c.loop-i-2.blocks c.loop-i-2.i (get_or c.loop-i-2.blocks c.loop-i-2.i []) c.encrypt.new.block (omega arith) (omega arith) c.loop-i-2.invariant refl c.encrypt.ensures
