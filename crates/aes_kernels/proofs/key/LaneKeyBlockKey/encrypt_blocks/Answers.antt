use Rattle.std.proofs.Common.{[], get_or, refl, arith}
use Rattle.aes_block.specs.Aes.{aes}
use Rattle.aes_kernels.proofs.LaneKeys.{four_more, one_more}
use Rattle.aes_kernels.proofs.key.LaneKeyBlockKey.encrypt_blocks.Goals as goal

pub loop-i-preserved : goal.loop-i-preserved
loop-i-preserved c =
    four_more (aes c.args.self.now) c.args.blocks.now c.loop-i.blocks c.encrypted_four-made.result c.loop-i.i (omega arith) c.loop-i.auto.blocks c.loop-i.invariant c.encrypted_four-made.ensures

pub loop-i-2-preserved : goal.loop-i-2-preserved
loop-i-2-preserved c =
    one_more (aes c.args.self.now) c.args.blocks.now c.loop-i-2.blocks c.loop-i-2.i (get_or c.loop-i-2.blocks c.loop-i-2.i []) c.encrypt.new.block (omega arith) (omega arith) c.loop-i-2.invariant refl c.encrypt.ensures
