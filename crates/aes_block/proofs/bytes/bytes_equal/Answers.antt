use Rattle.std.proofs.Common.{arith}
use Rattle.aes_block.proofs.Differences.{tells_more}
use Rattle.aes_block.proofs.bytes.bytes_equal.Goals as goal

pub loop-i-preserved : goal.loop-i-preserved
loop-i-preserved c = tells_more c.args.a.now c.args.b.now c.loop-i.i c.loop-i.differences (omega arith) (omega arith) c.loop-i.invariant
