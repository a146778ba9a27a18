use Rattle.std.proofs.Common.{arith}
use Rattle.aes_kernels.proofs.key.is_block.Goals as goal

pub returns : goal.returns
returns c = (omega arith, c.each_is_a_byte.ensures)
