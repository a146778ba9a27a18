use Rattle.std.proofs.Common.{arith}
use Rattle.aes_block.proofs.Schedules.{AreBytes-each}
use Rattle.aes_kernels.proofs.key.each_is_a_byte.Goals as goal

pub returns : goal.returns
returns c = AreBytes-each c.args.bytes.now (λ i. omega (arith, c.type_inv.bytes i))
