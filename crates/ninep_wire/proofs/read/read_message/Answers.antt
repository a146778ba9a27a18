use Rattle.std.proofs.Common.{arith}
use Rattle.ninep_wire.proofs.FrameLaws.{is_read, is_only}
use Rattle.ninep_wire.proofs.read.read_message.Goals as goal

pub returns-clause-read : goal.returns-clause-read
returns-clause-read c = is_read c.args.frame.now c.message_of.result (λ i. omega (arith, c.type_inv.frame i)) c.requires c.message_of.ensures.given

pub returns-clause-only : goal.returns-clause-only
returns-clause-only c = is_only c.args.frame.now c.message_of.result c.message_of.ensures.given
