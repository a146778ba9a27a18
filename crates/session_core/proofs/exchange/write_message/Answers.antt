use Rattle.std.proofs.Common.{arith}
use Rattle.session_core.proofs.Exchanges.{written}
use Rattle.session_core.proofs.exchange.write_message.Goals as goal

pub returns-clause-bytes : goal.returns-clause-bytes
returns-clause-bytes c =
    written _ c.args.out.now c.write_reply.new.out c.write_reply.result c.write_reply.ensures.bytes c.write_reply.auto.out (omega (arith, c.requires.room, c.write_reply.ensures.size))
