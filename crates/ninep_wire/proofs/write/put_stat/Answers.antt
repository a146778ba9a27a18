use Rattle.std.proofs.Common.{◌+◌, arith}
use Rattle.ninep_wire.proofs.WroteLaws.{Wrote-and_stays}
use Rattle.ninep_wire.proofs.write.put_stat.Goals as goal

pub returns-clause-bytes : goal.returns-clause-bytes
returns-clause-bytes c =
    Wrote-and_stays c.put_u16-at.ensures.bytes (c.put_u16-at.result + c.from.result) 9 c.args.count (omega arith) (omega arith) (omega arith)
