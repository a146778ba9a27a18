use Rattle.std.proofs.Common.{◌+◌, arith}
use Rattle.ninep_wire.proofs.WroteLaws.{Wrote-and_stays}
use Rattle.ninep_wire.proofs.write.put_read.Goals as goal

pub returns-clause-bytes : goal.returns-clause-bytes
returns-clause-bytes c =
    Wrote-and_stays c.put_u32-at.ensures.bytes (c.put_u32-at.result + c.args.count) 11 c.args.count (omega arith) (omega arith) (omega arith)
