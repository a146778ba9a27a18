use Rattle.ninep_wire.proofs.WroteLaws.{Wrote-then}
use Rattle.ninep_wire.proofs.put.put_qid.Goals as goal

pub returns-clause-bytes : goal.returns-clause-bytes
returns-clause-bytes c = Wrote-then (Wrote-then c.put_u8-at.ensures.bytes c.put_u32-at.ensures.bytes) c.put_u64.ensures.bytes
