use Rattle.ninep_wire.proofs.WroteLaws.{Wrote-then}
use Rattle.ninep_wire.proofs.write.put_numbers.Goals as goal

pub returns-clause-bytes : goal.returns-clause-bytes
returns-clause-bytes c =
    let named = Wrote-then (Wrote-then c.put_u16-at.ensures.bytes c.put_u32-at.ensures.bytes) c.put_qid-at.ensures.bytes in
    let dated = Wrote-then (Wrote-then (Wrote-then named c.put_u32-at-2.ensures.bytes) c.put_u32-at-3.ensures.bytes) c.put_u32-at-4.ensures.bytes in
    Wrote-then dated c.put_u64.ensures.bytes
