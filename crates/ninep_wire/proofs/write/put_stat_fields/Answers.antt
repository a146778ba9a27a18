use Rattle.ninep_wire.proofs.WroteLaws.{Wrote-then}
use Rattle.ninep_wire.proofs.write.put_stat_fields.Goals as goal

pub returns-clause-bytes : goal.returns-clause-bytes
returns-clause-bytes c =
    Wrote-then (Wrote-then (Wrote-then (Wrote-then c.put_numbers-at.ensures.bytes c.put_string-at.ensures.bytes) c.put_string-at-2.ensures.bytes) c.put_string-at-3.ensures.bytes) c.put_string.ensures.bytes
