use Rattle.std.proofs.Common.{List, ℕ, subst}
use Rattle.ninep_wire.specs.Writing.{Wrote}
use Rattle.ninep_wire.proofs.WroteLaws.{Wrote-then}
use Rattle.ninep_wire.proofs.put.put_string.Goals as goal

pub returns-clause-bytes : goal.returns-clause-bytes
returns-clause-bytes c =
    let text = subst (λ (w : List ℕ). Wrote c.put_u16-start.new.out c.put_bytes.new.out c.put_u16-start.result c.put_bytes.result w) c.as_bytes.ensures.value c.put_bytes.ensures in
    Wrote-then c.put_u16-start.ensures.bytes text
