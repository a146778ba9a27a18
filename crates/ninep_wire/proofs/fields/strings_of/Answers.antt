use Rattle.std.proofs.Common.{refl, arith}
use Rattle.ninep_wire.proofs.NameLaws.{names_lie}
use Rattle.ninep_wire.proofs.fields.strings_of.Goals as goal

pub overflow_sub-bytes : goal.overflow_sub-bytes
overflow_sub-bytes c = (names_lie c.args.count c.args.bytes.now c.in_ok-rest.rest.now (λ i. omega (arith, c.type_inv.bytes i)) c.in_ok-rest.ensures).long

pub returns-clause-given : goal.returns-clause-given
returns-clause-given c =
    let lie = names_lie c.args.count c.args.bytes.now c.in_ok-rest.rest.now (λ i. omega (arith, c.type_inv.bytes i)) c.in_ok-rest.ensures in
    rw c.split_at.ensures.front lie.given

pub returns-clause-form : goal.returns-clause-form
returns-clause-form c =
    let lie = names_lie c.args.count c.args.bytes.now c.in_ok-rest.rest.now (λ i. omega (arith, c.type_inv.bytes i)) c.in_ok-rest.ensures in
    (refl, rw c.split_at.ensures.front lie.form)
