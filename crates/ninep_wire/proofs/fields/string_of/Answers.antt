use Rattle.ninep_wire.proofs.NameLaws.{string_read, string_refused}
use Rattle.ninep_wire.proofs.fields.string_of.Goals as goal

pub returns-in-Ok : goal.returns-in-Ok
returns-in-Ok c =
    string_read c.args.bytes.now c.in_ok-length.length c.from.result c.in_ok-length.rest.now c.in_ok-text.text.now c.in_ok-text.rest.now c.in-Ok.text.now
    c.in_ok-length.ensures c.from.ensures c.in_ok-text.ensures.given c.in-Ok.ensures.cases.1 c.in-Ok.ensures.cases.0

pub returns-in-Err : goal.returns-in-Err
returns-in-Err c =
    string_refused c.args.bytes.now c.in_ok-length.length c.from.result c.in_ok-length.rest.now c.in_ok-text.text.now c.in_ok-text.rest.now
    c.in_ok-length.ensures c.from.ensures c.in_ok-text.ensures.given c.in-Err.ensures.cases.0
