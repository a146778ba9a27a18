use Rattle.std.proofs.Common.{sym, ◌∙◌}
use Rattle.std.proofs.lemmas.Result.{err_from_is_err_and}
use Rattle.serde_json.specs.View.{view}
use Rattle.json_members.proofs.Objects.{object_of-not_utf8, object_of-unread, object_of-object, object_of-other}
use Rattle.json_members.proofs.Object.read.Goals as goal

pub returns-in_default-clause-none : goal.returns-in_default-clause-none
returns-in_default-clause-none c = λ _. object_of-not_utf8 c.args.bytes.now c.in_default.ensures.cases.0

pub returns-in_err-value-clause-none : goal.returns-in_err-value-clause-none
returns-in_err-value-clause-none c = λ is.
    let p = err_from_is_err_and c.from_residual.result c.from_residual.ensures.1 in
    object_of-unread c.args.bytes.now c.in-Ok.text.now c.in-Ok.ensures.cases.1 c.in-Ok.ensures.cases.0 (c.in_err-value.ensures.none (cc (is, p.1, p.2)))

pub returns-then-is_object-clause-object : goal.returns-then-is_object-clause-object
returns-then-is_object-clause-object c =
    object_of-object c.args.bytes.now c.in-Ok.text.now (view c.in_ok-value.value) c.in-Ok.ensures.cases.1 c.in-Ok.ensures.cases.0
    c.in_ok-value.ensures.value (sym c.if-is_object.true ∙ c.is_object.ensures)

pub returns-else-is_object-clause-none : goal.returns-else-is_object-clause-none
returns-else-is_object-clause-none c = λ _.
    object_of-other c.args.bytes.now c.in-Ok.text.now (view c.in_ok-value.value) c.in-Ok.ensures.cases.1 c.in-Ok.ensures.cases.0
    c.in_ok-value.ensures.value (sym c.if-is_object.false ∙ c.is_object.ensures)
