use Rattle.std.proofs.Common.{sym, ap, ◌∙◌}
use Rattle.tree_model.specs.Names.{form_fault}
use Rattle.model_step.proofs.NameLemmas.{raw-not_utf8, raw-utf8}
use Rattle.model_step.proofs.names.raw_name_refusal.Goals as goal

pub returns-in_default : goal.returns-in_default
returns-in_default c = sym (raw-not_utf8 c.args.bytes.now c.in_default.ensures.cases.0)

pub returns-in-Some : goal.returns-in-Some
returns-in-Some c =
    let fault = c.in-Some.ensures ∙ ap form_fault c.in-Ok.ensures.cases.0 in
    rw c.name_refusal.ensures (raw-utf8 c.args.bytes.now _ c.in-Ok.ensures.cases.1 fault)

pub returns-in-None : goal.returns-in-None
returns-in-None c =
    let fault = c.in-None.ensures ∙ ap form_fault c.in-Ok.ensures.cases.0 in
    raw-utf8 c.args.bytes.now _ c.in-Ok.ensures.cases.1 fault
