use Rattle.std.proofs.Common.{◌≡◌, ℕ, List, Option, None, Result, Ok, sym, ap, ◌∙◌}
use Rattle.nfc_text.specs.Nfc.{nfc_of}
use Rattle.tree_model.specs.Names.{NameFault, form_fault, checked_name}
use Rattle.model_step.proofs.NameLemmas.{clear-not_utf8, clear-utf8}
use Rattle.model_step.proofs.names.clear_name.Goals as goal

pub returns-in_default : goal.returns-in_default
returns-in_default c = sym (clear-not_utf8 c.args.bytes.now c.in_default.ensures.cases.0)

pub returns-in-Some : goal.returns-in-Some
returns-in-Some c =
    let fault = c.in-Some.ensures ∙ ap form_fault c.in-Ok.ensures.cases.0 in
    clear-utf8 c.args.bytes.now _ c.in-Ok.ensures.cases.1 fault

pub returns-in-Some-checked_fault : goal.returns-in-Some-checked_fault
returns-in-Some-checked_fault c =
    let free : ◌≡◌ {A = Option NameFault} None (form_fault c.args.bytes.now) = c.in_default-form_fault.ensures ∙ ap form_fault c.in-Ok.ensures.cases.0 in
    let form : c.as_str.result.now ≡ nfc_of c.args.bytes.now = c.as_str.ensures.value ∙ c.in_ok-name.ensures ∙ ap nfc_of c.in-Ok.ensures.cases.0 in
    c.in-Some-checked_fault.ensures ∙ ap checked_name form ∙ clear-utf8 c.args.bytes.now None c.in-Ok.ensures.cases.1 free

pub returns : goal.returns
returns c =
    let free : ◌≡◌ {A = Option NameFault} None (form_fault c.args.bytes.now) = c.in_default-form_fault.ensures ∙ ap form_fault c.in-Ok.ensures.cases.0 in
    let form : c.as_str.result.now ≡ nfc_of c.args.bytes.now = c.as_str.ensures.value ∙ c.in_ok-name.ensures ∙ ap nfc_of c.in-Ok.ensures.cases.0 in
    let same : c.in_ok-from_slice-in-None.field-0.items ≡ c.as_str.result.now = cc (c.in_ok-from_slice-in-None.ensures.items, c.as_bytes.ensures.value, c.as_str.ensures.value) in
    let name : ◌≡◌ {A = Result (List ℕ) NameFault} (Ok c.in_ok-from_slice-in-None.field-0.items) (Ok c.as_str.result.now) = ap (λ (n : List ℕ). Ok n) same in
    name ∙ c.in-None.ensures ∙ ap checked_name form ∙ clear-utf8 c.args.bytes.now None c.in-Ok.ensures.cases.1 free
