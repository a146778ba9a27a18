use Rattle.std.proofs.Common.{refl, ◌≡◌, Ok, ◌∙◌, sym, ap, subst, List, ℕ}
use Rattle.std.proofs.lemmas.Result.{err_from_is_err_and}
use Rattle.std.specs.String.{string_bytes}
use Rattle.std.proofs.lemmas.Str.{IsUtf8-string_bytes}
use Rattle.nfc_text.specs.Nfc.{nfc_of}
use Rattle.tree_model.specs.Names.{form_fault, checked_name, clear_name}
use Rattle.vault_names.proofs.NameLemmas.{clear_name-not_utf8, clear_name-utf8, form_refused, IsClearName-checked}
use Rattle.vault_names.proofs.name.clear_name.Goals as goal

pub returns-in_default-clause-fault : goal.returns-in_default-clause-fault
returns-in_default-clause-fault c = clear_name-not_utf8 _ c.in_default.ensures.cases.0

pub returns-in_err-check_form-clause-fault : goal.returns-in_err-check_form-clause-fault
returns-in_err-check_form-clause-fault c =
    let p = err_from_is_err_and c.from_residual.result c.from_residual.ensures.1 in
    rw (p.1, p.2) (form_refused c.args.bytes.now _ (form_fault c.args.bytes.now) c.in-Ok.ensures.cases.1 refl (rw c.in-Ok.ensures.cases.0 at c.in_err-check_form.ensures))

pub returns-in_err-check-clause-fault : goal.returns-in_err-check-clause-fault
returns-in_err-check-clause-fault c =
    let form = c.in_ok-text.ensures ∙ ap nfc_of c.in-Ok.ensures.cases.0 in
    let same : clear_name c.args.bytes.now ≡ checked_name c.as_str.result.now =
    clear_name-utf8 c.args.bytes.now c.in-Ok.ensures.cases.1 (rw (sym c.in-Ok.ensures.cases.0) c.in_ok-check_form.ensures) ∙ ap checked_name (sym form ∙ sym c.as_str.ensures.value) in
    let p = err_from_is_err_and c.from_residual-in_err-check.result c.from_residual-in_err-check.ensures.1 in
    rw (p.1, p.2) (rw same c.in_err-check.ensures)

pub invariant_of-result : goal.invariant_of-result
invariant_of-result c =
    let form = c.in_ok-text.ensures ∙ ap nfc_of c.in-Ok.ensures.cases.0 in
    let passes = subst (λ (t : List ℕ). checked_name t ≡ Ok t) c.as_str.ensures.value c.in_ok-check.ensures in
    IsClearName-checked c.args.bytes.now (string_bytes c.in_ok-text.text) (IsUtf8-string_bytes c.in_ok-text.text) form passes

pub returns-clause-name : goal.returns-clause-name
returns-clause-name c =
    let form = c.in_ok-text.ensures ∙ ap nfc_of c.in-Ok.ensures.cases.0 in
    let passes = subst (λ (t : List ℕ). checked_name t ≡ Ok t) c.as_str.ensures.value c.in_ok-check.ensures in
    clear_name-utf8 c.args.bytes.now c.in-Ok.ensures.cases.1 (rw (sym c.in-Ok.ensures.cases.0) c.in_ok-check_form.ensures) ∙ ap checked_name (sym form) ∙ passes
