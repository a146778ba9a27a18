use Rattle.std.proofs.Common.{◌≡◌, Bool, true, false, ◌==◌, ◌||◌, List, [], ◌∷◌, ℕ, length, Option, Some, None, IsSomeAnd, if◌then◌else◌, refl, sym, ap, ◌∙◌}
use Rattle.std.specs.List.{list_any}
use Rattle.std.specs.Option.{option_map}
use Rattle.std.specs.Str.{bytes_eq, is_utf8}
use Rattle.std.proofs.lemmas.Str.{is_utf8-from_IsUtf8}
use Rattle.tree_model.specs.declared.refusal.Refusal.{Refusal}
use Rattle.tree_model.specs.declared.refusal.Refusal.TheVariants as refusals
use Rattle.tree_model.specs.Names.{NameFault, empty, dots, forbidden, form_fault}
use Rattle.tree_model.specs.Step.{name_refusal, raw_name_refusal}
use Rattle.request_checks.proofs.names.raw_name_refusal.Goals as goal

raw-utf8 : (name : List ℕ) → is_utf8 name ≡ true → raw_name_refusal name ≡ option_map name_refusal (form_fault name)
raw-utf8 name is = rw is refl

-- each fault of the form is refused as a bad name
bad_form : (is_empty is_dots is_forbidden : Bool) (P : NameFault → Type 0)
    → IsSomeAnd (if is_empty then Some empty else if is_dots then Some dots else if is_forbidden then Some forbidden else None) P
    → option_map name_refusal (if is_empty then Some empty else if is_dots then Some dots else if is_forbidden then Some forbidden else None) ≡ Some refusals.BadName
bad_form true is_dots is_forbidden P some = refl
bad_form false true is_forbidden P some = refl
bad_form false false true P some = refl
bad_form false false false P some = absurd some

bad_name : (name : List ℕ) (P : NameFault → Type 0) → IsSomeAnd (form_fault name) P → option_map name_refusal (form_fault name) ≡ Some refusals.BadName
bad_name name P some =
    bad_form (length name == 0) (bytes_eq name (46 ∷ []) || bytes_eq name (46 ∷ 46 ∷ [])) (list_any (λ b. (b == 47) || (b == 0)) name) P some

pub returns-in-Ok : goal.returns-in-Ok
returns-in-Ok c = sym (raw-utf8 c.args.name.now (is_utf8-from_IsUtf8 c.args.name.now c.utf8.name) ∙ ap (option_map name_refusal) c.in-Ok.ensures)

pub returns-in-Err : goal.returns-in-Err
returns-in-Err c = sym (raw-utf8 c.args.name.now (is_utf8-from_IsUtf8 c.args.name.now c.utf8.name) ∙ bad_name c.args.name.now _ c.in-Err.ensures)
