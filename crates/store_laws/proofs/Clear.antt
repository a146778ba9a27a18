-- The form NFC of a text is a text, so what names stand for are valid clear names.
use Rattle.std.proofs.Common.{◌≡◌, ℕ, nat_lt, Bool, true, false, cond, List, length, Option, Some, None, Result, Ok, Err, refl, sym, ap, ◌∙◌, subst}
use Rattle.std.specs.Option.{option_map_or}
use Rattle.std.specs.Str.{chars, is_utf8, IsUtf8}
use Rattle.std.proofs.lemmas.Str.{IsUtf8-from_is_utf8, scalars-chars}
use Rattle.unicode_normalization.specs.Forms.{nfc}
use Rattle.nfc_text.specs.Nfc.{nfc_of}
use Rattle.tree_model.specs.Names.{NameFault, not_utf8, too_long, name_limit, form_fault, checked_name, clear_name, IsClearName}
use Rattle.vault_names.proofs.NameLemmas.{IsClearName-checked}
use Rattle.store_laws.proofs.Forms.{normal}

form_is_text : (bytes : List ℕ) → IsUtf8 bytes → IsUtf8 (nfc_of bytes)
unfolding nfc_of
form_is_text bytes is = (nfc (chars bytes), (normal (chars bytes) (scalars-chars bytes is), refl))

passed : (name : List ℕ) (fault : Option NameFault) (rest : Result (List ℕ) NameFault) → option_map_or (λ f. Err f) fault rest ≡ Ok name → rest ≡ Ok name
passed name None rest e = e
passed name (Some f) rest e = absurd cc

checked : (form name : List ℕ) → checked_name form ≡ Ok name → form ≡ name
checked form name e = go (nat_lt name_limit (length form)) (passed name (form_fault form) (cond (nat_lt name_limit (length form)) (Err (too_long (length form))) (Ok form)) e)
  where
    go : (long : Bool) → cond long (Err (too_long (length form))) (Ok form) ≡ Ok name → form ≡ name
    go true h = absurd cc
    go false h = cc

pub clear_names_are_valid : (name clear : List ℕ) → clear_name name ≡ Ok clear → IsClearName clear
unfolding clear_name
clear_names_are_valid name clear e = go (is_utf8 name) refl e
  where
    go : (text : Bool) → is_utf8 name ≡ text → cond text (option_map_or (λ f. Err f) (form_fault name) (checked_name (nfc_of name))) (Err not_utf8) ≡ Ok clear → IsClearName clear
    go false is h = absurd cc
    go true is h =
        let good : checked_name (nfc_of name) ≡ Ok clear = passed clear (form_fault name) (checked_name (nfc_of name)) h in
        let same : nfc_of name ≡ clear = checked (nfc_of name) clear good in
        subst IsClearName same (IsClearName-checked name (nfc_of name) (form_is_text name (IsUtf8-from_is_utf8 name is)) refl (good ∙ ap Ok (sym same)))
