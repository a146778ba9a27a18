-- Clear names: the checks of a name in NFC, and that a name that passed them is valid.
use Rattle.std.proofs.Common.{◌≡◌, ℕ, Bool, true, false, List, length, nat_lt, if◌then◌else◌, Option, Some, None, IsSomeAnd, Result, Ok, Err, refl, subst, sym, ap, ◌∙◌}
use Rattle.std.proofs.lemmas.Str.{chars_from_encodes, is_utf8-from_IsUtf8, IsUtf8-from_is_utf8}
use Rattle.std.specs.Str.{IsUtf8, is_utf8, chars, encode_utf8_all}
use Rattle.unicode_normalization.specs.Forms.{nfc}
use Rattle.unicode_normalization.proofs.FormsLemmas.{nfc_idem}
use Rattle.nfc_text.specs.Nfc.{nfc_of}
use Rattle.std.specs.Option.{option_map_or}
use Rattle.tree_model.specs.Names.{NameFault, not_utf8, too_long, name_limit, form_fault, checked_name, clear_name, IsClearName}
use Rattle.vault_names.specs.declared.name.BadName.{BadName}
use Rattle.vault_names.specs.Faults.{IsFault}
use Rattle.aes_block.specs.Bytes.{AreBytes}
use Rattle.vault_names.proofs.ByteLemmas.{AreBytes-IsUtf8}

false_from : (b : Bool) → (b ≡ true → ⊥) → b ≡ false
false_from true h = absurd (h refl)
false_from false h = refl

pub clear_name-utf8 : (bytes : List ℕ) → IsUtf8 bytes → form_fault bytes ≡ None → clear_name bytes ≡ checked_name (nfc_of bytes)
unfolding clear_name
clear_name-utf8 bytes is free =
    rw (is_utf8-from_IsUtf8 bytes is) (ap (λ (o : Option NameFault). option_map_or (λ fault. Err fault) o (checked_name (nfc_of bytes))) free)

-- what the text itself refuses
pub clear_name-form : (bytes : List ℕ) (fault : NameFault) → IsUtf8 bytes → form_fault bytes ≡ Some fault → clear_name bytes ≡ Err fault
unfolding clear_name
clear_name-form bytes fault is found =
    rw (is_utf8-from_IsUtf8 bytes is) (ap (λ (o : Option NameFault). option_map_or (λ fault. Err fault) o (checked_name (nfc_of bytes))) found)

pub clear_name-not_utf8 : (bytes : List ℕ) → (IsUtf8 bytes → ⊥) → clear_name bytes ≡ Err not_utf8
unfolding clear_name
clear_name-not_utf8 bytes not = let no : is_utf8 bytes ≡ false = false_from _ (λ h. not (IsUtf8-from_is_utf8 bytes h)) in rw no refl

-- the form NFC of the form NFC is itself
pub nfc_of_idem : (bytes form : List ℕ) → IsUtf8 form → form ≡ nfc_of bytes → nfc_of form ≡ form
unfolding nfc_of
nfc_of_idem bytes form is e =
    let points : nfc (chars bytes) ≡ chars form = chars_from_encodes (nfc (chars bytes)) form is (sym e) in
    ap encode_utf8_all (ap nfc (sym points) ∙ nfc_idem (chars bytes)) ∙ sym e

-- an error for what the text itself refuses is one for its clear name
pub form_refused : (bytes : List ℕ) (e : BadName) (fault : Option NameFault) → IsUtf8 bytes → form_fault bytes ≡ fault → IsSomeAnd fault (λ f. IsFault e (Err f)) → IsFault e (clear_name bytes)
form_refused bytes e None is found refused = absurd refused
form_refused bytes e (Some fault) is found refused = subst (λ (r : Result (List ℕ) NameFault). IsFault e r) (sym (clear_name-form bytes fault is found)) refused

passed_form : (name : List ℕ) (fault : Option NameFault) (rest : Result (List ℕ) NameFault) → option_map_or (λ fault. Err fault) fault rest ≡ Ok name → fault ≡ None
passed_form name None rest e = refl
passed_form name (Some fault) rest e = absurd cc

-- a name in NFC that passes the checks is a valid clear name
pub IsClearName-checked : (bytes form : List ℕ) → IsUtf8 form → form ≡ nfc_of bytes → checked_name form ≡ Ok form → IsClearName form
IsClearName-checked bytes form is e passes =
    clear_name-utf8 form is (passed_form form (form_fault form) (if nat_lt name_limit (length form) then Err (too_long (length form)) else Ok form) passes)
    ∙ ap checked_name (nfc_of_idem bytes form is e) ∙ passes

-- a valid clear name is UTF-8
IsUtf8-from_clear : (bytes name : List ℕ) (is : Bool) → is_utf8 bytes ≡ is → clear_name bytes ≡ Ok name → IsUtf8 bytes
unfolding clear_name
IsUtf8-from_clear bytes name true e h = IsUtf8-from_is_utf8 bytes e
IsUtf8-from_clear bytes name false e h = let no = rw e at h in cc

pub AreBytes-clear : (name : List ℕ) → IsClearName name → AreBytes name
AreBytes-clear name h = AreBytes-IsUtf8 name (IsUtf8-from_clear name name (is_utf8 name) refl h)
