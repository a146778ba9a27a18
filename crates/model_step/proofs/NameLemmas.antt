-- What the bytes of a name alone refuse, and its form NFC.
use Rattle.std.proofs.Common.{◌≡◌, ℕ, Bool, true, false, List, Option, Some, Err, refl, ap}
use Rattle.std.proofs.lemmas.Str.{is_utf8-from_IsUtf8, IsUtf8-from_is_utf8}
use Rattle.std.specs.Option.{option_map, option_map_or}
use Rattle.std.specs.Str.{IsUtf8, is_utf8}
use Rattle.nfc_text.specs.Nfc.{nfc_of}
use Rattle.tree_model.specs.declared.refusal.Refusal.TheVariants as refusals
use Rattle.tree_model.specs.Names.{NameFault, not_utf8, form_fault, checked_name, clear_name}
use Rattle.tree_model.specs.Step.{name_refusal, raw_name_refusal}

false_from : (b : Bool) → (b ≡ true → ⊥) → b ≡ false
false_from true h = absurd (h refl)
false_from false h = refl

not_text : (bytes : List ℕ) → (IsUtf8 bytes → ⊥) → is_utf8 bytes ≡ false
not_text bytes not = false_from _ (λ h. not (IsUtf8-from_is_utf8 bytes h))

pub raw-not_utf8 : (bytes : List ℕ) → (IsUtf8 bytes → ⊥) → raw_name_refusal bytes ≡ Some refusals.BadName
raw-not_utf8 bytes not = let no : is_utf8 bytes ≡ false = not_text bytes not in rw no refl

pub raw-utf8 : (bytes : List ℕ) (fault : Option NameFault) → IsUtf8 bytes → fault ≡ form_fault bytes → option_map name_refusal fault ≡ raw_name_refusal bytes
raw-utf8 bytes fault is same = rw (is_utf8-from_IsUtf8 bytes is) (ap (option_map name_refusal) same)

pub clear-not_utf8 : (bytes : List ℕ) → (IsUtf8 bytes → ⊥) → clear_name bytes ≡ Err not_utf8
unfolding clear_name
clear-not_utf8 bytes not = let no : is_utf8 bytes ≡ false = not_text bytes not in rw no refl

-- a text's clear name, by what its bytes alone refuse
pub clear-utf8 : (bytes : List ℕ) (fault : Option NameFault) → IsUtf8 bytes → fault ≡ form_fault bytes
    → option_map_or (λ fault. Err fault) fault (checked_name (nfc_of bytes)) ≡ clear_name bytes
unfolding clear_name
clear-utf8 bytes fault is same =
    rw (is_utf8-from_IsUtf8 bytes is) (ap (λ (o : Option NameFault). option_map_or (λ fault. Err fault) o (checked_name (nfc_of bytes))) same)
