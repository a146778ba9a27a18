-- A valid name can be shown.
use Rattle.std.proofs.Common.{◌≡◌, ◌≤◌, ℕ, Bool, true, false, List, length, nat_lt, if◌then◌else◌, Option, Some, None, Result, Ok, Err, refl, arith}
use Rattle.std.specs.Str.{IsUtf8, is_utf8}
use Rattle.std.specs.Option.{option_map_or}
use Rattle.std.proofs.lemmas.Str.{IsUtf8-from_is_utf8}
use Rattle.std.proofs.lemmas.Grind.{common_steps}
use Rattle.nfc_text.specs.Nfc.{nfc_of}
use Rattle.tree_model.specs.Names.{NameFault, too_long, name_limit, form_fault, checked_name, clear_name, IsClearName}
use Rattle.clear_tree.specs.Kept.{What}
use Rattle.clear_tree.specs.Built.{IsShowable, HasHostFolder}

IsUtf8-from_clear : (bytes name : List ℕ) (is : Bool) → is_utf8 bytes ≡ is → clear_name bytes ≡ Ok name → IsUtf8 bytes
unfolding clear_name
IsUtf8-from_clear bytes name true e h = IsUtf8-from_is_utf8 bytes e
IsUtf8-from_clear bytes name false e h = let no = rw e at h in cc

passed : (fault : Option NameFault) (rest : Result (List ℕ) NameFault) (name : List ℕ) → option_map_or (λ fault. Err fault) fault rest ≡ Ok name → rest ≡ Ok name
passed None rest name h = h
passed (Some fault) rest name h = absurd cc

short_from_test : (name form : List ℕ) (long : Bool) → nat_lt name_limit (length form) ≡ long → (if long then Err (too_long (length form)) else Ok form) ≡ Ok name → length name ≤ name_limit
short_from_test name form true e h = absurd cc
short_from_test name form false e h =
    let same : form ≡ name = cc in
    rw (← same) (grind (arith, common_steps, e))

short_from_checked : (form name : List ℕ) → checked_name form ≡ Ok name → length name ≤ name_limit
short_from_checked form name h = short_from_test name form (nat_lt name_limit (length form)) refl (passed (form_fault form) _ name h)

short_from_clear : (bytes name : List ℕ) (is : Bool) → is_utf8 bytes ≡ is → clear_name bytes ≡ Ok name → length name ≤ name_limit
unfolding clear_name
short_from_clear bytes name true e h = let passes = rw e at h in short_from_checked (nfc_of bytes) name (passed (form_fault bytes) _ name passes)
short_from_clear bytes name false e h = let no = rw e at h in absurd cc

pub IsShowable-clear : (name : List ℕ) (what : What) → IsClearName name → HasHostFolder what → IsShowable name what
IsShowable-clear name what clear folder = record {
  text = IsUtf8-from_clear name name (is_utf8 name) refl clear;
  short = short_from_clear name name (is_utf8 name) refl clear;
  folder = folder;
}
