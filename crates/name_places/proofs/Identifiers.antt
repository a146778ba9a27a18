-- A UUID as text is an identifier.
use Rattle.std.proofs.Common.{◌≡◌, ℕ, true, nat_le, List, length, refl, arith}
use Rattle.std.proofs.lemmas.Bool.Decides.{nat_tests}
use Rattle.std.proofs.lemmas.Str.{is_utf8-from_IsUtf8}
use Rattle.std.specs.Str.{IsUtf8, is_utf8}
use Rattle.uuid.proofs.TextLemmas.{by_index_length}
use Rattle.tree_loading.specs.Format.{is_identifier}
use Rattle.name_places.specs.New.{identifier_of}

pub length-identifier_of : (drawn : List ℕ) → length (identifier_of drawn) ≡ 36
length-identifier_of drawn = by_index_length 36 _

pub valid_text : (text : List ℕ) → length text ≡ 36 → IsUtf8 text → is_identifier text ≡ true
valid_text text long is =
    let some : nat_le 1 (length text) ≡ true = grind (arith, nat_tests) in
    let few : nat_le (length text) 1000 ≡ true = grind (arith, nat_tests) in
    let utf8 : is_utf8 text ≡ true = is_utf8-from_IsUtf8 text is in
    rw (some, few, utf8) refl
