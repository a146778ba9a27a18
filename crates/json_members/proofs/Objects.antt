-- When bytes are an object.
use Rattle.std.proofs.Common.{◌≡◌, ℕ, List, true, false, Some, None, refl, ap, ◌∙◌}
use Rattle.std.proofs.lemmas.Bool.{false_from_ne_true}
use Rattle.std.specs.Option.{option_and_then, is_some}
use Rattle.std.specs.Str.{IsUtf8, is_utf8}
use Rattle.std.proofs.lemmas.Str.{is_utf8-from_IsUtf8, IsUtf8-from_is_utf8}
use Rattle.serde_json.specs.Data.{Data, null, boolean, number, string, array, object}
use Rattle.serde_json.specs.Read.{read}
use Rattle.serde_json.specs.Find.{as_object}
use Rattle.json_members.specs.Members.{only_object, object_of}

pub object_of-not_utf8 : (bytes : List ℕ) → (IsUtf8 bytes → ⊥) → object_of bytes ≡ None
unfolding object_of
object_of-not_utf8 bytes not = let no : is_utf8 bytes ≡ false = false_from_ne_true _ (λ h. not (IsUtf8-from_is_utf8 bytes h)) in rw no refl

object_of-utf8 : (bytes text : List ℕ) → IsUtf8 bytes → text ≡ bytes → object_of bytes ≡ option_and_then only_object (read text)
unfolding object_of
object_of-utf8 bytes text is same = rw (is_utf8-from_IsUtf8 bytes is) (rw same refl)

-- for callers who know what a text reads as
pub object_of-read : (bytes : List ℕ) (d : Data) → IsUtf8 bytes → read bytes ≡ Some d → object_of bytes ≡ only_object d
object_of-read bytes d is found = object_of-utf8 bytes bytes is refl ∙ ap (option_and_then only_object) found

pub object_of-unread : (bytes text : List ℕ) → IsUtf8 bytes → text ≡ bytes → read text ≡ None → object_of bytes ≡ None
object_of-unread bytes text is same unread = object_of-utf8 bytes text is same ∙ ap (option_and_then only_object) unread

object_only : (d : Data) → true ≡ is_some (as_object d) → only_object d ≡ Some d
object_only null h = cc
object_only (boolean b) h = cc
object_only (number n) h = cc
object_only (string s) h = cc
object_only (array ds) h = cc
object_only (object ms) h = refl

other_only : (d : Data) → false ≡ is_some (as_object d) → only_object d ≡ None
other_only null h = refl
other_only (boolean b) h = refl
other_only (number n) h = refl
other_only (string s) h = refl
other_only (array ds) h = refl
other_only (object ms) h = cc

pub object_of-object : (bytes text : List ℕ) (d : Data) → IsUtf8 bytes → text ≡ bytes → read text ≡ Some d → true ≡ is_some (as_object d) → object_of bytes ≡ Some d
object_of-object bytes text d is same found has =
    object_of-utf8 bytes text is same ∙ ap (option_and_then only_object) found ∙ object_only d has

pub object_of-other : (bytes text : List ℕ) (d : Data) → IsUtf8 bytes → text ≡ bytes → read text ≡ Some d → false ≡ is_some (as_object d) → object_of bytes ≡ None
object_of-other bytes text d is same found not =
    object_of-utf8 bytes text is same ∙ ap (option_and_then only_object) found ∙ other_only d not
