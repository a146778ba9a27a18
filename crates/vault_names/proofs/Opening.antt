-- Opening a sealed name gives the name, and only sealed names are opened.
use Rattle.std.proofs.Common.{◌≡◌, ◌↔◌, ℕ, ◌+◌, ◌-◌, ◌≤◌, Bool, true, false, List, [], ◌∷◌, ◌++◌, length, take, drop, Option, Some, None, IfSome, IfNone, Result, Ok, Err, if◌then◌else◌, refl, sym, ap, subst, ◌∙◌, arith}
use Rattle.std.specs.Option.{option_and_then}
use Rattle.std.specs.Result.{result_ok}
use Rattle.std.specs.Str.{bytes_eq}
use Rattle.std.proofs.lemmas.Slice.Eq.{bytes_eq-Decides}
use Rattle.std.proofs.lemmas.List.{take-append-drop, take_at, drop_at, length-append}
use Rattle.base64.specs.GeneralPurpose.{encode_of, decode_of, IsBytes, IsStrict, IsConsistent}
use Rattle.base64.specs.Engines.{url_safe}
use Rattle.base64.specs.declared.engine.general_purpose.GeneralPurpose.{GeneralPurpose}
use Rattle.base64.proofs.EngineFacts.{decode_of-encode_of, decode_of_strict}
use Rattle.aes_block.specs.Aes.{aes}
use Rattle.aes_block.specs.Bytes.{AreBytes}
use Rattle.vault_keys.specs.Keys.{KeyPair}
use Rattle.siv_mode.specs.Siv.{siv_sealed, siv_opened}
use Rattle.tree_model.specs.Names.{clear_name, IsClearName}
use Rattle.vault_names.specs.Sealed.{suffix, sealed_name, IsSealedName, before_suffix, decoded, valid_name, opened_name}
use Rattle.vault_names.proofs.ByteLemmas.{AreBytes-get_or}
use Rattle.vault_names.proofs.NameLemmas.{AreBytes-clear}

-- ---- options

pub and_then_some : {T U : Type 0} (f : T → Option U) (o : Option T) (u : U) → option_and_then f o ≡ Some u → (t : T) × (o ≡ Some t) × (f t ≡ Some u)
and_then_some f None u h = cc
and_then_some f (Some t) u h = (t, refl, h)

chosen : (b : Bool) (x y : List ℕ) → (if b then Some x else None) ≡ Some y → (b ≡ true) × (x ≡ y)
chosen true x y h = (refl, cc)
chosen false x y h = cc

result_ok_some : {A E : Type 0} (r : Result A E) (x : A) → result_ok r ≡ Some x → r ≡ Ok x
result_ok_some (Ok y) x h = let e : y ≡ x = cc in ap Ok e
result_ok_some (Err e) x h = cc

none_from : (o : Option (List ℕ)) → ((x : List ℕ) → o ≡ Some x → ⊥) → o ≡ None
none_from None h = refl
none_from (Some x) h = absurd (h x refl)

-- ---- the suffix

before_some : (text before : List ℕ) → before_suffix text ≡ Some before → text ≡ before ++ suffix
before_some text before h =
    let parts = chosen (bytes_eq (drop (length text - 4) text) suffix) (take (length text - 4) text) before h in
    let back : drop (length text - 4) text ≡ suffix = (bytes_eq-Decides (drop (length text - 4) text) suffix).0 parts.0 in
    sym (take-append-drop (length text - 4) text) ∙ (λ i. parts.1 i ++ back i)

before_of : (before : List ℕ) → before_suffix (before ++ suffix) ≡ Some before
before_of before =
    let size : length (before ++ suffix) - 4 ≡ length before = omega (arith, length-append before suffix) in
    let front = take_at before suffix (length before) refl in
    let back = drop_at before suffix (length before) refl in
    rw (size, back, front) refl

-- ---- the base64

strict : IsStrict url_safe
strict = (refl, refl)

consistent : IsConsistent url_safe
consistent = refl

decoded_some : (e : GeneralPurpose) (text bytes : List ℕ) → IsStrict e → IsBytes text → result_ok (decode_of e text) ≡ Some bytes → text ≡ encode_of e bytes
decoded_some e text bytes is are h = decode_of_strict e text bytes is are (result_ok_some (decode_of e text) bytes h)

decoded_encoded : (e : GeneralPurpose) (bytes : List ℕ) → IsConsistent e → IsBytes bytes → result_ok (decode_of e (encode_of e bytes)) ≡ Some bytes
decoded_encoded e bytes is are = ap result_ok (decode_of-encode_of e bytes is are)

-- ---- the name

pub valid_name_some : (bytes name : List ℕ) → valid_name bytes ≡ Some name → (bytes ≡ name) × IsClearName name
valid_name_some bytes name h =
    let found = and_then_some (λ (clear : List ℕ). if bytes_eq clear bytes then Some bytes else None) (result_ok (clear_name bytes)) name h in
    let kept = chosen (bytes_eq found.0 bytes) bytes name found.2 in
    let same : found.0 ≡ bytes = (bytes_eq-Decides found.0 bytes).0 kept.0 in
    let is : IsClearName bytes = result_ok_some (clear_name bytes) found.0 found.1 ∙ ap Ok same in
    (kept.1, subst IsClearName kept.1 is)

valid_of : (name : List ℕ) → IsClearName name → valid_name name ≡ Some name
valid_of name is = rw (is, (bytes_eq-Decides name name).1 refl) refl

-- ---- all of it

front_bytes : (xs ys : List ℕ) → AreBytes (xs ++ ys) → AreBytes xs
front_bytes [] ys h = tt
front_bytes (x ∷ xs) ys h = (h.0, front_bytes xs ys h.1)

-- a text is opened to a name if and only if it is the sealed name, if that is so of SIV
pub opened_iff : (keys : KeyPair) (parent text name : List ℕ)
    → ((text : List ℕ) → AreBytes text → AreBytes (siv_sealed (aes keys.mac) (aes keys.enc) (Some parent) text))
    → ((sealed text : List ℕ) → (siv_opened (aes keys.mac) (aes keys.enc) (Some parent) sealed ≡ Some text) ↔ (sealed ≡ siv_sealed (aes keys.mac) (aes keys.enc) (Some parent) text))
    → AreBytes text → (opened_name keys parent text ≡ Some name) ↔ IsSealedName keys parent text name
unfolding opened_name sealed_name
opened_iff keys parent text name bytes exact are = (
  λ h.
      let named = and_then_some valid_name _ name h in
      let opened = and_then_some (siv_opened (aes keys.mac) (aes keys.enc) (Some parent)) _ named.0 named.1 in
      let read = and_then_some decoded (before_suffix text) opened.0 opened.1 in
      let split : text ≡ read.0 ++ suffix = before_some text read.0 read.1 in
      let front : AreBytes read.0 = front_bytes read.0 suffix (subst AreBytes split are) in
      let encoded : read.0 ≡ encode_of url_safe opened.0 = decoded_some url_safe read.0 opened.0 strict (AreBytes-get_or read.0 front) read.2 in
      let valid = valid_name_some named.0 name named.2 in
      let sealed : opened.0 ≡ siv_sealed (aes keys.mac) (aes keys.enc) (Some parent) name =
      (exact opened.0 named.0).0 opened.2 ∙ ap (siv_sealed (aes keys.mac) (aes keys.enc) (Some parent)) valid.0 in
      record { valid = valid.1; sealed = split ∙ (λ i. encoded i ++ suffix) ∙ (λ i. encode_of url_safe (sealed i) ++ suffix) },
  λ is.
      let body = siv_sealed (aes keys.mac) (aes keys.enc) (Some parent) name in
      let read : before_suffix text ≡ Some (encode_of url_safe body) = ap before_suffix is.sealed ∙ before_of (encode_of url_safe body) in
      let made : decoded (encode_of url_safe body) ≡ Some body = decoded_encoded url_safe body consistent (AreBytes-get_or body (bytes name (AreBytes-clear name is.valid))) in
      let opened : siv_opened (aes keys.mac) (aes keys.enc) (Some parent) body ≡ Some name = (exact body name).1 refl in
      ap (λ (o : Option (List ℕ)). option_and_then valid_name (option_and_then (siv_opened (aes keys.mac) (aes keys.enc) (Some parent)) (option_and_then decoded o))) read
      ∙ ap (λ (o : Option (List ℕ)). option_and_then valid_name (option_and_then (siv_opened (aes keys.mac) (aes keys.enc) (Some parent)) o)) made
      ∙ ap (option_and_then valid_name) opened ∙ valid_of name is.valid,
)

-- what is shorter than a tag is opened to nothing
pub short_opens_to_none : (opening : List ℕ → Option (List ℕ)) (sealing : List ℕ → List ℕ) (sealed : List ℕ)
    → ((text : List ℕ) → length (sealing text) ≡ length text + 16)
    → ((s text : List ℕ) → (opening s ≡ Some text) ↔ (s ≡ sealing text))
    → (16 ≤ length sealed → ⊥) → opening sealed ≡ None
short_opens_to_none opening sealing sealed long exact short =
    none_from (opening sealed) (λ text is.
    let size : length sealed ≡ length (sealing text) = ap length ((exact sealed text).0 is) in
    short (omega (arith, size, long text)))

-- what the answer of opening says, if it is the value that the text determines
pub found_from : (keys : KeyPair) (parent text : List ℕ) (answer : Option (List ℕ))
    → ((name : List ℕ) → (opened_name keys parent text ≡ Some name) ↔ IsSealedName keys parent text name)
    → answer ≡ opened_name keys parent text → IfSome answer (λ n. IsSealedName keys parent text n)
found_from keys parent text None law is = tt
found_from keys parent text (Some name) law is = (law name).0 (sym is)

pub none_from_value : (keys : KeyPair) (parent text : List ℕ) (answer : Option (List ℕ))
    → ((name : List ℕ) → (opened_name keys parent text ≡ Some name) ↔ IsSealedName keys parent text name)
    → answer ≡ opened_name keys parent text → IfNone answer ((n : List ℕ) → IsSealedName keys parent text n → ⊥)
none_from_value keys parent text None law is = λ n sealed. let opened = is ∙ (law n).1 sealed in cc opened
none_from_value keys parent text (Some name) law is = tt
