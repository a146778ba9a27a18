-- The names of a walk as they are in a message.
use Rattle.std.proofs.Common.{◌≡◌, ℕ, suc, ◌+◌, ◌-◌, ◌*◌, ◌/◌, ◌%◌, ◌<◌, ◌≤◌, ◌^◌, false, List, [], ◌∷◌, ◌++◌, length, take, drop, Result, Ok, Err, refl, sym, ap, subst, ◌∙◌, arith}
use Rattle.std.specs.Str.{IsUtf8, is_utf8}
use Rattle.std.specs.List.{flat_map, AllByRecursion}
use Rattle.std.proofs.lemmas.Bool.{false_from_ne_true}
use Rattle.std.proofs.lemmas.List.{take_at, drop_at, drop-drop, length-append}
use Rattle.std.proofs.lemmas.List.Concat.{flat_map-cons}
use Rattle.std.proofs.lemmas.Str.{IsUtf8-from_is_utf8, is_utf8-from_IsUtf8}
use Rattle.tree_model.specs.Names.{spelled_names, names_in, AreNames}
use Rattle.ninep_wire.specs.declared.fault.WireErr.{WireErr}
use Rattle.ninep_wire.specs.declared.fault.WireErr.TheVariants.{Text}
use Rattle.tree_model.specs.Wire.{string, IsString}
use Rattle.ninep_wire.specs.Reading.{◌>>=◌, rest_of, bytes_at, number_at, string_at, strings_at}
use Rattle.ninep_wire.proofs.FieldLaws.{IsBytes, bind_ok, ok_is, strings_take}

pub is_utf8-false : (text : List ℕ) → (IsUtf8 text → ⊥) → is_utf8 text ≡ false
is_utf8-false text other = false_from_ne_true (is_utf8 text) (λ e. other (IsUtf8-from_is_utf8 text e))

-- a string that is UTF-8, and one that isn't
pub string_read : (bytes : List ℕ) (n size : ℕ) (rest text after shown : List ℕ) → number_at 2 bytes ≡ Ok (n, rest) → size ≡ n →
    bytes_at size rest ≡ Ok (text, after) → IsUtf8 text → shown ≡ text → string_at bytes ≡ Ok (shown, after)
unfolding string_at
string_read bytes n size rest text after shown first wide second utf8 same = rw (first, ← wide, second, is_utf8-from_IsUtf8 text utf8, same) refl

pub string_refused : (bytes : List ℕ) (n size : ℕ) (rest text after : List ℕ) → number_at 2 bytes ≡ Ok (n, rest) → size ≡ n →
    bytes_at size rest ≡ Ok (text, after) → (IsUtf8 text → ⊥) → string_at bytes ≡ Err Text
unfolding string_at
string_refused bytes n size rest text after first wide second other = rw (first, ← wide, second, is_utf8-false text other) refl

-- ---- one string after another

drops : (read : Result (List (List ℕ) × List ℕ) WireErr) (n : List ℕ) → rest_of (read >>= λ x. Ok (n ∷ x.0, x.1)) ≡ rest_of read
drops (Ok x) n = refl
drops (Err d) n = refl

pub goes_on : (count i : ℕ) (bytes text after : List ℕ) (total : Result (List ℕ) WireErr) → i < count → string_at bytes ≡ Ok (text, after)
    → rest_of (strings_at (count - i) bytes) ≡ total → rest_of (strings_at (count - (i + 1)) after) ≡ total
unfolding strings_at
goes_on count i bytes text after total lt h so_far =
    let k : count - i ≡ suc (count - (i + 1)) = omega arith in
    let one : rest_of (strings_at (count - i) bytes) ≡ rest_of (strings_at (count - (i + 1)) after) = rw (k, h) (drops (strings_at (count - (i + 1)) after) text) in
    sym one ∙ so_far

pub ends : (e : WireErr) (count i : ℕ) (bytes : List ℕ) (total : Result (List ℕ) WireErr) → i < count → string_at bytes ≡ Err e
    → rest_of (strings_at (count - i) bytes) ≡ total → total ≡ Err e
unfolding strings_at
ends e count i bytes total lt h so_far =
    let k : count - i ≡ suc (count - (i + 1)) = omega arith in
    let one : rest_of (strings_at (count - i) bytes) ≡ Err e = rw (k, h) refl in
    sym so_far ∙ one

pub is_done : (count i : ℕ) (bytes : List ℕ) (total : Result (List ℕ) WireErr) → count ≤ i → rest_of (strings_at (count - i) bytes) ≡ total → total ≡ Ok bytes
unfolding strings_at
is_done count i bytes total le so_far =
    let k : count - i ≡ 0 = omega arith in
    let one : rest_of (strings_at (count - i) bytes) ≡ Ok bytes = rw k refl in
    sym so_far ∙ one

-- ---- names in their place

abbrev done : List (List ℕ) × List ℕ → Result (List (List ℕ) × List ℕ) WireErr
done x = Ok x

drop_two : (n : ℕ) (bytes : List ℕ) → drop (2 + n) bytes ≡ drop n (drop 2 bytes)
drop_two n bytes = sym (drop-drop n 2 bytes)

names_in-string : (n : ℕ) (text rest : List ℕ) → length text < 2 ^ 16 → names_in (suc n) (string text ++ rest) ≡ text ∷ names_in n rest
unfolding names_in
names_in-string n text rest fits =
    let len : length text % 256 + 256 * (length text / 256 % 256) ≡ length text = omega arith in
    let front : take (length text) (text ++ rest) ≡ text = take_at text rest (length text) refl in
    let back : drop (2 + length text) (string text ++ rest) ≡ rest = drop_two (length text) (string text ++ rest) ∙ drop_at text rest (length text) refl in
    rw (len, front, back) refl

names_in-strings : (ns : List (List ℕ)) → AllByRecursion IsString ns → names_in (length ns) (flat_map string ns) ≡ ns
unfolding names_in
names_in-strings [] fits = refl
names_in-strings (n ∷ ns) fits =
    ap (names_in (suc (length ns))) (flat_map-cons string n ns) ∙ names_in-string (length ns) n (flat_map string ns) fits.0.fits ∙ ap (λ (w : List (List ℕ)). n ∷ w) (names_in-strings ns fits.1)

fit : (ns : List (List ℕ)) → AllByRecursion IsString ns → AllByRecursion (λ name. length name < 2 ^ 16) ns
fit [] fits = tt
fit (n ∷ ns) fits = (fits.0.fits, fit ns fits.1)

pair : (a b : List (List ℕ)) (x y : List ℕ) → a ≡ b → x ≡ y → done (a, x) ≡ done (b, y)
pair a b x y p q = cc

-- names that were read lie in the bytes that were taken
pub record Lie (count : ℕ) (bytes taken rest : List ℕ) : Type 0 where
  pub given : strings_at count bytes ≡ Ok (names_in count taken, rest)
  pub form : AreNames count taken
  pub long : length rest ≤ length bytes

pub names_lie : (count : ℕ) (bytes rest : List ℕ) → IsBytes bytes → rest_of (strings_at count bytes) ≡ Ok rest → Lie count bytes (take (length bytes - length rest) bytes) rest
names_lie count bytes rest fits e =
    let a = bind_ok (strings_at count bytes) (λ x. Ok x.1) rest e in
    let t = strings_take count bytes a.0 fits a.1 in
    let after : a.0.1 ≡ rest = ok_is a.0.1 rest a.2 in
    let text = flat_map string a.0.0 in
    let parts : bytes ≡ text ++ rest = subst (λ (w : List ℕ). bytes ≡ text ++ w) after t.0.parts in
    let len : length bytes - length rest ≡ length text = omega (arith, ap (λ (w : List ℕ). length w) parts, length-append text rest) in
    let taken : take (length bytes - length rest) bytes ≡ text = ap (take (length bytes - length rest)) parts ∙ take_at text rest (length bytes - length rest) (sym len) in
    let names : names_in count (take (length bytes - length rest) bytes) ≡ a.0.0 = ap (names_in count) taken ∙ ap (λ (k : ℕ). names_in k text) (sym t.1) ∙ names_in-strings a.0.0 t.2 in
    record {
      given = a.1 ∙ pair a.0.0 (names_in count (take (length bytes - length rest) bytes)) a.0.1 rest (sym names) after;
      form = record {
        spelled = taken ∙ ap spelled_names (sym names);
        count = ap (λ (w : List (List ℕ)). length w) names ∙ t.1;
        fit = subst (λ (w : List (List ℕ)). AllByRecursion (λ name. length name < 2 ^ 16) w) (sym names) (fit a.0.0 t.2);
      };
      long = omega (arith, ap (λ (w : List ℕ). length w) parts, length-append text rest);
    }
