-- Texts of decimal digits and their values.
use Rattle.std.proofs.Common.{◌≡◌, ℕ, ◌^◌, ◌<◌, ◌≤◌, Bool, true, false, cond, not, ◌&&◌, ◌==◌, nat_lt, nat_le, List, [], ◌∷◌, length, Some, None, inl, inr, refl, ap, arith}
use Rattle.std.proofs.lemmas.Bool.{cases_lt, le-leb, leb-true, lt-leb, ltb-true, ne_eqb}
use Rattle.std.proofs.lemmas.Str.{digit_value_digit}
use Rattle.std.specs.List.{list_all}
use Rattle.std.specs.Char.{is_ascii_digit}
use Rattle.std.specs.Str.Parse.{AllDigits, IsNumeral, digits_value, without_leading_plus}
use Rattle.vault_words.specs.Numbers.{has_leading_zero, is_decimal, number_in}

both : (a b : Bool) → (a && b) ≡ true → (a ≡ true) × (b ≡ true)
both true true h = (refl, refl)
both true false h = cc
both false b h = cc

-- another text has no number
pub number_in-other : (least most : ℕ) (text : List ℕ) → is_decimal text ≡ false → None ≡ number_in least most text
unfolding number_in
number_in-other least most text other = rw other refl

-- a number in its range
pub number_in-within : (least most n : ℕ) (text : List ℕ) → is_decimal text ≡ true → n ≡ digits_value 10 text → least ≤ n → n ≤ most
    → Some n ≡ number_in least most text
unfolding number_in
number_in-within least most n text is same low high =
    let l : nat_le least (digits_value 10 text) ≡ true = le-leb least (digits_value 10 text) (omega arith) in
    let h : nat_le (digits_value 10 text) most ≡ true = le-leb (digits_value 10 text) most (omega arith) in
    rw (is, l, h) (ap Some same)

-- a number below its range
pub number_in-below : (least most : ℕ) (text : List ℕ) → digits_value 10 text < least → None ≡ number_in least most text
unfolding number_in
number_in-below least most text below =
    let l : nat_le least (digits_value 10 text) ≡ false = lt-leb least (digits_value 10 text) below in
    rw l (none (is_decimal text))
  where
    none : (b : Bool) → None ≡ cond (b && false) (Some (digits_value 10 text)) None
    none true = refl
    none false = refl

-- a number above its range
pub number_in-above : (least most : ℕ) (text : List ℕ) → most < digits_value 10 text → None ≡ number_in least most text
unfolding number_in
number_in-above least most text above =
    let h : nat_le (digits_value 10 text) most ≡ false = lt-leb (digits_value 10 text) most above in
    rw h (none (is_decimal text) (nat_le least (digits_value 10 text)))
  where
    none : (b c : Bool) → None ≡ cond (b && (c && false)) (Some (digits_value 10 text)) None
    none true true = refl
    none true false = refl
    none false c = refl

-- ---- what `parse` reads

-- the codes of the digits
in_digits : (c : ℕ) → is_ascii_digit c ≡ true → (48 ≤ c) × (c ≤ 57)
in_digits c h = let p = both (nat_le 48 c) (nat_le c 57) h in (leb-true 48 c p.0, leb-true c 57 p.1)

all_digits : (text : List ℕ) → list_all is_ascii_digit text ≡ true → AllDigits 10 text
all_digits [] h = tt
all_digits (c ∷ cs) h =
    let p = both (is_ascii_digit c) (list_all is_ascii_digit cs) h in
    let r = in_digits c p.0 in
    (omega (arith, digit_value_digit c r, r.0, r.1), all_digits cs p.1)

parts : (text : List ℕ) → is_decimal text ≡ true → (0 < length text) × (list_all is_ascii_digit text ≡ true)
parts text h =
    let p = both (nat_lt 0 (length text)) (not (has_leading_zero text) && list_all is_ascii_digit text) h in
    (ltb-true 0 (length text) p.0, (both (not (has_leading_zero text)) (list_all is_ascii_digit text) p.1).1)

no_plus : (text : List ℕ) → 0 < length text → list_all is_ascii_digit text ≡ true → without_leading_plus text ≡ text
no_plus [] long h = absurd (omega arith)
no_plus (c ∷ cs) long h =
    let p = both (is_ascii_digit c) (list_all is_ascii_digit cs) h in
    let r = in_digits c p.0 in
    let other : (c == 43) ≡ false = ne_eqb c 43 (λ e. omega (arith, e, r.0)) in
    rw other refl

-- decimal digits that aren't read are 2^64 and more
pub digits_value-unread : (text : List ℕ) → is_decimal text ≡ true
    → ((IsNumeral 10 (without_leading_plus text) × (digits_value 10 (without_leading_plus text) < 2 ^ 64)) → ⊥) → 2 ^ 64 ≤ digits_value 10 text
digits_value-unread text is not =
    let p = parts text is in
    let plain = no_plus text p.0 p.1 in
    elim (cases_lt (digits_value 10 text) (2 ^ 64)) [
      | inl small ↦ absurd (not (rw plain ((p.0, all_digits text p.1), small)))
      | inr big ↦ big
    ]
