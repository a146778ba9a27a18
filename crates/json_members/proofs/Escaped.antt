-- How long an escaped text is.
use Rattle.std.proofs.Common.{ℕ, ◌*◌, ◌/◌, ◌%◌, ◌≤◌, nat_lt, Bool, true, false, cond, List, [], ◌∷◌, length, arith}
use Rattle.std.proofs.lemmas.List.{length-append}
use Rattle.std.specs.Char.{digit_char}
use Rattle.json.specs.Print.{escape, escape_byte, escape_letter}

length-escape_byte-le : (b : ℕ) → length (escape_byte b) ≤ 6
unfolding escape_byte
length-escape_byte-le b = cases (nat_lt 0 (escape_letter b)) (nat_lt b 32)
  where
    cases : (x y : Bool) → length (cond x (92 ∷ escape_letter b ∷ []) (cond y (92 ∷ 117 ∷ 48 ∷ 48 ∷ digit_char (b / 16) ∷ digit_char (b % 16) ∷ []) (b ∷ []))) ≤ 6
    cases true y = omega arith
    cases false true = omega arith
    cases false false = omega arith

pub length-escape-le : (s : List ℕ) → length (escape s) ≤ 6 * length s
length-escape-le [] = omega arith
length-escape-le (b ∷ s) = omega (arith, length-append (escape_byte b) (escape s), length-escape_byte-le b, length-escape-le s)
