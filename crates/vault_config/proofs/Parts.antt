-- The pieces of a text between its dots, and the white space at its end.
use Rattle.std.proofs.Common.{◌≡◌, ℕ, zero, suc, ◌+◌, ◌-◌, ◌<◌, ◌≤◌, Bool, true, false, cond, not, ◌==◌, ◌&&◌, nat_lt, List, [], ◌∷◌, ◌++◌, length, take, drop, get_or, Some, None, refl, sym, ap, subst, ◌∙◌, arith, add-one, one-add}
use Rattle.std.specs.List.{position, prefix_len, list_all}
use Rattle.std.proofs.lemmas.List.{append_assoc, length-append, length-drop, take_all, take_at}
use Rattle.std.proofs.lemmas.Bool.{eqb-true, ltb-false, ltb-true}
use Rattle.std.specs.Char.{is_ascii_whitespace}
use Rattle.std.specs.Str.{IsTrimAsciiEnd}
use Rattle.vault_config.specs.Token.{trimmed, pieces_of, token_of_pieces}

-- ---- dots

abbrev is_dot : ℕ → Bool
is_dot b = b == 46

-- how many bytes are before the first dot
abbrev front_len : List ℕ → ℕ
front_len bytes = prefix_len (λ b. not (is_dot b)) bytes

chosen : (b : Bool) (k n : ℕ) → Some n ≡ cond b (Some k) None → (b ≡ true) × (n ≡ k)
chosen true k n h = (refl, cc)
chosen false k n h = cc

not_chosen : (b : Bool) (k : ℕ) → None ≡ cond b (Some k) None → b ≡ false
not_chosen true k h = cc
not_chosen false k h = refl

at_dot : (bytes : List ℕ) (n : ℕ) → Some n ≡ position (λ b. b == 46) bytes → (n ≡ front_len bytes) × (n < length bytes)
at_dot bytes n h =
    let p = chosen (nat_lt (front_len bytes) (length bytes)) (front_len bytes) n h in
    let less : front_len bytes < length bytes = ltb-true (front_len bytes) (length bytes) p.0 in
    (p.1, omega arith)

no_dot : (bytes : List ℕ) → None ≡ position (λ b. b == 46) bytes → length bytes ≤ front_len bytes
no_dot bytes h = ltb-false (front_len bytes) (length bytes) (not_chosen (nat_lt (front_len bytes) (length bytes)) (front_len bytes) h)

abbrev SplitsAt : List ℕ → ℕ → Type 0
SplitsAt bytes n = (pieces_of bytes ≡ take n bytes ∷ pieces_of (drop (suc n) bytes)) × (bytes ≡ take n bytes ++ 46 ∷ drop (suc n) bytes)

split_first : (t : Bool) (b : ℕ) (bytes : List ℕ) → is_dot b ≡ t → front_len (b ∷ bytes) < length (b ∷ bytes)
    → (front_len bytes < length bytes → SplitsAt bytes (front_len bytes)) → SplitsAt (b ∷ bytes) (front_len (b ∷ bytes))
unfolding pieces_of
split_first true b bytes e h rest = let is : b ≡ 46 = eqb-true b 46 e in (rw e refl, rw e (ap (λ x. x ∷ bytes) is))
split_first false b bytes e h rest =
    let h' : 1 + front_len bytes < suc (length bytes) = rw e at h in
    let found = rest (omega arith) in
    (rw (e, one-add, found.0) refl, rw (e, one-add) (ap (λ s. b ∷ s) found.1))

splits : (bytes : List ℕ) → front_len bytes < length bytes → SplitsAt bytes (front_len bytes)
splits [] h = absurd (omega arith)
splits (b ∷ bytes) h = split_first (is_dot b) b bytes refl h (splits bytes)

pub split_at_dot : (bytes : List ℕ) (n : ℕ) → Some n ≡ position (λ b. b == 46) bytes
    → (pieces_of bytes ≡ take n bytes ∷ pieces_of (take (length bytes - (n + 1)) (drop (n + 1) bytes)))
    × (bytes ≡ take n bytes ++ 46 ∷ take (length bytes - (n + 1)) (drop (n + 1) bytes))
split_at_dot bytes n h =
    let at = at_dot bytes n h in
    let found : SplitsAt bytes n = subst (SplitsAt bytes) (sym at.0) (splits bytes (subst (λ (k : ℕ). k < length bytes) at.0 at.1)) in
    let all : take (length bytes - (n + 1)) (drop (n + 1) bytes) ≡ drop (n + 1) bytes =
    take_all (length bytes - (n + 1)) (drop (n + 1) bytes) (omega (arith, length-drop (n + 1) bytes)) in
    (rw (all, add-one) found.0, rw all (rw add-one found.1))

one_first : (t : Bool) (b : ℕ) (bytes : List ℕ) → is_dot b ≡ t → length (b ∷ bytes) ≤ front_len (b ∷ bytes)
    → (length bytes ≤ front_len bytes → pieces_of bytes ≡ bytes ∷ []) → pieces_of (b ∷ bytes) ≡ (b ∷ bytes) ∷ []
unfolding pieces_of
one_first true b bytes e h rest = let h' : suc (length bytes) ≤ 0 = rw e at h in absurd (omega arith)
one_first false b bytes e h rest = let h' : suc (length bytes) ≤ 1 + front_len bytes = rw e at h in rw (e, rest (omega arith)) refl

one_piece : (bytes : List ℕ) → length bytes ≤ front_len bytes → pieces_of bytes ≡ bytes ∷ []
unfolding pieces_of
one_piece [] h = refl
one_piece (b ∷ bytes) h = one_first (is_dot b) b bytes refl h (one_piece bytes)

pub pieces_of-no_dot : (bytes : List ℕ) → None ≡ position (λ b. b == 46) bytes → pieces_of bytes ≡ bytes ∷ []
pieces_of-no_dot bytes h = one_piece bytes (no_dot bytes h)

-- ---- how many pieces

-- there is at least one
record HasFirst (pieces : List (List ℕ)) : Type 0 where
  pub piece : List ℕ
  pub others : List (List ℕ)
  pub is : pieces ≡ piece ∷ others

has_first : (t : Bool) (b : ℕ) (bytes : List ℕ) → is_dot b ≡ t → HasFirst (pieces_of bytes) → HasFirst (pieces_of (b ∷ bytes))
unfolding pieces_of
has_first true b bytes e f = record { piece = []; others = pieces_of bytes; is = rw e refl }
has_first false b bytes e f = record { piece = b ∷ f.piece; others = f.others; is = rw (e, f.is) refl }

first_piece : (bytes : List ℕ) → HasFirst (pieces_of bytes)
unfolding pieces_of
first_piece [] = record { piece = []; others = []; is = refl }
first_piece (b ∷ bytes) = has_first (is_dot b) b bytes refl (first_piece bytes)

pub four_are_none : (bytes a rest b signature c more : List ℕ) → pieces_of bytes ≡ a ∷ pieces_of rest → pieces_of rest ≡ b ∷ pieces_of signature
    → pieces_of signature ≡ c ∷ pieces_of more → token_of_pieces (pieces_of bytes) ≡ None
four_are_none bytes a rest b signature c more p q r =
    let f = first_piece more in
    ap token_of_pieces (p ∙ ap (λ ps. a ∷ ps) q ∙ ap (λ ps. a ∷ b ∷ ps) r ∙ ap (λ ps. a ∷ b ∷ c ∷ ps) f.is)

pub three_are : (bytes a rest b signature : List ℕ) → pieces_of bytes ≡ a ∷ pieces_of rest → pieces_of rest ≡ b ∷ pieces_of signature
    → pieces_of signature ≡ signature ∷ [] → pieces_of bytes ≡ a ∷ b ∷ signature ∷ []
three_are bytes a rest b signature p q r = p ∙ ap (λ ps. a ∷ ps) q ∙ ap (λ ps. a ∷ b ∷ ps) r

pub take-text : (bytes a rest b signature : List ℕ) → bytes ≡ a ++ 46 ∷ rest → rest ≡ b ++ 46 ∷ signature → take (length a + 1 + length b) bytes ≡ a ++ 46 ∷ b
take-text bytes a rest b signature p q =
    let whole : bytes ≡ (a ++ 46 ∷ b) ++ 46 ∷ signature = p ∙ ap (λ s. a ++ 46 ∷ s) q ∙ sym (append_assoc a (46 ∷ b) (46 ∷ signature)) in
    ap (take (length a + 1 + length b)) whole ∙ take_at (a ++ 46 ∷ b) (46 ∷ signature) (length a + 1 + length b) (omega (arith, length-append a (46 ∷ b)))

-- ---- white space at the end

both_false : (x y : Bool) → x ≡ false → (x && y) ≡ false
both_false true y h = cc
both_false false y h = refl

both_true : (x y : Bool) → x ≡ true → y ≡ true → (x && y) ≡ true
both_true true true h k = refl
both_true true false h k = cc
both_true false y h k = cc

all_spaces : (bytes : List ℕ) → ((k : ℕ) → k < length bytes → is_ascii_whitespace (get_or bytes k 0) ≡ true) → list_all is_ascii_whitespace bytes ≡ true
all_spaces [] h = refl
all_spaces (b ∷ bytes) h = both_true (is_ascii_whitespace b) (list_all is_ascii_whitespace bytes) (h 0 (omega arith)) (all_spaces bytes (λ k l. h (suc k) (omega arith)))

not_all_spaces : (bytes : List ℕ) (k : ℕ) → k < length bytes → is_ascii_whitespace (get_or bytes k 0) ≡ false → list_all is_ascii_whitespace bytes ≡ false
not_all_spaces [] k l h = absurd (omega arith)
not_all_spaces (b ∷ bytes) zero l h = both_false (is_ascii_whitespace b) (list_all is_ascii_whitespace bytes) h
not_all_spaces (b ∷ bytes) (suc k) l h = second_false (is_ascii_whitespace b) (list_all is_ascii_whitespace bytes) (not_all_spaces bytes k (omega arith) h)
  where
    second_false : (x y : Bool) → y ≡ false → (x && y) ≡ false
    second_false true y e = e
    second_false false y e = refl

take-trimmed : (bytes : List ℕ) (n : ℕ) → n ≤ length bytes → ((k : ℕ) → n ≤ k → k < length bytes → is_ascii_whitespace (get_or bytes k 0) ≡ true)
    → ((m : ℕ) → n ≡ suc m → is_ascii_whitespace (get_or bytes m 0) ≡ false) → take n bytes ≡ trimmed bytes
unfolding trimmed
take-trimmed [] zero h spaces last = refl
take-trimmed [] (suc n) h spaces last = absurd (omega arith)
take-trimmed (b ∷ bytes) zero h spaces last = rw (all_spaces (b ∷ bytes) (λ k l. spaces k (omega arith) l)) refl
take-trimmed (b ∷ bytes) (suc n) h spaces last =
    let l : n < length (b ∷ bytes) = omega arith in
    let rest : take n bytes ≡ trimmed bytes =
    take-trimmed bytes n (omega arith) (λ k a l. spaces (suc k) (omega arith) (omega arith)) (λ m e. last (suc m) (omega arith)) in
    rw (not_all_spaces (b ∷ bytes) n l (last n refl), ← rest) refl

-- what std trims is the text without the white space at its end
pub trimmed-std : (bytes text : List ℕ) → IsTrimAsciiEnd bytes text → text ≡ trimmed bytes
trimmed-std bytes text is =
    let n = is.0 in
    is.1 ∙ take-trimmed bytes n is.3 is.4
    (λ m e. let same : n - 1 ≡ m = omega arith in
    subst (λ (k : ℕ). is_ascii_whitespace (get_or bytes k 0) ≡ false) same (is.5 (omega arith)))

pub trimmed-spaceless : (bytes : List ℕ) → ((k : ℕ) → k < length bytes → is_ascii_whitespace (get_or bytes k 0) ≡ false) → trimmed bytes ≡ bytes
unfolding trimmed
trimmed-spaceless [] h = refl
trimmed-spaceless (b ∷ bytes) h =
    let first : is_ascii_whitespace b ≡ false = h 0 (omega arith) in
    let rest : trimmed bytes ≡ bytes = trimmed-spaceless bytes (λ k l. h (suc k) (omega arith)) in
    rw (both_false (is_ascii_whitespace b) (list_all is_ascii_whitespace bytes) first, rest) refl
