-- The first line of a secret, and its password.
use Rattle.std.proofs.Common.{◌≡◌, ℕ, zero, suc, ◌==◌, ◌<◌, ◌&&◌, Bool, true, false, cond, nat_lt, nat_le, List, [], ◌∷◌, ◌++◌, length, take, Some, None, inl, inr, refl, sym, ap, ◌∙◌, arith, one-add}
use Rattle.std.proofs.lemmas.List.{take_all, length-take-le}
use Rattle.std.proofs.lemmas.Bool.{cases_lt, false_from_ne_true, lt-leb, ltb-false}
use Rattle.std.proofs.lemmas.Str.{is_utf8-from_IsUtf8, IsUtf8-from_is_utf8}
use Rattle.std.specs.List.{position, position_or_len, before_first}
use Rattle.std.specs.Str.{IsUtf8, is_utf8}
use Rattle.nfc_text.specs.Nfc.{nfc_of}
use Rattle.masterkey_file.specs.Password.{line_of, password_in, password_of}

-- ---- the line

-- the index that a test gives is the one it was made for
index_given : (b : Bool) (k n : ℕ) → Some n ≡ cond b (Some k) None → n ≡ k
index_given true k n h = cc
index_given false k n h = cc

-- a test that gives no index fails
test_fails : (b : Bool) (k : ℕ) → None ≡ cond b (Some k) None → b ≡ false
test_fails true k h = cc
test_fails false k h = refl

pub before_first-at : (p : ℕ → Bool) (bytes : List ℕ) (n : ℕ) → Some n ≡ position p bytes → take n bytes ≡ before_first p bytes
before_first-at p bytes n h =
    ap (λ (k : ℕ). take k bytes) (index_given (nat_lt (position_or_len p bytes) (length bytes)) (position_or_len p bytes) n h)

pub before_first-none : (p : ℕ → Bool) (bytes : List ℕ) → None ≡ position p bytes → bytes ≡ before_first p bytes
before_first-none p bytes h =
    let long = ltb-false (position_or_len p bytes) (length bytes) (test_fails (nat_lt (position_or_len p bytes) (length bytes)) (position_or_len p bytes) h) in
    sym (take_all (position_or_len p bytes) bytes long)

-- nothing is before a first byte that passes
before_first-passes : (p : ℕ → Bool) (b : ℕ) (bytes : List ℕ) → p b ≡ true → before_first p (b ∷ bytes) ≡ []
before_first-passes p b bytes e = rw e refl

-- a first byte that doesn't pass is among those before
before_first-fails : (p : ℕ → Bool) (b : ℕ) (bytes : List ℕ) → p b ≡ false → before_first p (b ∷ bytes) ≡ b ∷ before_first p bytes
before_first-fails p b bytes e = rw (e, one-add) refl

take_step : (t : Bool) (p : ℕ → Bool) (n b : ℕ) (bytes : List ℕ) → p b ≡ t → before_first p (take n bytes) ≡ take n (before_first p bytes)
    → before_first p (b ∷ take n bytes) ≡ take (suc n) (before_first p (b ∷ bytes))
take_step true p n b bytes e rest = before_first-passes p b (take n bytes) e ∙ ap (take (suc n)) (sym (before_first-passes p b bytes e))
take_step false p n b bytes e rest = before_first-fails p b (take n bytes) e ∙ ap (λ s. b ∷ s) rest ∙ ap (take (suc n)) (sym (before_first-fails p b bytes e))

-- what is before the first element that passes, of a part from the front
before_first-take : (p : ℕ → Bool) (n : ℕ) (bytes : List ℕ) → before_first p (take n bytes) ≡ take n (before_first p bytes)
before_first-take p zero bytes = refl
before_first-take p (suc n) [] = refl
before_first-take p (suc n) (b ∷ bytes) = take_step (p b) p n b bytes refl (before_first-take p n bytes)

behind_step : (t : Bool) (p : ℕ → Bool) (b : ℕ) (line rest : List ℕ) → p b ≡ t → before_first p (line ++ rest) ≡ before_first p line
    → before_first p (b ∷ line ++ rest) ≡ before_first p (b ∷ line)
behind_step true p b line rest e same = before_first-passes p b (line ++ rest) e ∙ sym (before_first-passes p b line e)
behind_step false p b line rest e same = before_first-fails p b (line ++ rest) e ∙ ap (λ s. b ∷ s) same ∙ sym (before_first-fails p b line e)

-- what follows an LF is no part of the line
line_of-behind : (line rest : List ℕ) → line_of (line ++ 10 ∷ rest) ≡ line_of line
line_of-behind [] rest = refl
line_of-behind (b ∷ line) rest = behind_step (b == 10) (λ c. c == 10) b line (10 ∷ rest) refl (line_of-behind line rest)

-- ---- the password

password_of-line : (secret line : List ℕ) → line ≡ line_of secret → password_of secret ≡ password_in line
unfolding password_of
password_of-line secret line is = ap password_in (sym is)

pub password_of-other_length : (secret line : List ℕ) → line ≡ line_of secret → (nat_lt 0 (length line) && nat_le (length line) 1024) ≡ false
    → password_of secret ≡ None
password_of-other_length secret line is other = password_of-line secret line is ∙ rw other refl

-- no password if the second of two tests fails
none_where_second_fails : (b : Bool) (form : List ℕ) → cond (b && false) (Some form) None ≡ None
none_where_second_fails true form = refl
none_where_second_fails false form = refl

pub password_of-not_utf8 : (secret line : List ℕ) → line ≡ line_of secret → (IsUtf8 line → ⊥) → password_of secret ≡ None
password_of-not_utf8 secret line is not =
    let no : is_utf8 line ≡ false = false_from_ne_true _ (λ h. not (IsUtf8-from_is_utf8 line h)) in
    password_of-line secret line is ∙ rw no (none_where_second_fails (nat_lt 0 (length line) && nat_le (length line) 1024) (nfc_of line))

pub password_of-text : (secret line text form : List ℕ) → line ≡ line_of secret → (nat_lt 0 (length line) && nat_le (length line) 1024) ≡ true → IsUtf8 line
    → text ≡ line → form ≡ nfc_of text → password_of secret ≡ Some form
password_of-text secret line text form is good utf8 same normal =
    password_of-line secret line is ∙ rw (good, is_utf8-from_IsUtf8 line utf8) (ap Some (sym (normal ∙ ap nfc_of same)))

-- a line of more than 1,024 bytes has no password
password_in-long : (line : List ℕ) → 1024 < length line → password_in line ≡ None
password_in-long line long =
    let above : nat_le (length line) 1024 ≡ false = lt-leb (length line) 1024 long in
    rw above (none_where_middle_fails (nat_lt 0 (length line)) (is_utf8 line) (nfc_of line))
  where
    none_where_middle_fails : (a b : Bool) (form : List ℕ) → cond (a && false && b) (Some form) None ≡ None
    none_where_middle_fails true true form = refl
    none_where_middle_fails true false form = refl
    none_where_middle_fails false b form = refl

-- a password depends on nothing after the first LF
pub password_of-behind : (line rest : List ℕ) → password_of (line ++ 10 ∷ rest) ≡ password_of line
unfolding password_of
password_of-behind line rest = ap password_in (line_of-behind line rest)

-- a password depends on no more than the first 1,025 bytes
pub password_of-front : (secret : List ℕ) → password_of (take 1025 secret) ≡ password_of secret
unfolding password_of
password_of-front secret =
    let front : line_of (take 1025 secret) ≡ take 1025 (line_of secret) = before_first-take (λ b. b == 10) 1025 secret in
    elim (cases_lt 1025 (length (line_of secret))) [
      | inl long ↦
          let cut : length (take 1025 (line_of secret)) ≡ 1025 = length-take-le 1025 (line_of secret) (omega arith) in
          ap password_in front ∙ password_in-long (take 1025 (line_of secret)) (omega arith) ∙ sym (password_in-long (line_of secret) (omega arith))
      | inr short ↦ ap password_in (front ∙ take_all 1025 (line_of secret) short)
    ]
