-- The first line of bytes that are read one by one.
use Rattle.std.proofs.Common.{◌≡◌, ℕ, suc, not, ◌==◌, ◌+◌, ◌<◌, false, eqb, List, [], ◌∷◌, ◌++◌, length, take, set, Option, Some, None, sym, ap, subst, ◌∙◌, append_assoc, length-append, length-take, ◌≤◌, inl, inr, arith}
use Rattle.std.specs.List.{prefix_len}
use Rattle.std.proofs.lemmas.List.{append-nil, take_more_set}
use Rattle.outside.specs.Calls.{Changes}
use Rattle.masterkey_file.specs.Password.{line_of}
use Rattle.unlocking.specs.Secret.{TakesAtMost}
use Rattle.unlocking.specs.Reading.{HasLine, HasNext}
use Rattle.outside.proofs.Told.{changed_by}

abbrev Contents : Type 0
Contents = Option (List ℕ)

changes_to : {X : Type 0} (P : X → X → Type 0) (a b c : Option X) → c ≡ b → Changes a b P → Changes a c P
changes_to P a b c e h = subst (λ o. Changes a o P) (sym e) h

-- this was taken from the front of the line
abbrev pub HasFront : List ℕ → List ℕ → List ℕ → Type 0
HasFront front bytes left = (bytes ≡ front ++ left) × (line_of bytes ≡ front ++ line_of left)

line_of-other : (b : ℕ) (bytes : List ℕ) → eqb b 10 ≡ false → line_of (b ∷ bytes) ≡ b ∷ line_of bytes
line_of-other b bytes h =
    let n = prefix_len (λ x. not (x == 10)) bytes in
    let more : 1 + n ≡ suc n = omega arith in
    rw h (ap (λ (k : ℕ). take k (b ∷ bytes)) more)

front_then : (front bytes left rest : List ℕ) (b : ℕ) → eqb b 10 ≡ false → HasFront front bytes left → left ≡ b ∷ rest → HasFront (front ++ b ∷ []) bytes rest
front_then front bytes left rest b other h e = (
  h.0 ∙ ap (λ (w : List ℕ). front ++ w) e ∙ sym (append_assoc front (b ∷ []) rest),
  h.1 ∙ ap (λ (w : List ℕ). front ++ line_of w) e ∙ ap (λ (w : List ℕ). front ++ w) (line_of-other b rest other)
      ∙ sym (append_assoc front (b ∷ []) (line_of rest)),
)

pub front_more : (a b c : Contents) (front : List ℕ) (byte : ℕ) → eqb byte 10 ≡ false → Changes a b (HasFront front) → Changes b c (HasNext (Some byte))
    → Changes a c (HasFront (front ++ byte ∷ []))
front_more None None None front byte other h k = tt
front_more None None (Some n) front byte other h k = absurd k
front_more None (Some m) c front byte other h k = absurd h
front_more (Some o) None c front byte other h k = absurd h
front_more (Some o) (Some m) None front byte other h k = absurd k
front_more (Some o) (Some m) (Some n) front byte other h k = front_then front o m n byte other h k

-- one byte more, if it was put after those that were taken
pub front_put : (a b c : Contents) (count byte : ℕ) (line : List ℕ) → count < length line → eqb byte 10 ≡ false → Changes a b (HasFront (take count line))
    → Changes b c (HasNext (Some byte)) → Changes a c (HasFront (take (count + 1) (set line count byte)))
front_put a b c count byte line room other h k =
    subst (λ (front : List ℕ). Changes a c (HasFront front)) (sym (take_more_set line count byte room)) (front_more a b c (take count line) byte other h k)

-- ---- how much was taken if no line was read

-- the front, and a byte that had no room after it
pub begun_more : (a b c : Contents) (count byte : ℕ) (line : List ℕ) → count ≤ length line → Changes a b (HasFront (take count line)) → Changes b c (HasNext (Some byte))
    → Changes a c (TakesAtMost (length line + 1))
begun_more None None None count byte line few h k = tt
begun_more None None (Some n) count byte line few h k = absurd k
begun_more None (Some m) c count byte line few h k = absurd h
begun_more (Some o) None c count byte line few h k = absurd h
begun_more (Some o) (Some m) None count byte line few h k = absurd k
begun_more (Some o) (Some m) (Some n) count byte line few h k =
    let front = take count line in (
      front ++ byte ∷ [],
      h.0 ∙ ap (λ (w : List ℕ). front ++ w) k ∙ sym (append_assoc front (byte ∷ []) n),
      omega (arith, few, length-append front (byte ∷ []), length-take count line),
    )

-- the front alone
pub begun_same : (a b c : Contents) (count : ℕ) (line : List ℕ) → count ≤ length line → Changes a b (HasFront (take count line)) → c ≡ b
    → Changes a c (TakesAtMost (length line + 1))
begun_same a b c count line few h e =
    changes_to (TakesAtMost (length line + 1)) a b c e
    (changed_by a b (HasFront (take count line)) (TakesAtMost (length line + 1)) (λ old new front. (take count line, front.0, omega (arith, few, length-take count line))) h)

-- a line that was read
taken_line : (room : ℕ) (line bytes left : List ℕ) → length line ≤ room → HasLine line bytes left → TakesAtMost (room + 1) bytes left
taken_line room line bytes left few (is, inl after) =
    (line_of bytes ++ 10 ∷ [], after ∙ sym (append_assoc (line_of bytes) (10 ∷ []) left), omega (arith, few, ap length is, length-append (line_of bytes) (10 ∷ [])))
taken_line room line bytes left few (is, inr after) =
    (line_of bytes, after.0 ∙ sym (append-nil (line_of bytes)) ∙ ap (λ (w : List ℕ). line_of bytes ++ w) (sym after.1), omega (arith, few, ap length is))

pub begun_line : (a b : Contents) (room : ℕ) (line : List ℕ) → length line ≤ room → Changes a b (HasLine line) → Changes a b (TakesAtMost (room + 1))
begun_line a b room line few h = changed_by a b (HasLine line) (TakesAtMost (room + 1)) (λ old new. taken_line room line old new few) h
