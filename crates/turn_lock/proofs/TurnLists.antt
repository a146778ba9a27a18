-- Lists of turns.
use Rattle.std.proofs.Common.{◌≡◌, ◌≢◌, ℕ, ◌<◌, ◌≤◌, ◌⊎◌, Bool, true, false, ltb, eqb, if◌then◌else◌, List, [], ◌∷◌, ◌++◌, length, sym, refl, ap, ◌∙◌, inl, inr, ⊎_elim, append_assoc, append-nil, arith, length-append, ne_eqb}
use mathlib.Core.Logic.{dite}
use native.Mathlib.Decide.{dec_lt}
use Rattle.std.proofs.lemmas.Bool.Decides.{nat_tests}
use Rattle.turn_lock.specs.declared.history.Ended.{Ended}
use Rattle.turn_lock.specs.Turns.{StartsWith, turns_by, longer}

no_elements : {A : Type 0} (xs : List A) → length xs ≡ 0 → xs ≡ []
no_elements [] e = refl
no_elements (x ∷ xs) e = absurd (omega arith)

module _ {E : Type 0} where
  -- a beginning begins a list with one turn more
  pub starts_more : (log seen : List (Ended E)) (e : Ended E) → StartsWith log seen → StartsWith (log ++ e ∷ []) seen
  starts_more log seen e h = (h.0 ++ e ∷ [], ap (λ (l : List (Ended E)). l ++ e ∷ []) h.1 ∙ append_assoc seen h.0 (e ∷ []))

  -- a beginning is no longer than the list
  pub starts_length : (log seen : List (Ended E)) → StartsWith log seen → length seen ≤ length log
  starts_length log seen h = let e = ap length h.1 in let l = length-append seen h.0 in omega arith

  -- of two beginnings of one list, the shorter begins the longer
  pub shorter_begins_longer : (log a b : List (Ended E)) → StartsWith log a → StartsWith log b → length a ≤ length b → StartsWith b a
  shorter_begins_longer log [] b h k le = (b, refl)
  shorter_begins_longer log (x ∷ a) [] h k le = absurd (omega arith)
  shorter_begins_longer [] (x ∷ a) (y ∷ b) h k le = let e = ap length h.1 in absurd (omega arith)
  shorter_begins_longer (z ∷ log) (x ∷ a) (y ∷ b) h k le =
      let h' : log ≡ a ++ h.0 = cc in
      let k' : log ≡ b ++ k.0 = cc in
      let same : x ≡ y = cc in
      let r = shorter_begins_longer log a b (h.0, h') (k.0, k') (omega arith) in
      (r.0, λ i. sym same i ∷ r.1 i)

  pick_same : (b : Bool) (e : Ended E) (xs ys : List (Ended E)) → xs ≡ ys → (if b then (e ∷ xs) else xs) ≡ (if b then (e ∷ ys) else ys)
  pick_same b e xs ys h = ap (λ (l : List (Ended E)). if b then (e ∷ l) else l) h

  -- a turn of another seat is none of this number
  pub turns_by-append_other : (k : ℕ) (log : List (Ended E)) (e : Ended E) → e.by ≢ k → turns_by k (log ++ e ∷ []) ≡ turns_by k log
  turns_by-append_other k [] e other = ap (λ (b : Bool). if b then (e ∷ []) else []) (ne_eqb e.by k other)
  turns_by-append_other k (x ∷ xs) e other = pick_same (eqb x.by k) x (turns_by k (xs ++ e ∷ [])) (turns_by k xs) (turns_by-append_other k xs e other)

  -- the turns of a number in two lists, one after the other
  pub turns_by-append : (n : ℕ) (a b : List (Ended E)) → turns_by n (a ++ b) ≡ turns_by n a ++ turns_by n b
  turns_by-append n [] b = refl
  turns_by-append n (x ∷ a) b =
      elim (eqb x.by n) as (λ (t : Bool). (if t then (x ∷ turns_by n (a ++ b)) else turns_by n (a ++ b)) ≡ (if t then (x ∷ turns_by n a) else turns_by n a) ++ turns_by n b)
      [ true ↦ ap (λ (l : List (Ended E)). x ∷ l) (turns_by-append n a b) | false ↦ turns_by-append n a b ]

  -- if a list has no turn of a number, its beginnings have none
  pub turns_by-prefix_none : (n : ℕ) (seen more : List (Ended E)) → turns_by n (seen ++ more) ≡ [] → turns_by n seen ≡ []
  turns_by-prefix_none n [] more e = refl
  turns_by-prefix_none n (x ∷ xs) more e =
      elim (eqb x.by n) as (λ (b : Bool). (if b then (x ∷ turns_by n (xs ++ more)) else turns_by n (xs ++ more)) ≡ [] → (if b then (x ∷ turns_by n xs) else turns_by n xs) ≡ [])
      [ true ↦ (λ h. cc) | false ↦ (λ h. turns_by-prefix_none n xs more h) ] e

  -- a list between a beginning and the whole has as many turns of a number as both, if these have the same
  pub turns_by-between : (n : ℕ) (log a b : List (Ended E)) → StartsWith log b → StartsWith b a → turns_by n log ≡ turns_by n a → turns_by n log ≡ turns_by n b
  turns_by-between n log a b h k e =
      let one : turns_by n log ≡ turns_by n b ++ turns_by n h.0 = ap (turns_by n) h.1 ∙ turns_by-append n b h.0 in
      let two : turns_by n b ≡ turns_by n a ++ turns_by n k.0 = ap (turns_by n) k.1 ∙ turns_by-append n a k.0 in
      let l1 = ap length one in
      let l2 = ap length two in
      let l3 = ap length e in
      let l4 = length-append (turns_by n b) (turns_by n h.0) in
      let l5 = length-append (turns_by n a) (turns_by n k.0) in
      let none_more : turns_by n h.0 ≡ [] = no_elements (turns_by n h.0) (omega arith) in
      one ∙ (ap (λ (z : List (Ended E)). turns_by n b ++ z) none_more ∙ append-nil (turns_by n b))

  -- the longer of two lists is the second if that is longer, else the first
  pub longer_cases : (xs ys : List (Ended E)) → ((longer xs ys ≡ ys) × (length xs < length ys)) ⊎ ((longer xs ys ≡ xs) × (length ys ≤ length xs))
  longer_cases xs ys = dite (dec_lt (length xs) (length ys))
      (λ l. let t : ltb (length xs) (length ys) ≡ true = grind (arith, nat_tests) in inl (ap (λ (b : Bool). if b then ys else xs) t, l))
      (λ m. let le : length ys ≤ length xs = omega arith in let t : ltb (length xs) (length ys) ≡ false = grind (arith, nat_tests) in inr (ap (λ (b : Bool). if b then ys else xs) t, le))

  -- the longer of two lists is no shorter than the first
  pub longer_left : (xs ys : List (Ended E)) → length xs ≤ length (longer xs ys)
  longer_left xs ys = ⊎_elim (λ (a : (longer xs ys ≡ ys) × (length xs < length ys)). let e = ap length a.0 in let l = a.1 in omega arith)
      (λ (a : (longer xs ys ≡ xs) × (length ys ≤ length xs)). let e = ap length a.0 in omega arith) (longer_cases xs ys)

  -- the longer of two lists is no shorter than the second
  pub longer_right : (xs ys : List (Ended E)) → length ys ≤ length (longer xs ys)
  longer_right xs ys = ⊎_elim (λ (a : (longer xs ys ≡ ys) × (length xs < length ys)). let e = ap length a.0 in omega arith)
      (λ (a : (longer xs ys ≡ xs) × (length ys ≤ length xs)). let e = ap length a.0 in let l = a.1 in omega arith) (longer_cases xs ys)

  -- turns since, if a number has none more, are others'
  pub turns_by-others : (n : ℕ) (seen more : List (Ended E)) → turns_by n (seen ++ more) ≡ turns_by n seen → turns_by n more ≡ []
  turns_by-others n seen more e =
      let a = ap length (sym (turns_by-append n seen more) ∙ e) in
      let b = length-append (turns_by n seen) (turns_by n more) in
      no_elements (turns_by n more) (omega arith)
