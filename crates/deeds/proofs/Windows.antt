-- Bytes that pass a window.
use Rattle.std.proofs.Common.{◌≡◌, ⊎_elim, ℕ, zero, suc, ◌+◌, ◌-◌, ◌≤◌, ◌<◌, min, List, [], ◌∷◌, ◌++◌, length, take, drop, drop-cons, add-one, Some, refl, sym, ap, subst, ◌∙◌, append_assoc, arith, length-append, length-drop}
use Rattle.std.proofs.lemmas.Bool.{cases_lt}
use Rattle.std.proofs.lemmas.List.{take_all, drop_all, append-nil}
use Rattle.deeds.specs.declared.window.Window.{Window}
use Rattle.std.specs.Prelude.{slice_get}
use Rattle.std.proofs.lemmas.Option.{slice_get_within, get_or_from_slice_get}
use Rattle.deeds.specs.Grammar.{spelled_all}
use Rattle.deeds.specs.Writing.{IsWindow, Passes}

less : (n m : ℕ) → suc n - suc m ≡ n - m
less n m = omega arith

pub drop_joined : (n : ℕ) (xs ys : List ℕ) → drop n (xs ++ ys) ≡ drop n xs ++ drop (n - length xs) ys
drop_joined zero [] ys = refl
drop_joined zero (x ∷ xs) ys = let e : 0 - length (x ∷ xs) ≡ 0 = omega arith in ap (λ (k : ℕ). (x ∷ xs) ++ drop k ys) (sym e)
drop_joined (suc n) [] ys = let e : suc n - 0 ≡ suc n = omega arith in ap (λ (k : ℕ). drop k ys) (sym e)
drop_joined (suc n) (x ∷ xs) ys = drop_joined n xs ys ∙ ap (λ (k : ℕ). drop n xs ++ drop k ys) (sym (less n (length xs)))

pub take_joined : (n : ℕ) (xs ys : List ℕ) → take n (xs ++ ys) ≡ take n xs ++ take (n - length xs) ys
take_joined zero [] ys = refl
take_joined zero (x ∷ xs) ys = let e : 0 - length (x ∷ xs) ≡ 0 = omega arith in ap (λ (k : ℕ). take k ys) (sym e)
take_joined (suc n) [] ys = let e : suc n - 0 ≡ suc n = omega arith in ap (λ (k : ℕ). take k ys) (sym e)
take_joined (suc n) (x ∷ xs) ys = ap (λ (l : List ℕ). x ∷ l) (take_joined n xs ys ∙ ap (λ (k : ℕ). take n xs ++ take k ys) (sym (less n (length xs))))

take_nothing : (k : ℕ) → take {A = ℕ} k [] ≡ []
take_nothing zero = refl
take_nothing (suc k) = refl

-- what is passed: skipped bytes, then as many as have room
module _ (out after bytes : List ℕ) (skip used skipped n : ℕ)
    (skipped_is : skipped ≡ min skip (length bytes)) (n_is : n ≡ min (length bytes - skipped) (length out - used)) (used_fits : used ≤ length out)
    (room : length after ≡ length out) (front : take (used + n) after ≡ take used out ++ take n (drop skipped bytes)) where
  piece : (from : ℕ) (text : List ℕ) → skip ≡ from - length text → used ≡ min (length out) (length text - from)
      → take n (drop skipped bytes) ≡ take (length out - length (drop from text)) (drop (from - length text) bytes)
  piece from text skip_is used_is = ⊎_elim
      (λ (past : length bytes < skip).
      let none : n ≡ 0 = omega arith in
      let left : drop (from - length text) bytes ≡ [] = drop_all (from - length text) bytes (omega arith) in
      ap (λ (k : ℕ). take k (drop skipped bytes)) none ∙ sym (ap (take (length out - length (drop from text))) left ∙ take_nothing (length out - length (drop from text))))
      (λ (within : skip ≤ length bytes).
      let same : skipped ≡ from - length text = omega arith in
      let rest = drop (from - length text) bytes in
      let long : length rest ≡ length bytes - (from - length text) = length-drop (from - length text) bytes in
      ap (λ (k : ℕ). take n (drop k bytes)) same ∙
      ⊎_elim
      (λ (shorter : length bytes - skipped < length out - used).
      take_all n rest (omega (arith, long)) ∙ sym (take_all (length out - length (drop from text)) rest (omega (arith, long, length-drop from text))))
      (λ (full : length out - used ≤ length bytes - skipped).
      let e : n ≡ length out - length (drop from text) = omega (arith, length-drop from text) in ap (λ (k : ℕ). take k rest) e)
      (cases_lt (length bytes - skipped) (length out - used)))
      (cases_lt (length bytes) skip)

  pub passes : Passes bytes (record { skip = skip; used = used }) (record { skip = skip - skipped; used = used + n }) out after
  passes = record {
    room = room;
    passed = λ from text w. record {
      skip = omega (arith, w.skip, length-append text bytes);
      used = omega (arith, w.skip, w.used, room, length-append text bytes);
      filled = front ∙ ap (λ (l : List ℕ). l ++ take n (drop skipped bytes)) w.filled ∙ ap (λ (l : List ℕ). take (length out) (drop from text) ++ l) (piece from text w.skip w.used)
          ∙ sym (take_joined (length out) (drop from text) (drop (from - length text) bytes)) ∙ sym (ap (take (length out)) (drop_joined from text bytes)) ∙ ap (λ (k : ℕ). take k (drop from (text ++ bytes))) (sym room);
    };
  }

-- ---- items one after the other

pub get_drop : {A : Type 0} (xs : List A) (i : ℕ) (x : A) → slice_get xs i ≡ Some x → drop i xs ≡ x ∷ drop (i + 1) xs
get_drop xs i x e =
    let lt : i < length xs = slice_get_within xs i x e in
    drop-cons xs i x lt ∙ (λ k. get_or_from_slice_get xs i x x e k ∷ drop (sym (add-one i) k) xs)

pub take_next : {A : Type 0} (i : ℕ) (xs : List A) (x : A) (rest : List A) → drop i xs ≡ x ∷ rest → take (suc i) xs ≡ take i xs ++ x ∷ []
take_next zero xs x rest e = ap (take 1) e
take_next (suc i) [] x rest e = absurd cc
take_next (suc i) (y ∷ xs) x rest e = ap (λ (l : List _). y ∷ l) (take_next i xs x rest e)

pub spelled_end : {A : Type 0} (spell : A → List ℕ) (xs : List A) (x : A) → spelled_all spell (xs ++ x ∷ []) ≡ spelled_all spell xs ++ spell x
spelled_end spell [] x = append-nil (spell x)
spelled_end spell (y ∷ xs) x = ap (λ (l : List ℕ). spell y ++ l) (spelled_end spell xs x) ∙ sym (append_assoc (spell y) (spelled_all spell xs) (spell x))

-- one item more
pub spelled_more : {A : Type 0} (spell : A → List ℕ) (xs : List A) (i : ℕ) (x : A) → drop i xs ≡ x ∷ drop (i + 1) xs → spelled_all spell (take (i + 1) xs) ≡ spelled_all spell (take i xs) ++ spell x
spelled_more spell xs i x e = ap (λ (k : ℕ). spelled_all spell (take k xs)) (add-one i) ∙ ap (spelled_all spell) (take_next i xs x (drop (i + 1) xs) e) ∙ spelled_end spell (take i xs) x

-- nothing more
pub passes_none : (w : Window) (out : List ℕ) → Passes [] w w out out
passes_none w out = record { room = refl; passed = λ from text is. subst (λ (l : List ℕ). IsWindow from l w out) (sym (append-nil text)) is }

-- before anything was passed
pub window_begun : (from : ℕ) (out : List ℕ) → IsWindow from [] (record { skip = from; used = 0 }) out
window_begun from out = record { skip = omega arith; used = omega arith; filled = sym (ap (take (length out)) (drop_all from [] (omega arith)) ∙ take_nothing (length out)) }

-- one after the other
pub passes_then : (x y : List ℕ) (a b c : Window) (p q r : List ℕ) → Passes x a b p q → Passes y b c q r → Passes (x ++ y) a c p r
passes_then x y a b c p q r first second = record {
  room = second.room ∙ first.room;
  passed = λ from text w. subst (λ (l : List ℕ). IsWindow from l c r) (append_assoc text x y) (second.passed from (text ++ x) (first.passed from text w));
}
