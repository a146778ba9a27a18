-- Arrays that are made of what a closure or a function answers at each index or element.
use Rattle.std.proofs.Common.{◌≡◌, ℕ, zero, suc, ◌+◌, ◌<◌, ◌≤◌, List, [], ◌∷◌, length, get_or, map, refl, sym, ap, ap₂, subst, ◌∙◌, arith, inl, inr}
use Rattle.std.specs.List.{range_with_len}
use Rattle.std.specs.Array.{IsFromFnResult, IsFromFnResultFrom}
use Rattle.std.specs.Fn.{Called}
use Rattle.std.proofs.lemmas.Bool.{cases_eq}
use Rattle.std.proofs.lemmas.List.FromFn.{fill_by_all}
use denote.Param.Members.{Mut}

module _ {F : Type 0} (g : Mut F (ℕ × Unit {0}) ℕ) (v : ℕ → ℕ) (f : F) (m : ℕ) (gives : (i y : ℕ) (q : F) → i < m → Called g f (i, tt) y q → (y ≡ v i) × (q ≡ f)) where
  from_fn-each : (ys : List ℕ) (i n k : ℕ) → IsFromFnResultFrom g f ys i n → i ≤ k → k < i + n → i + n ≤ m → get_or ys k 0 ≡ v k
  from_fn-each ys i zero k h low high within = absurd (omega arith)
  from_fn-each ys i (suc n) k h low high within =
      let given = gives i h.1 h.0 (omega arith) h.3 in
      elim (cases_eq k i) [
        | inl e ↦ ap (λ j. get_or ys j 0) e ∙ h.2.1 0 ∙ given.0 ∙ ap v (sym e)
        | inr e ↦ from_fn-each ys (i + 1) n k (subst (λ (p : F). IsFromFnResultFrom g p ys (i + 1) n) given.1 h.4) (omega arith) (omega arith) (omega arith)
      ]

-- a closure that answers v i at i, and stays the same
pub from_fn-is : {F : Type 0} {g : Mut F (ℕ × Unit {0}) ℕ} {f : F} {ys : List ℕ} {m : ℕ} (v : ℕ → ℕ) → IsFromFnResult g f ys m
    → ((i y : ℕ) (q : F) → i < m → Called g f (i, tt) y q → (y ≡ v i) × (q ≡ f)) → ys ≡ map v (range_with_len 0 m)
from_fn-is {F} {g} {f} {ys} {m} v h gives =
    fill_by_all v ys m 0 h.long (λ k below. from_fn-each g v f m gives ys 0 m k h.each (omega arith) (omega arith) (omega arith))

-- a function that answers v x at x
pub map-is : (v : ℕ → ℕ) (xs ys : List ℕ) (n : ℕ) → length xs ≡ n → length ys ≡ n → ((i : ℕ) → i < n → get_or ys i 0 ≡ v (get_or xs i 0)) → ys ≡ map v xs
map-is v [] [] n long long' each = refl
map-is v [] (y ∷ ys) n long long' each = absurd (omega arith)
map-is v (x ∷ xs) [] n long long' each = absurd (omega arith)
map-is v (x ∷ xs) (y ∷ ys) n long long' each =
    ap₂ (λ (a : ℕ) (s : List ℕ). a ∷ s) (each 0 (omega arith)) (map-is v xs ys (length xs) refl (omega arith) (λ i h. each (suc i) (omega arith)))
