-- The seconds that a clock gave, in one call after another.
use Rattle.std.proofs.Common.{◌≡◌, ℕ, zero, suc, List, [], ◌∷◌, ◌++◌, Option, Some, None, refl, sym, ◌∙◌}
use Rattle.outside.specs.Calls.{followed_by, TakesNext}

-- a sequence after these and then those
followed_by-append : (xs ys : List ℕ) (rest : ℕ → ℕ) (k : ℕ) → followed_by (xs ++ ys) rest k ≡ followed_by xs (followed_by ys rest) k
followed_by-append [] ys rest k = refl
followed_by-append (x ∷ xs) ys rest zero = refl
followed_by-append (x ∷ xs) ys rest (suc k) = followed_by-append xs ys rest k

-- two that agree, after the same
followed_by-same : (xs : List ℕ) (one other : ℕ → ℕ) → ((k : ℕ) → one k ≡ other k) → (k : ℕ) → followed_by xs one k ≡ followed_by xs other k
followed_by-same [] one other same k = same k
followed_by-same (x ∷ xs) one other same zero = refl
followed_by-same (x ∷ xs) one other same (suc k) = followed_by-same xs one other same k

pub gives_none : (clock : Option (ℕ → ℕ)) → TakesNext clock clock []
gives_none None = tt
gives_none (Some seconds) = λ k. refl

pub gives_more : (a b c : Option (ℕ → ℕ)) (x y : List ℕ) → TakesNext a b x → TakesNext b c y → TakesNext a c (x ++ y)
gives_more None None None x y h g = tt
gives_more None None (Some n) x y h g = absurd g
gives_more None (Some m) c x y h g = absurd h
gives_more (Some o) None c x y h g = absurd h
gives_more (Some o) (Some m) None x y h g = absurd g
gives_more (Some o) (Some m) (Some n) x y h g = λ k. h k ∙ (followed_by-same x m (followed_by y n) g k ∙ sym (followed_by-append x y n k))
