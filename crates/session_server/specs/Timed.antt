-- At which seconds requests were made.
use Rattle.std.specs.Prelude.{◌≡◌, ◌⊎◌, ℕ, List, [], ◌∷◌, map, Option, ⊤}
use Rattle.outside.specs.Calls.{TakesNext}
use Rattle.tree_model.specs.Asked.{Asked}

-- these stand among those, in the same order, each at a place of its own
abbrev pub AreAmong : List ℕ → List ℕ → Type 0
AreAmong [] ys = ⊤
AreAmong (x ∷ xs) [] = ⊥
AreAmong (x ∷ xs) (y ∷ ys) = ((x ≡ y) × AreAmong xs ys) ⊎ AreAmong (x ∷ xs) ys

-- A clock gave these seconds, and each request was made at one of them, in their order: a second is given once for each message, and a message
-- is for one request or none.
pub record IsTimed (clock clock' : Option (ℕ → ℕ)) (asked : List Asked) : Type 0 where
  pub seconds : List ℕ
  pub clock_gave : TakesNext clock clock' seconds
  pub made_at : AreAmong (map (λ a. a.second) asked) seconds
