-- Lists of turns that ended.
use Rattle.std.specs.Prelude.{◌≡◌, ℕ, if◌then◌else◌, ltb, eqb, List, [], ◌∷◌, ◌++◌, length}
use Rattle.turn_lock.specs.declared.history.Ended.{Ended}

module _ {E : Type 0} where
  abbrev pub StartsWith : List (Ended E) → List (Ended E) → Type 0
  StartsWith history seen = (more : List (Ended E)) × (history ≡ seen ++ more)

  -- the turns of the seat with this number
  abbrev pub turns_by : ℕ → List (Ended E) → List (Ended E)
  turns_by n [] = []
  turns_by n (e ∷ es) = if eqb e.by n then (e ∷ turns_by n es) else turns_by n es

  -- the longer of two lists, or the first
  abbrev pub longer : List (Ended E) → List (Ended E) → List (Ended E)
  longer xs ys = if ltb (length xs) (length ys) then ys else xs
