-- The index of claims as it is built.
use Rattle.std.specs.Prelude.{◌≡◌, ◌↔◌, ◌<◌, ℕ, cond, List, Option, Some, None, bytes_eq}
use Rattle.live_tree.specs.Held.{HeldTree}
use Rattle.clear_tree.specs.Walk.{Sealing}
use Rattle.name_places.specs.Claims.{number_in, IsFirst}

abbrev pub or_number : Option ℕ → ℕ → Option ℕ
or_number None number = Some number
or_number (Some old) number = Some old

-- a folder that had no number has this one, and each other the number that it had
abbrev pub IsPut : List (List ℕ × ℕ) → List (List ℕ × ℕ) → List ℕ → ℕ → Type 0
IsPut old new folder number = (other : List ℕ) → number_in new other ≡ cond (bytes_eq folder other) (or_number (number_in old other) number) (number_in old other)

-- the first node that names a folder is before this number
pub record IsFirstBelow (s : Sealing) (tree : HeldTree) (next : ℕ) (folder : List ℕ) (number : ℕ) : Type 0 where
  pub is : IsFirst s tree folder number
  pub below : number < next

-- the claims of the nodes before this number
abbrev pub AreClaimsBelow : Sealing → HeldTree → ℕ → List (List ℕ × ℕ) → Type 0
AreClaimsBelow s tree next claims = (folder : List ℕ) (number : ℕ) → (number_in claims folder ≡ Some number) ↔ IsFirstBelow s tree next folder number
