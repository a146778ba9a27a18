-- Paths of texts.
use Rattle.std.specs.Prelude.{◌≡◌, ◌∷◌, ℕ, List, IsTrue}
use Rattle.std.specs.List.{flat_map}
use Rattle.vault_path.specs.Parts.{is_path}
use Rattle.outside.specs.Disk.{Path}
use Rattle.host_calls.specs.Calls.{IsTextOf}

-- the path that a text names
pub record IsOnlyTextOf (top text : List ℕ) (path : Path) : Type 0 where
  pub is : IsTextOf top text path
  pub only : (other : Path) → IsTextOf top text other → other ≡ path

-- a path whose parts are these bytes, each after a slash
pub record IsPathOf (bytes : List ℕ) (path : Path) : Type 0 where
  pub good : IsTrue (is_path path)
  pub is : bytes ≡ flat_map (λ part. 47 ∷ part) path
