-- The first entry of a folder.
use Rattle.std.specs.Prelude.{ℕ, List, [], Option, Some, None}
use Rattle.outside.specs.Disk.{Disk, IsListing}
use Rattle.vault_make.specs.Vault.{IsEmpty, IsLeast}

-- the least name of a folder
abbrev pub IsFirstEntry : Disk → List ℕ → Type 0
IsFirstEntry disk name = (names : List (List ℕ)) × IsListing disk [] names × IsLeast names name

-- the folder is empty, or this is its first entry
abbrev pub IsFirstIn : Disk → Option (List ℕ) → Type 0
IsFirstIn disk None = IsEmpty disk
IsFirstIn disk (Some name) = IsFirstEntry disk name
