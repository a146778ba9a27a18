-- What is flushed before a folder is changed, since an earlier run may have left it off the disk.
use Rattle.std.specs.Prelude.{ℕ, List, [], ◌∷◌, ◌++◌}
use Rattle.std.specs.List.{flat_map}
use Rattle.outside.specs.Disk.{Path, parent}
use Rattle.vault_layout.specs.Names.{folders, journal_file, new_journal_file, masterkey_file, vault_file}

-- in the folder the one of all others, the journal, the file that the first journal is made in and the key files; and the folder
-- itself
abbrev pub first_paths : List Path
first_paths = (folders ∷ []) ∷ (journal_file ∷ []) ∷ (new_journal_file ∷ []) ∷ (masterkey_file ∷ []) ∷ (vault_file ∷ []) ∷ [] ∷ []

-- a path and the folder that it is in
abbrev pub with_folder : Path → List Path
with_folder path = path ∷ parent path ∷ []

-- these paths with their folders, and then the first ones
abbrev pub to_settle : List Path → List Path
to_settle paths = flat_map with_folder paths ++ first_paths
