-- The key files in a vault's folder (Cryptomator's vault format 8).
use Rattle.std.specs.Prelude.{[], ◌∷◌, Option, Some, None}
use Rattle.vault_layout.specs.Names.{masterkey_file, new_vault_file, vault_file}
use Rattle.outside.specs.Disk.{Disk, Path, Node, folder as folder_node, file as file_node, node_at}
use Rattle.unlocking.specs.FromFiles.{FoundFile, absent, folder, file}

abbrev pub masterkey_place : Path
masterkey_place = masterkey_file ∷ []

abbrev pub config_place : Path
config_place = vault_file ∷ []

-- where a new vault file is written before it takes its place
abbrev pub new_config_place : Path
new_config_place = new_vault_file ∷ []

-- a node as a key file that is found
abbrev pub found_in : Option Node → FoundFile
found_in None = absent
found_in (Some folder_node) = folder
found_in (Some (file_node bytes)) = file bytes

-- the key file that a disk has at a path
abbrev pub found_at : Disk → Path → FoundFile
found_at disk path = found_in (node_at disk path)
