-- A new vault: what a folder holds before and after it was made.
use Rattle.std.specs.Prelude.{◌≡◌, ◌≢◌, ◌⊎◌, ℕ, List, [], ◌∷◌, ◌++◌, Some, None, Ok, Contains, All, false}
use Rattle.std.specs.Ordering.{nat_cmp, is_lt}
use Rattle.std.specs.Cmp.Lexicographic.{slice_cmp}
use Rattle.outside.specs.Calls.{Told, Changes, Extends}
use Rattle.outside.specs.Disk.{Disk, file, node_at, IsFolder, IsTree}
use Rattle.outside.specs.Images.{Log, Synced, now, adds, LeavesOnly, IsSteady}
use Rattle.outside.specs.Views.{FolderView, EntropyView}
use Rattle.vault_layout.specs.Limits.{default_threshold}
use Rattle.vault_layout.specs.Names.{folders}
use Rattle.vault_names.specs.Folder.{folder_of}
use Rattle.masterkey_file.specs.KeyFile.{key_file}
use Rattle.vault_config.specs.Config.{config_file, identifier_of}
use Rattle.unlocking.specs.FromFiles.{masterkey_opened, vault_opened}
use Rattle.unlocking.specs.Files.{masterkey_place, config_place, found_at}
use Rattle.vault_make.specs.Draws.{NewSecrets, AreOfLength, drawn_bytes}

-- a folder without an entry
pub record IsEmpty (disk : Disk) : Type 0 where
  pub tree : IsTree disk
  pub bare : (name : List ℕ) → node_at disk (name ∷ []) ≡ None

-- one of some names, and none of them is less by its bytes
pub record IsLeast (names : List (List ℕ)) (name : List ℕ) : Type 0 where
  pub among : Contains names name
  pub least : All (λ other. is_lt (slice_cmp nat_cmp other name) ≡ false) names

-- the folder of all directories' folders
abbrev pub top_name : List ℕ
top_name = folders

-- A vault of these secrets under a password: the password opens its masterkey file to the keys, the keys open its vault file to the default
-- threshold, and the folder of its root is there and empty, so that its only node is the root. Beside these two files and `d` nothing is there.
pub record IsNewVault (password : List ℕ) (secrets : NewSecrets) (disk : Disk) : Type 0 where
  pub masterkey : node_at disk masterkey_place ≡ Some (file (key_file secrets.keys password secrets.salt))
  pub config : node_at disk config_place ≡ Some (file (config_file secrets.keys default_threshold (identifier_of secrets.jti)))
  pub opens : masterkey_opened password (found_at disk masterkey_place) ≡ Ok secrets.keys
  pub unlocks : vault_opened secrets.keys (found_at disk config_place) ≡ Ok (record { keys = secrets.keys; threshold = default_threshold })
  pub root : IsFolder disk (folder_of secrets.keys [])
  pub bare : (name : List ℕ) → node_at disk (folder_of secrets.keys [] ++ name ∷ []) ≡ None
  pub alone : (name : List ℕ) → name ≢ top_name → name ∷ [] ≢ masterkey_place → name ∷ [] ≢ config_place → node_at disk (name ∷ []) ≡ None

-- ---- what a stop leaves

-- no vault, since there is no vault file
abbrev pub IsNoVault : Disk → Type 0
IsNoVault disk = node_at disk config_place ≡ None

-- no vault, or the whole of a new one
abbrev pub IsNoneOrNew : List ℕ → NewSecrets → Disk → Type 0
IsNoneOrNew password secrets disk = IsNoVault disk ⊎ IsNewVault password secrets disk

-- the first call since was a sync, and at each moment since it each image is no vault, or the whole of this new one
abbrev pub LeavesNoneOrNew : List ℕ → NewSecrets → Log → Log → Type 0
LeavesNoneOrNew password secrets old new = LeavesOnly (adds old Synced) new (IsNoneOrNew password secrets)

-- a vault of secrets that were drawn since was begun in a folder that was empty, and no stop leaves a part of it for a vault
pub record HasBegun (password : List ℕ) (folder folder' : FolderView) (entropy entropy' : EntropyView) : Type 0 where
  pub secrets : NewSecrets
  pub lengths : AreOfLength secrets
  pub drawn : Extends entropy.drawn entropy'.drawn (drawn_bytes secrets)
  pub empty : Told folder.log (λ log. IsEmpty (now log))
  pub stops : Changes folder.log folder'.log (LeavesNoneOrNew password secrets)

-- ---- after it was made

-- the folder was empty, and holds a vault of secrets that were drawn since, all of it on the disk; no stop amid it left a part of it for a vault
pub record HasMade (password : List ℕ) (folder folder' : FolderView) (entropy entropy' : EntropyView) : Type 0 where
  pub secrets : NewSecrets
  pub lengths : AreOfLength secrets
  pub drawn : Extends entropy.drawn entropy'.drawn (drawn_bytes secrets)
  pub vault : Changes folder.log folder'.log (λ old new. IsEmpty (now old) × IsNewVault password secrets (now new) × IsSteady new)
  pub stops : Changes folder.log folder'.log (LeavesNoneOrNew password secrets)
