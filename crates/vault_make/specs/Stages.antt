-- A vault's folder while a vault is written into it.
use Rattle.std.specs.Prelude.{◌≡◌, ◌≢◌, ◌⊎◌, ℕ, List, [], ◌∷◌, ◌++◌, Some, None}
use Rattle.outside.specs.Disk.{Disk, Path, file, node_at, IsFolder}
use Rattle.outside.specs.Changes.{Change}
use Rattle.outside.specs.Images.{Log, Synced, now, adds, IsImage, LeavesOnly, HasDone, HasBroken, IsSteady}
use Rattle.unlocking.specs.Files.{masterkey_place, config_place, new_config_place}
use Rattle.vault_make.specs.Vault.{top_name, IsNoVault}

-- a folder of a directory: three parts, of which the first is `d`
abbrev pub IsRootPath : Path → Type 0
IsRootPath root = (a : List ℕ) × (b : List ℕ) × (root ≡ top_name ∷ a ∷ b ∷ [])

-- the root's folder is there and empty
pub record HasBareRoot (place : Path) (disk : Disk) : Type 0 where
  pub path : IsRootPath place
  pub top : IsFolder disk []
  pub there : IsFolder disk place
  pub bare : (name : List ℕ) → node_at disk (place ++ name ∷ []) ≡ None

-- and nothing is beside it
pub record HasRoot (place : Path) (disk : Disk) : Type 0 where
  pub root : HasBareRoot place disk
  pub free : (name : List ℕ) → name ≢ top_name → node_at disk (name ∷ []) ≡ None

-- besides, the key files are there, the vault file beside its place, and nothing else
pub record HasKeyFiles (place : Path) (masterkey_bytes config_bytes : List ℕ) (disk : Disk) : Type 0 where
  pub root : HasBareRoot place disk
  pub masterkey : node_at disk masterkey_place ≡ Some (file masterkey_bytes)
  pub config : node_at disk new_config_place ≡ Some (file config_bytes)
  pub free : node_at disk config_place ≡ None
  pub alone : (name : List ℕ) → name ≢ top_name → name ∷ [] ≢ masterkey_place → name ∷ [] ≢ new_config_place → node_at disk (name ∷ []) ≡ None

-- besides, the vault file is at its place
pub record IsLaidOut (place : Path) (masterkey_bytes config_bytes : List ℕ) (disk : Disk) : Type 0 where
  pub root : HasBareRoot place disk
  pub masterkey : node_at disk masterkey_place ≡ Some (file masterkey_bytes)
  pub config : node_at disk config_place ≡ Some (file config_bytes)
  pub alone : (name : List ℕ) → name ≢ top_name → name ∷ [] ≢ masterkey_place → name ∷ [] ≢ config_place → node_at disk (name ∷ []) ≡ None

-- ---- what a stop leaves

-- a change was called for: it was done, or failed on the way, or wasn't begun
abbrev pub HasCalled : Change → Log → Log → Type 0
HasCalled change old new = HasDone change old new ⊎ HasBroken change old new

-- all is on the disk since a sync, which changed nothing
pub record HasSynced (old new : Log) : Type 0 where
  pub same : now new ≡ now old
  pub steady : IsSteady new
  pub call : new ≡ adds old Synced

-- if no image was a vault, P of each image at each moment since
abbrev pub LeavesFromNone : (Disk → Type 0) → Log → Log → Type 0
LeavesFromNone P old new = ((image : Disk) → IsImage old image → IsNoVault image) → LeavesOnly old new P

-- no vault, or all of one
abbrev pub IsNoneOrLaidOut : Path → List ℕ → List ℕ → Disk → Type 0
IsNoneOrLaidOut place masterkey_bytes config_bytes disk = IsNoVault disk ⊎ IsLaidOut place masterkey_bytes config_bytes disk
