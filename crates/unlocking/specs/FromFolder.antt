-- What a secret and a vault's folder unlock, or the first cause against it.
use Rattle.std.specs.Prelude.{◌≡◌, ℕ, List, Option, Result}
use Rattle.std.specs.Option.{option_map, ok_or}
use Rattle.outside.specs.Calls.{Told}
use Rattle.outside.specs.Disk.{Disk}
use Rattle.vault_keys.specs.Keys.{KeyPair}
use Rattle.masterkey_file.specs.Password.{line_of}
use Rattle.json_members.specs.Steps.{result_and_then}
use Rattle.unlocking.specs.FromFiles.{FoundFile, UnlockedVault, Cause, bad_secret, masterkey_opened, vault_opened, unlocked}
use Rattle.unlocking.specs.Files.{masterkey_place, config_place, found_at}
use Rattle.unlocking.specs.Secret.{raw_keys}
use Rattle.vault_layout.specs.Limits.{default_threshold}
use Rattle.unlocking.specs.declared.from_folder.SecretKind.{SecretKind}
use Rattle.unlocking.specs.declared.from_folder.SecretKind.TheVariants.{Password, RawKeys}

-- the two key files as they are found
pub record FoundFiles : Type 0 where
  pub masterkey : FoundFile
  pub config : FoundFile

-- those of a disk
abbrev pub files_at : Disk → FoundFiles
files_at disk = record { masterkey = found_at disk masterkey_place; config = found_at disk config_place }

-- the keys themselves, of which no file says anything
abbrev pub with_raw_threshold : KeyPair → UnlockedVault
with_raw_threshold keys = record { keys = keys; threshold = default_threshold }

-- What a secret and the key files unlock, or the first cause against it: the secret goes before the masterkey file, and that before the vault
-- file. A secret that is the two keys goes by no file.
unfoldable pub unlock : SecretKind → List ℕ → FoundFiles → Result UnlockedVault Cause
unlock Password secret files = unlocked secret files.masterkey files.config
unlock RawKeys secret files = ok_or (option_map with_raw_threshold (raw_keys (line_of secret))) bad_secret

-- what a secret and a disk unlock
abbrev pub unlock_on : SecretKind → List ℕ → Disk → Result UnlockedVault Cause
unlock_on kind secret disk = unlock kind secret (files_at disk)

-- P of what a secret and a folder unlock, if the secret is told: by the key files of the folder's disk, if that is told, and else by some
abbrev pub IsUnlocking : SecretKind → Option (List ℕ) → Option Disk → (Result UnlockedVault Cause → Type 0) → Type 0
IsUnlocking kind secret disk P = (files : FoundFiles) × Told disk (λ d. files ≡ files_at d) × Told secret (λ bytes. P (unlock kind bytes files))

-- the same of the key files alone, which are seen in the folder
abbrev pub SeesFiles : Option Disk → (FoundFiles → Type 0) → Type 0
SeesFiles disk P = (files : FoundFiles) × Told disk (λ d. files ≡ files_at d) × P files

-- what a password unlocks
abbrev pub unlocked_by : List ℕ → FoundFiles → Result UnlockedVault Cause
unlocked_by password files = result_and_then (λ keys. vault_opened keys files.config) (masterkey_opened password files.masterkey)
