-- What a secret and a folder unlock, stage by stage.
use Rattle.std.proofs.Common.{◌≡◌, ℕ, List, Option, Some, None, IsSome, Result, Ok, Err, refl, sym, ap, subst}
use Rattle.std.specs.Option.{is_some, option_map, ok_or}
use Rattle.outside.specs.Calls.{Told}
use Rattle.outside.specs.Disk.{Disk}
use Rattle.outside.proofs.Told.{told_then, told_always}
use Rattle.vault_keys.specs.Keys.{KeyPair}
use Rattle.json_members.specs.Steps.{result_and_then}
use Rattle.masterkey_file.specs.Password.{line_of, password_of}
use Rattle.unlocking.specs.FromFiles.{absent, UnlockedVault, Cause as KeyCause, bad_secret, vault_opened, unlocked}
use Rattle.unlocking.specs.Errors.{IsCause}
use Rattle.unlocking.specs.declared.errors.UnlockErr.TheVariants as unlock_errs
use Rattle.unlocking.proofs.Opening.{keys_found-no_password, keys_found-password, unlocked-refused}
use Rattle.unlocking.specs.Secret.{raw_keys}
use Rattle.unlocking.specs.FromFolder.{FoundFiles, files_at, with_raw_threshold, unlock, IsUnlocking, SeesFiles, unlocked_by}
use Rattle.unlocking.specs.Refusals.{of_secret, IsRefusal, IsRefusedBy}
use Rattle.unlocking.specs.declared.secret.SecretErr.{SecretErr}
use Rattle.unlocking.specs.declared.secret.SecretErr.TheVariants as secret_errs
use Rattle.unlocking.specs.declared.refusal.Refusal.{Refusal}
use Rattle.unlocking.specs.declared.refusal.Refusal.TheVariants.{Cause, SecretFault, FolderFault}
use Rattle.unlocking.specs.declared.from_folder.SecretKind.{SecretKind}
use Rattle.unlocking.specs.declared.from_folder.SecretKind.TheVariants.{Password, RawKeys}

some_files : (disk : Option Disk) → (files : FoundFiles) × Told disk (λ d. files ≡ files_at d)
some_files None = (record { masterkey = absent; config = absent }, tt)
some_files (Some d) = (files_at d, refl)

-- what the secret alone decides
by_secret : (kind : SecretKind) (secret : Option (List ℕ)) (disk : Option Disk) (P : Result UnlockedVault KeyCause → Type 0) (Q : List ℕ → Type 0)
    → ((bytes : List ℕ) (files : FoundFiles) → Q bytes → P (unlock kind bytes files)) → Told secret Q → IsUnlocking kind secret disk P
by_secret kind secret disk P Q h told = let f = some_files disk in (f.0, f.1, told_then secret Q (λ bytes. P (unlock kind bytes f.0)) told (λ bytes q. h bytes f.0 q))

raw_bad : (bytes : List ℕ) (files : FoundFiles) → raw_keys (line_of bytes) ≡ None → unlock RawKeys bytes files ≡ Err bad_secret
unfolding unlock
raw_bad bytes files none = ap (λ (o : Option KeyPair). ok_or (option_map with_raw_threshold o) bad_secret) none

raw_good : (keys : KeyPair) (bytes : List ℕ) (files : FoundFiles) → raw_keys (line_of bytes) ≡ Some keys → unlock RawKeys bytes files ≡ Ok (with_raw_threshold keys)
unfolding unlock
raw_good keys bytes files some = ap (λ (o : Option KeyPair). ok_or (option_map with_raw_threshold o) bad_secret) some

password_bad : (bytes : List ℕ) (files : FoundFiles) → password_of bytes ≡ None → unlock Password bytes files ≡ Err bad_secret
unfolding unlock
password_bad bytes files none = unlocked-refused bytes files.masterkey files.config bad_secret (keys_found-no_password bytes files.masterkey none)

by_password : (password bytes : List ℕ) (files : FoundFiles) → password_of bytes ≡ Some password → unlock Password bytes files ≡ unlocked_by password files
unfolding unlock unlocked
by_password password bytes files some = ap (result_and_then (λ keys. vault_opened keys files.config)) (keys_found-password bytes password files.masterkey some)

no_memory : (kind : SecretKind) (secret : Option (List ℕ)) (disk : Option Disk) → IsUnlocking kind secret disk (IsCause unlock_errs.Memory)
no_memory kind secret disk = let f = some_files disk in (f.0, f.1, told_always secret _ (λ bytes. tt))

pub raw_refused : (e : SecretErr) (secret : Option (List ℕ)) (disk : Option Disk) → (e ≡ secret_errs.Bad → Told secret (λ bytes. raw_keys (line_of bytes) ≡ None))
    → IsRefusedBy RawKeys secret disk (of_secret e)
raw_refused secret_errs.Device secret disk bad = tt
raw_refused secret_errs.Bad secret disk bad = by_secret RawKeys secret disk (IsCause unlock_errs.BadSecret) (λ bytes. raw_keys (line_of bytes) ≡ None) raw_bad (bad refl)
raw_refused secret_errs.Memory secret disk bad = no_memory RawKeys secret disk

pub password_refused : (e : SecretErr) (secret : Option (List ℕ)) (disk : Option Disk) → (e ≡ secret_errs.Bad → Told secret (λ bytes. password_of bytes ≡ None))
    → IsRefusedBy Password secret disk (of_secret e)
password_refused secret_errs.Device secret disk bad = tt
password_refused secret_errs.Bad secret disk bad = by_secret Password secret disk (IsCause unlock_errs.BadSecret) (λ bytes. password_of bytes ≡ None) password_bad (bad refl)
password_refused secret_errs.Memory secret disk bad = no_memory Password secret disk

pub raw_unlocked : (keys : KeyPair) (secret : Option (List ℕ)) (disk : Option Disk) → Told secret (λ bytes. raw_keys (line_of bytes) ≡ Some keys)
    → IsUnlocking RawKeys secret disk (λ found. found ≡ Ok (with_raw_threshold keys))
raw_unlocked keys secret disk told = by_secret RawKeys secret disk (λ found. found ≡ Ok (with_raw_threshold keys)) (λ bytes. raw_keys (line_of bytes) ≡ Some keys) (raw_good keys) told

pub files_unlocked : (password : List ℕ) (secret : Option (List ℕ)) (disk : Option Disk) (P : Result UnlockedVault KeyCause → Type 0) → Told secret (λ bytes. password_of bytes ≡ Some password)
    → SeesFiles disk (λ files. P (unlocked_by password files)) → IsUnlocking Password secret disk P
files_unlocked password secret disk P told seen = (
  seen.0,
  seen.1,
  told_then secret (λ bytes. password_of bytes ≡ Some password) (λ bytes. P (unlock Password bytes seen.0)) told (λ bytes some. subst P (sym (by_password password bytes seen.0 some)) seen.2),
)

pub files_refused : (r : Refusal) (password : List ℕ) (secret : Option (List ℕ)) (disk : Option Disk) → Told secret (λ bytes. password_of bytes ≡ Some password)
    → SeesFiles disk (λ files. IsRefusal r (unlocked_by password files)) → IsRefusedBy Password secret disk r
files_refused (Cause e) password secret disk told seen = files_unlocked password secret disk (IsCause e) told seen
files_refused SecretFault password secret disk told seen = tt
files_refused FolderFault password secret disk told seen =
    (refl, told_then secret (λ bytes. password_of bytes ≡ Some password) (λ bytes. IsSome (password_of bytes)) told (λ bytes some. ap is_some some))
