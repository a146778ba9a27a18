-- Unlocking and opening a vault: what it gives, and why not.
use Rattle.std.specs.Prelude.{◌≡◌, ◌⊎◌, ℕ, ◌≤◌, Some, Ok, ⊤}
use Rattle.outside.specs.Calls.{Rose, Told, Changes}
use Rattle.outside.specs.Disk.{Disk, IsFolder}
use Rattle.outside.specs.Images.{disk_in, now}
use Rattle.outside.specs.Views.{FolderView}
use Rattle.unlocking.specs.FromFiles.{UnlockedVault}
use Rattle.unlocking.specs.Secret.{IsAfterLine, TakesAtMost, taken_limit}
use Rattle.unlocking.specs.FromFolder.{IsUnlocking}
use Rattle.unlocking.specs.Refusals.{IsRefusedBy}
use Rattle.unlocking.specs.declared.from_folder.SecretKind.{SecretKind}
use Rattle.unlocking.specs.declared.from_folder.SecretKind.TheVariants.{RawKeys}
use Rattle.unlocking.specs.declared.refusal.Refusal.{Refusal}
use Rattle.unlocking.specs.declared.refusal.Refusal.TheVariants as refusals
use Rattle.tree_loading.specs.Clear.{HasTooMany, root_folder}
use Rattle.chunk_journal.specs.Opening.{HasOpened, IsDamagedAt, IsLeftApplied, LeavesFolder, StaysOpening}
use Rattle.crash_laws.specs.Opening.{IsSoundlyFound, OpeningRecovers}
use Rattle.store_laws.specs.Store.{shows_under}
use Rattle.store_laws.specs.Ends.{IsOpened}
use Rattle.vault_store.specs.Open.{OpenVault}
use Rattle.vault_store.specs.ReadOnly.{HasOpenedToRead, HasRefusedToRead, ReadOnlyVault}
use Rattle.vault_store.specs.declared.read_only.ReadOnlyErr.{ReadOnlyErr}
use Rattle.vault_store.specs.declared.read_only.ReadOnlyErr.TheVariants.{JournalOpen, NotOpened}
use Rattle.vault_store.specs.declared.opening.OpenErr.{OpenErr}
use Rattle.vault_store.specs.declared.opening.OpenErr.TheVariants as open_errs
use Rattle.vault_top.specs.Causes.{of_refusal}
use Rattle.vault_top.specs.declared.cause.Cause.{Cause}
use Rattle.vault_top.specs.declared.cause.Cause.TheVariants as causes
use Rattle.vault_top.specs.Span.{Given, IsOnlyRead}

-- the secret, and with a password the key files, gave these keys and this threshold, and of the secret its line alone was taken
pub record IsUnlocked (given : Given) (kind : SecretKind) (vault : UnlockedVault) : Type 0 where
  pub gave : IsUnlocking kind given.secret.before.left (disk_in given.folder.before.log) (λ found. found ≡ Ok vault)
  pub line : Changes given.secret.before.left given.secret.after.left IsAfterLine

-- Why the vault isn't unlocked: the first cause against it, and a fault only if its count rose. Of the secret no more was taken than its
-- longest line and one byte, and if it is the two keys the folder wasn't looked at.
pub record IsLocked (given : Given) (kind : SecretKind) (refusal : Refusal) : Type 0 where
  pub cause : IsRefusedBy kind given.secret.before.left (disk_in given.folder.before.log) refusal
  pub secret : refusal ≡ refusals.SecretFault → Rose given.secret.before.faults given.secret.after.faults
  pub folder : refusal ≡ refusals.FolderFault → Rose given.folder.before.faults given.folder.after.faults
  pub begun : Changes given.secret.before.left given.secret.after.left (TakesAtMost (taken_limit kind))
  pub unseen : kind ≡ RawKeys → given.folder.after ≡ given.folder.before

-- the journal was opened, and P of the disk that reads give then
abbrev pub IsOpenedWith : Given → (Disk → Type 0) → Type 0
IsOpenedWith given P = Changes given.folder.before.log given.folder.after.log (λ old new. HasOpened old new × P (now new))

-- the journal that was found is damaged at this place, and if no folder was in the place of its files, reads give what the disk that was found
-- recovers to, its deeds applied up to the first call whose condition fails
pub record HasDamagedJournal (given : Given) (at : ℕ) : Type 0 where
  pub damaged : Told given.folder.before.log (λ log. IsDamagedAt (now log) at ⊎ LeavesFolder (now log) at)
  pub left : Changes given.folder.before.log given.folder.after.log IsLeftApplied

-- an unlocked vault isn't opened for this: the folder's count rose; the journal that was found is damaged there; the disk that it recovers to has too
-- many nodes, or no folder for the root; or there was no memory
abbrev pub IsClosedBy : Given → UnlockedVault → OpenErr → Type 0
IsClosedBy given vault open_errs.Device = Rose given.folder.before.faults given.folder.after.faults
IsClosedBy given vault (open_errs.JournalDamaged at) = HasDamagedJournal given at
IsClosedBy given vault (open_errs.TooMany n) = IsOpenedWith given (λ disk. HasTooMany vault.keys (Some disk) n)
IsClosedBy given vault open_errs.NoRoot = IsOpenedWith given (λ disk. ¬ (IsFolder disk (root_folder vault.keys)))
IsClosedBy given vault open_errs.Memory = ⊤

-- an error of opening as a cause
abbrev pub of_opening : OpenErr → Cause
of_opening open_errs.Device = causes.FolderFault
of_opening (open_errs.JournalDamaged at) = causes.JournalDamaged at
of_opening (open_errs.TooMany n) = causes.TooManyNodes
of_opening open_errs.NoRoot = causes.NoRoot
of_opening open_errs.Memory = causes.Memory

-- the same of one that is only to be read, which may have a journal that is open
abbrev pub of_reading : ReadOnlyErr → Cause
of_reading JournalOpen = causes.JournalOpen
of_reading (NotOpened error) = of_opening error

-- the vault isn't unlocked, for this cause
pub record FailsToUnlock (given : Given) (kind : SecretKind) (cause : Cause) : Type 0 where
  pub refusal : Refusal
  pub is : cause ≡ of_refusal refusal
  pub locked : IsLocked given kind refusal

-- The vault is unlocked, but isn't opened, for this cause: of the folder no more is changed than the opening of its journal does, and a stop since
-- the end of the first sync recovers to what was found, the vault's own and all else.
pub record FailsToOpen (given : Given) (kind : SecretKind) (cause : Cause) : Type 0 where
  pub vault : UnlockedVault
  pub unlocked : IsUnlocked given kind vault
  pub error : OpenErr
  pub is : cause ≡ of_opening error
  pub closed : IsClosedBy given vault error
  pub stays : Changes given.folder.before.log given.folder.after.log StaysOpening
  pub recovers : Changes given.folder.before.log given.folder.after.log (λ old new. IsSoundlyFound (now old) → OpeningRecovers (shows_under (Some old) vault.keys) old new)

-- why nothing is served from the folder, whose count never falls
pub record IsUnopened (given : Given) (kind : SecretKind) (cause : Cause) : Type 0 where
  pub why : (FailsToUnlock given kind cause × IsOnlyRead given.folder.before given.folder.after) ⊎ FailsToOpen given kind cause
  pub later : given.folder.before.faults ≤ given.folder.after.faults

-- the vault is unlocked, but isn't opened to be read, for this cause
pub record FailsToRead (given : Given) (kind : SecretKind) (cause : Cause) : Type 0 where
  pub vault : UnlockedVault
  pub unlocked : IsUnlocked given kind vault
  pub error : ReadOnlyErr
  pub is : cause ≡ of_reading error
  pub refused : HasRefusedToRead given.folder.before given.folder.after vault.keys error

-- why nothing is read from the folder, of which nothing was changed
pub record IsUnread (given : Given) (kind : SecretKind) (cause : Cause) : Type 0 where
  pub why : FailsToUnlock given kind cause ⊎ FailsToRead given kind cause
  pub read : IsOnlyRead given.folder.before given.folder.after

-- the vault was opened to be read at the clock's second, under the keys that were unlocked
pub record IsUnlockedToRead {D : Type 0} (view : D → FolderView) (given : Given) (kind : SecretKind) (folder : D) (vault : ReadOnlyVault D) : Type 0 where
  pub unlocked_vault : UnlockedVault
  pub unlocked : IsUnlocked given kind unlocked_vault
  pub now : ℕ
  pub second : Told given.second (λ second. now ≡ second)
  pub opened : HasOpenedToRead (view folder) (view vault.folder) unlocked_vault.keys now vault.tree

-- the store was opened at the clock's second, under the keys and with the threshold of the unlocked vault, over the folder as unlocking left it
pub record IsUnlockedStore {D : Type 0} (view : D → FolderView) (given : Given) (kind : SecretKind) (folder : D) (store : OpenVault D) : Type 0 where
  pub vault : UnlockedVault
  pub unlocked : IsUnlocked given kind vault
  pub looked : D
  pub read : IsOnlyRead (view folder) (view looked)
  pub unseen : kind ≡ RawKeys → looked ≡ folder
  pub now : ℕ
  pub second : Told given.second (λ second. now ≡ second)
  pub opened : IsOpened (view looked) vault.keys now store.store (view store.folder)
  pub threshold : store.threshold ≡ vault.threshold
  pub later : (view looked).faults ≤ (view store.folder).faults
