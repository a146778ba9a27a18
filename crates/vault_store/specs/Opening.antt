-- What opening a vault gives, and why it is refused.
use Rattle.std.specs.Prelude.{◌≡◌, ◌⊎◌, ℕ, ◌≤◌}
use Rattle.outside.specs.Calls.{Changes, HasCause, Told}
use Rattle.outside.specs.declared.folder.Refused.{Refused}
use Rattle.outside.specs.Disk.{IsFolder}
use Rattle.outside.specs.Images.{disk_in, now}
use Rattle.outside.specs.Views.{FolderView}
use Rattle.vault_keys.specs.Keys.{KeyPair}
use Rattle.chunk_journal.specs.Opening.{HasOpened, IsDamagedAt, IsLeftApplied, LeavesFolder, StaysOpening}
use Rattle.tree_loading.specs.Clear.{root_folder, HasTooMany}
use Rattle.store_laws.specs.Ends.{IsOpened}
use Rattle.vault_store.specs.Open.{OpenVault}
use Rattle.vault_store.specs.declared.opening.OpenErr.{OpenErr}
use Rattle.vault_store.specs.declared.opening.OpenErr.TheVariants as open_errs

-- the store of a folder, which stands for no entries yet, with the threshold that was given
pub record HasOpenedStore {D : Type 0} (view : D → FolderView) (folder : D) (keys : KeyPair) (unlocked threshold : ℕ) (vault : OpenVault D) : Type 0 where
  pub opened : IsOpened (view folder) keys unlocked vault.store (view vault.folder)
  pub threshold_is : vault.threshold ≡ threshold
  pub later : (view folder).faults ≤ (view vault.folder).faults

-- None, for this cause: the journal that was found is damaged there, of which the deeds before are done; the disk that it recovers to has too many nodes, or no
-- folder for the root; or the folder's count rose. Nothing is changed but what opening a journal does.
pub record HasRefusedStore {D : Type 0} (view : D → FolderView) (folder : D) (keys : KeyPair) (refusal : Refused D OpenErr) : Type 0 where
  pub damaged : (at : ℕ) → refusal.cause ≡ open_errs.JournalDamaged at → Told (view folder).log (λ log. IsDamagedAt (now log) at ⊎ LeavesFolder (now log) at)
  pub left : (at : ℕ) → refusal.cause ≡ open_errs.JournalDamaged at → Changes (view folder).log (view refusal.folder).log IsLeftApplied
  pub too_many : (n : ℕ) → refusal.cause ≡ open_errs.TooMany n → Changes (view folder).log (view refusal.folder).log HasOpened × HasTooMany keys (disk_in (view refusal.folder).log) n
  pub no_root : refusal.cause ≡ open_errs.NoRoot
      → Changes (view folder).log (view refusal.folder).log HasOpened × Told (disk_in (view refusal.folder).log) (λ d. ¬ (IsFolder d (root_folder keys)))
  pub refused : Changes (view folder).log (view refusal.folder).log StaysOpening
  pub cause : HasCause (view folder).faults (view refusal.folder).faults (refusal.cause ≡ open_errs.Device)
