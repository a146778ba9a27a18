-- A vault that is only read: what it answers, what it is opened from, and why not.
use Rattle.std.specs.Prelude.{◌≡◌, ℕ, ◌≤◌, List, [], ◌∷◌, ◌++◌, false, None, IsNone}
use Rattle.std.specs.List.{AllByRecursion}
use Rattle.outside.specs.Calls.{HasCause, Told}
use Rattle.outside.specs.Disk.{Disk, IsFolder}
use Rattle.outside.specs.Images.{disk_in, now}
use Rattle.outside.specs.Views.{FolderView, EntropyView}
use Rattle.vault_keys.specs.Keys.{KeyPair}
use Rattle.chunk_journal.specs.Journal.{HoldsBatch, IsClosed}
use Rattle.deeds.specs.Deeds.{PlainDeed}
use Rattle.chunk_journal.specs.Opening.{IsDamagedAt}
use Rattle.tree_loading.specs.Clear.{root_folder, HasTooMany}
use Rattle.tree_loading.specs.Format.{sealing_of}
use Rattle.tree_model.specs.declared.refusal.Refusal.TheVariants as refusals
use Rattle.tree_model.specs.Rows.{Content, Rows}
use Rattle.tree_model.specs.Asked.{Asked}
use Rattle.tree_model.specs.Step.{IsReading, refuses}
use Rattle.tree_model.specs.History.{Made, Entry, Origin, entry_of, tally_at, tally_of, answer_of, AreCaused, IsAnswered}
use Rattle.live_tree.specs.Held.{live_rows}
use Rattle.node_changes.specs.Changed.{StandsOn}
use Rattle.node_changes.specs.declared.tree.VaultTree.{VaultTree}
use Rattle.store_laws.specs.Store.{moment_of}
use Rattle.store_laws.specs.Ends.{IsFoundClear}
use Rattle.vault_store.specs.declared.opening.OpenErr.TheVariants as open_errs
use Rattle.vault_store.specs.declared.read_only.ReadOnlyErr.{ReadOnlyErr}
use Rattle.vault_store.specs.declared.read_only.ReadOnlyErr.TheVariants.{JournalOpen, NotOpened}

-- ---- what is answered

-- a request that changes nothing is answered as the rows say, or by a fault; each other is refused
pub record IsViewed (rows : Rows) (made : Made) : Type 0 where
  pub reading : IsReading made.asked.request → IsAnswered rows made
  pub changing : (IsReading made.asked.request → ⊥) → answer_of made ≡ refuses refusals.NotPermitted

-- it is so of each entry, in the same rows
abbrev pub AreViewed : Rows → List Entry → Type 0
AreViewed rows entries = AllByRecursion (λ entry. IsViewed rows entry.made) entries

-- ---- a vault in memory, and its folder

-- a folder that was only read since
pub record IsOnlyRead (old new : FolderView) : Type 0 where
  pub log : new.log ≡ old.log
  pub changes : new.changes ≡ old.changes
  pub faults : old.faults ≤ new.faults

-- its tree, and its folder
pub record ReadOnlyVault (D : Type 0) : Type 0 where
  pub tree : VaultTree
  pub folder : D

-- the tree in memory is that of a disk, with the contents that its files have there, and its rows are these
pub record IsShownOn (disk : Disk) (tree : VaultTree) (rows : Rows) : Type 0 where
  pub contents : ℕ → Content
  pub stands : StandsOn (sealing_of tree.keys) disk tree.live tree.claims contents
  pub rows_are : rows ≡ live_rows contents tree.live

-- It stands for a history from given rows and counts on: its entries have their causes, and if the folder tells its log, each is answered in the rows that its
-- tree has there.
pub record IsReadOnlyOf (tree : VaultTree) (folder : FolderView) (rows : Rows) (origin : Origin) (history : List Entry) : Type 0 where
  pub shown : Told folder.log (λ log. IsShownOn (now log) tree rows)
  pub viewed : Told folder.log (λ log. AreViewed rows history)
  pub caused : AreCaused (tally_at origin) history
  pub running : IsNone (tally_of origin history).stopped
  pub faults : (tally_of origin history).folder_faults ≤ folder.faults
  pub moment : (tally_of origin history).moment ≤ moment_of folder.log

-- ---- entries

-- what was made of a request that was asked and answered so: nothing was drawn for it, and no commit failed
pub record IsMadeReading (asked : Asked) (before after : FolderView) (source : EntropyView) (made : Made) : Type 0 where
  pub same : made.asked ≡ asked
  pub folder : (made.folder.before ≡ before.faults) × (made.folder.after ≡ after.faults)
  pub entropy : (made.entropy.before ≡ source.faults) × (made.entropy.after ≡ source.faults)
  pub undrawn : made.drawn ≡ None
  pub whole : made.commit_failed ≡ false
  pub moment : made.moment ≡ moment_of after.log

-- One entry more: whatever history the vault stood for, whoever asks, it stands for that history with one entry, in which this was asked and answered.
abbrev pub AddsReading : VaultTree → FolderView → FolderView → Asked → Type 0
AddsReading tree before after asked =
    (source : EntropyView) (rows : Rows) (origin : Origin) (history : List Entry) (caller : ℕ) → IsReadOnlyOf tree before rows origin history →
    (tally_of origin history).entropy_faults caller ≤ source.faults →
    (made : Made) × IsMadeReading asked before after source made × IsReadOnlyOf tree after rows origin (history ++ entry_of caller made ∷ [])

-- ---- opening

-- The vault of a folder whose journal is closed: its tree stands for no entries yet, from the rows on that the folder has, and from any counts on that are no higher
-- than the folder's and at its moment. Nothing was changed.
pub record HasOpenedToRead (before after : FolderView) (keys : KeyPair) (unlocked : ℕ) (tree : VaultTree) : Type 0 where
  pub keys_are : tree.keys ≡ keys
  pub closed : Told before.log (λ log. IsClosed (now log))
  pub rows : Rows
  pub clear : Told before.log (λ log. IsFoundClear keys (now log) unlocked rows)
  pub stands : (origin : Origin) → origin.folder_faults ≤ after.faults → origin.moment ≡ moment_of after.log → IsReadOnlyOf tree after rows origin []
  pub read : IsOnlyRead before after

-- None, for this cause: the journal that was found is damaged there, or holds a batch that is to be done; or it is closed, and the disk has too many nodes, or no
-- folder for the root; or the folder's count rose. Nothing was changed.
pub record HasRefusedToRead (before after : FolderView) (keys : KeyPair) (cause : ReadOnlyErr) : Type 0 where
  pub damaged : (at : ℕ) → cause ≡ NotOpened (open_errs.JournalDamaged at) → Told before.log (λ log. IsDamagedAt (now log) at)
  pub journal : cause ≡ JournalOpen → Told before.log (λ log. (deeds : List PlainDeed) × HoldsBatch (now log) deeds)
  pub too_many : (n : ℕ) → cause ≡ NotOpened (open_errs.TooMany n) → Told before.log (λ log. IsClosed (now log)) × HasTooMany keys (disk_in before.log) n
  pub no_root : cause ≡ NotOpened open_errs.NoRoot
      → Told before.log (λ log. IsClosed (now log)) × Told (disk_in before.log) (λ d. ¬ (IsFolder d (root_folder keys)))
  pub read : IsOnlyRead before after
  pub device : HasCause before.faults after.faults (cause ≡ NotOpened open_errs.Device)
