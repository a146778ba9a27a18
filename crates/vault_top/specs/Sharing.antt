-- An open vault as a tree that many callers ask.
use Rattle.std.specs.Prelude.{◌≡◌, ℕ, ◌≤◌, List, Option, Ok}
use Rattle.outside.specs.Calls.{Told}
use Rattle.outside.specs.Images.{disk_in, moment, now}
use Rattle.outside.specs.Views.{FolderView}
use Rattle.tree_model.specs.Rows.{Rows}
use Rattle.tree_model.specs.History.{Entry, Origin}
use Rattle.vault_keys.specs.Keys.{KeyPair}
use Rattle.store_laws.specs.Store.{IsStoreOf}
use Rattle.store_laws.specs.Ends.{IsFoundClear}
use Rattle.unlocking.specs.FromFiles.{UnlockedVault}
use Rattle.unlocking.specs.FromFolder.{IsUnlocking}
use Rattle.unlocking.specs.declared.from_folder.SecretKind.{SecretKind}
use Rattle.vault_store.specs.Open.{OpenVault}
use Rattle.shared_tree.specs.declared.workers.Worker.{Worker}
use Rattle.vault_top.specs.Span.{SourceView, Views, worker_spans}
use Rattle.vault_top.specs.Served.{entropy_before}

-- a store stands for a history over a folder that was so as the run began, under keys and from rows that the run may begin with
pub record IsSharedStore {D : Type 0} (view : D → FolderView) (since : FolderView → KeyPair → Rows → Type 0) (vault : OpenVault D) (rows : Rows) (origin : Origin) (history : List Entry) : Type 0 where
  pub start : FolderView
  pub begins : since start vault.store.keys rows
  pub stands : IsStoreOf start.log vault.store (view vault.folder) rows origin history
  pub faults : start.faults ≤ (view vault.folder).faults

-- The counts at which a run's history begins: the folder's faults as they were, and its moment as the vault had been opened; and each worker's random source's
-- faults as they were.
pub record Begins {D N C E K : Type 0} (views : Views D N C E K) (folder : D) (workers : List (Worker N E K)) (rows : Rows) (origin : Origin) : Type 0 where
  pub folder_faults : origin.folder_faults ≡ (views.folder folder).faults
  pub entropy_faults : origin.entropy_faults ≡ entropy_before (worker_spans views workers workers)
  pub moment : Told (views.folder folder).log (λ log. moment log ≤ origin.moment)

-- these are the rows and counts from which a run's history may begin
pub record AreBeginnings {D N C E K : Type 0} (start : Rows → Origin → Type 0) (views : Views D N C E K) (folder : D) (workers : List (Worker N E K)) : Type 0 where
  pub all : (rows : Rows) (origin : Origin) → Begins views folder workers rows origin → start rows origin
  pub only : (rows : Rows) (origin : Origin) → start rows origin → Begins views folder workers rows origin

-- The folder was so as the run began; the secret unlocks these keys, and these are the rows of what the folder recovers to, of a vault that is unlocked at the clock's second.
pub record IsBegun (kind : SecretKind) (folder : FolderView) (secret : SourceView) (second : Option ℕ) (start : FolderView) (keys : KeyPair) (rows : Rows) : Type 0 where
  pub folder_is : start ≡ folder
  pub vault : UnlockedVault
  pub gave : IsUnlocking kind secret.left (disk_in folder.log) (λ found. found ≡ Ok vault)
  pub keys_are : vault.keys ≡ keys
  pub unlocked : ℕ
  pub clear : Told folder.log (λ log. IsFoundClear keys (now log) unlocked rows)
  pub at_second : Told second (λ s. unlocked ≡ s)

-- it is so, and only so
pub record IsAlone (since : FolderView → KeyPair → Rows → Type 0) (kind : SecretKind) (folder : FolderView) (secret : SourceView) (second : Option ℕ) : Type 0 where
  pub all : (start : FolderView) (keys : KeyPair) (rows : Rows) → IsBegun kind folder secret second start keys rows → since start keys rows
  pub only : (start : FolderView) (keys : KeyPair) (rows : Rows) → since start keys rows → IsBegun kind folder secret second start keys rows
