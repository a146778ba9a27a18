-- What serving a vault that is only read does, step by step.
use Rattle.std.specs.Prelude.{◌≡◌, ◌⊎◌, min, List, [], length, Some, None, Result, Ok, IsErr, IfSome}
use Rattle.outside.specs.declared.stream.Failed.{Failed}
use Rattle.outside.specs.Views.{FolderView}
use Rattle.vault_keys.specs.Keys.{KeyPair}
use Rattle.tree_model.specs.Rows.{Rows}
use Rattle.tree_model.specs.History.{Origin}
use Rattle.session_server.specs.declared.ending.SessionEnd.{SessionEnd}
use Rattle.session_server.specs.declared.counts.SessionCounts.{SessionCounts}
use Rattle.session_server.specs.Shares.{all_ends}
use Rattle.shared_tree.specs.Joined.{IsJoined}
use Rattle.shared_tree.specs.declared.workers.Worker.{Worker}
use Rattle.store_laws.specs.Turns.{draws_for}
use Rattle.vault_store.specs.ReadOnly.{ReadOnlyVault}
use Rattle.vault_top.specs.Span.{Course, SinkView, Views}
use Rattle.vault_top.specs.ReadOnly.{IsSharedView}
use Rattle.vault_top.specs.Ending.{Reading, whole, a_listener_failed, not_reported, not_shared, only_read, IsReported}
use Rattle.vault_top.specs.declared.program.Ended.{Ended}
use Rattle.vault_top.specs.declared.serving.Outcome.{Outcome}
use Rattle.vault_top.specs.declared.serving.Outcome.TheVariants as outcomes
use Rattle.vault_top.specs.declared.task.Service.{Service}
use Rattle.vault_top.specs.declared.viewing.ReadBack.{ReadBack}

-- an outcome's cause: what failed, or the sessions that were counted
abbrev pub HasReadOutcome : Result SessionCounts Failed → Outcome → Type 0
HasReadOutcome counts (outcomes.Served c) = counts ≡ Ok c
HasReadOutcome counts outcomes.ListenerFault = IsErr counts
HasReadOutcome counts outcomes.FolderFault = ⊥
HasReadOutcome counts outcomes.NoMemory = ⊥

-- all workers served their shares over a vault that is only read
pub record HasServedReaders {D N C E K : Type 0} (start : Rows → Origin → Type 0) (since : FolderView → KeyPair → Rows → Type 0) (views : Views D N C E K) (service : Service) (workers workers' : List (Worker N E K)) (ends : List SessionEnd) (back : ReadBack D) : Type 0 where
  pub rows : Rows
  pub origin : Origin
  pub begins : start rows origin
  pub vault : ReadOnlyVault D
  pub counts : Result SessionCounts Failed
  pub joined : IsJoined (λ v rows origin history. IsSharedView views.folder since v rows origin history) draws_for views.listener views.entropy views.link views.clock
      service.sessions (min service.at_once (length workers)) rows origin vault workers workers' counts
  pub ended : all_ends joined.shares ≡ ends
  pub folder_is : back.folder ≡ Some vault.folder
  pub outcome : HasReadOutcome counts back.outcome

-- the folder of a vault that stood for no entries
pub record IsUnaskedView {D : Type 0} (view : D → FolderView) (start : Rows → Origin → Type 0) (since : FolderView → KeyPair → Rows → Type 0) (folder : D) : Type 0 where
  pub rows : Rows
  pub origin : Origin
  pub begins : start rows origin
  pub vault : ReadOnlyVault D
  pub folder_is : vault.folder ≡ folder
  pub shared : IsSharedView view since vault rows origin []

-- there was no memory to serve, and no worker did anything
pub record HasServedNoReaders {D N C E K : Type 0} (start : Rows → Origin → Type 0) (since : FolderView → KeyPair → Rows → Type 0) (views : Views D N C E K) (workers workers' : List (Worker N E K)) (back : ReadBack D) : Type 0 where
  pub outcome : back.outcome ≡ outcomes.NoMemory
  pub same : workers' ≡ workers
  pub folder : IfSome back.folder (λ folder. IsUnaskedView views.folder start since folder)

abbrev pub HasViewed : {D N C E K : Type 0} → (Rows → Origin → Type 0) → (FolderView → KeyPair → Rows → Type 0) → Views D N C E K → Service → List (Worker N E K) → List (Worker N E K) → List SessionEnd → ReadBack D → Type 0
HasViewed start since views service workers workers' ends back =
    HasServedReaders start since views service workers workers' ends back ⊎ HasServedNoReaders start since views workers workers' back

-- how it may have ended, by an outcome: without memory no counts are reported
abbrev pub MayRead : List SessionEnd → Outcome → Reading → Type 0
MayRead ends (outcomes.Served counts) reading = (reading ≡ whole ends) ⊎ (reading ≡ not_reported ends)
MayRead ends outcomes.ListenerFault reading = reading ≡ a_listener_failed ends
MayRead ends outcomes.FolderFault reading = ⊥
MayRead ends outcomes.NoMemory reading = reading ≡ not_shared

-- all workers served, and it was reported; no store is handed back
pub record HasServedView {D N C E K : Type 0} (start : Rows → Origin → Type 0) (since : FolderView → KeyPair → Rows → Type 0) (views : Views D N C E K) (service : Service) (workers workers' : List (Worker N E K)) (sink : Course SinkView) (ended : Ended D) : Type 0 where
  pub ends : List SessionEnd
  pub back : ReadBack D
  pub served : HasViewed start since views service workers workers' ends back
  pub reading : Reading
  pub may : MayRead ends back.outcome reading
  pub folder_is : ended.folder ≡ back.folder
  pub store_is : ended.store ≡ None
  pub reported : IsReported sink (only_read reading) ended.status
