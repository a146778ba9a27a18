-- What serving a vault does, step by step.
use Rattle.std.specs.Prelude.{◌≡◌, ◌⊎◌, ℕ, ◌<◌, ◌-◌, ◌^◌, min, List, [], ◌++◌, length, Some, None, Result, Ok, IsErr, IsOk, IfSome, IsNone, ⊤}
use Rattle.outside.specs.declared.stream.Failed.{Failed}
use Rattle.outside.specs.Calls.{Rose}
use Rattle.outside.specs.Images.{now}
use Rattle.outside.specs.Views.{FolderView}
use Rattle.outside_mem.specs.Held.{Holding}
use Rattle.tree_loading.specs.Format.{sealing_of}
use Rattle.tree_deed_laws.specs.Shapes.{HasTree}
use Rattle.tree_model.specs.Rows.{Rows}
use Rattle.tree_model.specs.History.{Origin}
use Rattle.session_server.specs.declared.ending.SessionEnd.{SessionEnd}
use Rattle.session_server.specs.declared.counts.SessionCounts.{SessionCounts}
use Rattle.session_server.specs.Ends.{AreCounts}
use Rattle.session_server.specs.Shares.{all_ends}
use Rattle.shared_tree.specs.Joined.{IsJoined}
use Rattle.shared_tree.specs.declared.workers.Worker.{Worker}
use Rattle.vault_keys.specs.Keys.{KeyPair}
use Rattle.store_laws.specs.Store.{StoreView}
use Rattle.store_laws.specs.Turns.{draws_for}
use Rattle.vault_store.specs.Open.{ClosedVault, OpenVault}
use Rattle.demonstration.specs.Summary.{PlainRow, summary_line}
use Rattle.demonstration.specs.Left.{AreLeft}
use Rattle.vault_top.specs.Report.{line}
use Rattle.vault_top.specs.Served.{IsClosing}
use Rattle.vault_top.specs.Span.{Course, SinkView, Views}
use Rattle.vault_top.specs.Sharing.{IsSharedStore}
use Rattle.vault_words.specs.Jobs.{Demonstration}
use Rattle.vault_top.specs.declared.cause.Cause.TheVariants.{Memory}
use Rattle.vault_top.specs.Demonstrated.{HasHeld}
use Rattle.vault_top.specs.Ending.{Ending, refused, demonstrated, no_memory_to_serve, served, listener_fault, closing_fault, no_memory_to_report, serving, report_of, status_of, cut_status_of, IsReported}
use Rattle.vault_top.specs.Writing.{IsWritten}
use Rattle.vault_top.specs.declared.program.Ended.{Ended}
use Rattle.vault_top.specs.declared.serving.HandedBack.{HandedBack}
use Rattle.vault_top.specs.declared.serving.Outcome.{Outcome}
use Rattle.vault_top.specs.declared.serving.Outcome.TheVariants as outcomes
use Rattle.vault_top.specs.declared.demonstrating.Demonstrated.{Demonstrated}
use Rattle.vault_top.specs.declared.demonstrating.Kept.{Kept}
use Rattle.vault_top.specs.declared.task.Service.{Service}
use Rattle.vault_top.specs.declared.task.Scripts.{Scripts}

-- an outcome's cause: what failed, or the sessions that were counted; and how the vault was closed
abbrev pub HasOutcome : Result SessionCounts Failed → Result (Unit {0}) Failed → Outcome → Type 0
HasOutcome counts closing (outcomes.Served c) = (counts ≡ Ok c) × IsOk closing
HasOutcome counts closing outcomes.ListenerFault = IsErr counts × IsOk closing
HasOutcome counts closing outcomes.FolderFault = IsErr closing
HasOutcome counts closing outcomes.NoMemory = ⊥

-- all workers served their shares over an open vault, which was closed then
pub record HasServedAll {D N C E K : Type 0} (start : Rows → Origin → Type 0) (since : FolderView → KeyPair → Rows → Type 0) (views : Views D N C E K) (service : Service) (workers workers' : List (Worker N E K)) (ends : List SessionEnd) (back : HandedBack D) : Type 0 where
  pub rows : Rows
  pub origin : Origin
  pub begins : start rows origin
  pub store : OpenVault D
  pub counts : Result SessionCounts Failed
  pub joined : IsJoined (λ s rows origin history. IsSharedStore views.folder since s rows origin history) draws_for views.listener views.entropy views.link views.clock
      service.sessions (min service.at_once (length workers)) rows origin store workers workers' counts
  pub ended : all_ends joined.shares ≡ ends
  pub folder : D
  pub folder_is : back.folder ≡ Some folder
  pub closed : ClosedVault
  pub closed_is : back.store ≡ Some closed
  pub closing : IsClosing views.folder store.store store.folder closed folder
  pub outcome : HasOutcome counts closed.committed back.outcome

-- the folder of a store that stood for no entries
pub record IsUnasked {D : Type 0} (view : D → FolderView) (start : Rows → Origin → Type 0) (since : FolderView → KeyPair → Rows → Type 0) (folder : D) : Type 0 where
  pub rows : Rows
  pub origin : Origin
  pub begins : start rows origin
  pub store : StoreView
  pub threshold : ℕ
  pub shared : IsSharedStore view since (record { store = store; threshold = threshold; folder = folder }) rows origin []

-- there was no memory to serve, and no worker did anything; a store that is left stood for no entries
pub record HasServedNone {D N C E K : Type 0} (start : Rows → Origin → Type 0) (since : FolderView → KeyPair → Rows → Type 0) (views : Views D N C E K) (workers workers' : List (Worker N E K)) (back : HandedBack D) : Type 0 where
  pub outcome : back.outcome ≡ outcomes.NoMemory
  pub store : back.store ≡ None
  pub same : workers' ≡ workers
  pub folder : IfSome back.folder (λ folder. IsUnasked views.folder start since folder)

abbrev pub HasServed : {D N C E K : Type 0} → (Rows → Origin → Type 0) → (FolderView → KeyPair → Rows → Type 0) → Views D N C E K → Service → List (Worker N E K) → List (Worker N E K) → List SessionEnd → HandedBack D → Type 0
HasServed start since views service workers workers' ends back =
    HasServedAll start since views service workers workers' ends back ⊎ HasServedNone start since views workers workers' back

-- the sessions that an outcome counts, if it does
abbrev pub AreCounted : List SessionEnd → Outcome → Type 0
AreCounted ends (outcomes.Served counts) = AreCounts counts ends
AreCounted ends outcomes.ListenerFault = ⊤
AreCounted ends outcomes.FolderFault = ⊤
AreCounted ends outcomes.NoMemory = ⊤

-- the endings that an outcome may come to: without memory no counts are reported
abbrev pub MayEnd : List SessionEnd → Outcome → Ending → Type 0
MayEnd ends (outcomes.Served counts) ending = (ending ≡ served ends) ⊎ (ending ≡ no_memory_to_report ends)
MayEnd ends outcomes.ListenerFault ending = ending ≡ listener_fault ends
MayEnd ends outcomes.FolderFault ending = ending ≡ closing_fault ends
MayEnd ends outcomes.NoMemory ending = ending ≡ no_memory_to_serve

-- an outcome's last line, which was written after `serving`: the rest of the report of an ending that it may come to
pub record HasLastLine (ends : List SessionEnd) (outcome : Outcome) (sink : Course SinkView) (status : ℕ) : Type 0 where
  pub ending : Ending
  pub may : MayEnd ends outcome ending
  pub text : List ℕ
  pub report_is : report_of ending ≡ serving ++ text
  pub written : IsWritten (Rose sink.before.faults sink.after.faults) sink.before.taken sink.after.taken text (status_of ending) (cut_status_of ending) status

-- the status of an outcome that isn't reported, since the sink failed before
abbrev pub unreported : Outcome → ℕ
unreported (outcomes.Served counts) = 4
unreported outcomes.ListenerFault = 4
unreported outcomes.FolderFault = 4
unreported outcomes.NoMemory = 5

-- all workers served over an open vault, and it was reported
pub record HasServedVault {D N C E K : Type 0} (start : Rows → Origin → Type 0) (since : FolderView → KeyPair → Rows → Type 0) (views : Views D N C E K) (service : Service) (workers workers' : List (Worker N E K)) (sink : Course SinkView) (ended : Ended D) : Type 0 where
  pub ends : List SessionEnd
  pub back : HandedBack D
  pub served : HasServed start since views service workers workers' ends back
  pub ending : Ending
  pub may : MayEnd ends back.outcome ending
  pub folder_is : ended.folder ≡ back.folder
  pub store_is : ended.store ≡ back.store
  pub reported : IsReported sink ending ended.status

-- ---- a demonstration

-- what is kept of what was handed back: so many sessions were counted, each as one that ended between two messages
pub record IsKeptOf {D : Type 0} (back : HandedBack D) (sessions : ℕ) (kept : Kept D) : Type 0 where
  pub counts : SessionCounts
  pub outcome : back.outcome ≡ outcomes.Served counts
  pub sessions_are : counts.sessions ≡ sessions
  pub done : counts.done ≡ sessions
  pub folder : back.folder ≡ Some kept.folder
  pub store : back.store ≡ Some kept.store
  pub few : kept.store.store.entries < 2 ^ 64 - 1

-- a text is the line of what these rows leave after so many entries
pub record SumsUp (scripts : Scripts) (entries : ℕ) (shown : Rows) (written : List ℕ) : Type 0 where
  pub rows : List PlainRow
  pub left : AreLeft shown rows
  pub is : written ≡ line (summary_line scripts.clients scripts.requests entries rows)

-- what a demonstration leaves: the line of what the kept folder shows, and the kept store
pub record SumsUpKept (scripts : Scripts) (keys : KeyPair) (kept : Kept Holding) (left : Demonstrated) : Type 0 where
  pub line_is : (shown : Rows) → HasTree (sealing_of keys) (now kept.folder.log) shown → SumsUp scripts kept.store.store.entries shown left.line.items
  pub store_is : left.store ≡ kept.store

-- a demonstration was held and reported, and the closed store of its vault is handed back
pub record IsHeldAndReported {D : Type 0} (d : Demonstration) (sink : Course SinkView) (ended : Ended D) : Type 0 where
  pub text : List ℕ
  pub closed : ClosedVault
  pub store_is : ended.store ≡ Some closed
  pub held : HasHeld d text closed
  pub reported : IsReported sink (demonstrated text) ended.status

-- it was held and reported; or there was no memory for it, which was reported, and no store is handed back
abbrev pub HasDemonstrated : {D : Type 0} → Demonstration → Course SinkView → Ended D → Type 0
HasDemonstrated d sink ended =
    IsHeldAndReported d sink ended ⊎ (IsNone ended.store × IsReported sink (refused Memory) ended.status)
