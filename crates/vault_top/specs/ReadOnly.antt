-- A vault that was served to be read alone.
use Rattle.std.specs.Prelude.{◌≡◌, ◌⊎◌, ℕ, ◌*◌, ◌<◌, ◌≤◌, List, length, map}
use Rattle.std.specs.List.{AllByRecursion}
use Rattle.outside.specs.Calls.{Told}
use Rattle.outside.specs.Images.{now}
use Rattle.outside.specs.Views.{FolderView}
use Rattle.chunk_journal.specs.Journal.{IsClosed}
use Rattle.session_server.specs.declared.ending.SessionEnd.{SessionEnd}
use Rattle.shared_tree.specs.Joined.{all_asked}
use Rattle.shared_tree.specs.Limits.{most_tickets}
use Rattle.turn_lock.specs.Limits.{turn_limit}
use Rattle.tree_model.specs.Asked.{entered}
use Rattle.tree_model.specs.Rows.{Rows}
use Rattle.tree_model.specs.History.{Made, Entry, Origin, entries_of, tally_at, tally_of, answer_of, AreCaused, IsUpTo, MayLackMemory}
use Rattle.tree_model.specs.Step.{IsReading, refuses, step}
use Rattle.tree_model.specs.declared.refusal.Refusal.TheVariants as refusals
use Rattle.vault_keys.specs.Keys.{KeyPair}
use Rattle.unlocking.specs.FromFiles.{UnlockedVault}
use Rattle.unlocking.specs.declared.from_folder.SecretKind.{SecretKind}
use Rattle.store_laws.specs.Ends.{IsFoundClear}
use Rattle.vault_store.specs.ReadOnly.{AreViewed, IsReadOnlyOf, ReadOnlyVault}
use Rattle.vault_top.specs.Span.{Views, WorkerSpan, Span, IsOnlyRead}
use Rattle.vault_top.specs.Opening.{IsUnlocked}
use Rattle.vault_top.specs.Served.{Share, AreShares, all_ends, asked_by, end_of, AreAllDrawn, AreAllTimed, IsSince}

-- The entries of all callers are answered in the rows of the tree that was found, under these keys, which stay as they are: a request that changes nothing as the
-- rows say, or by a fault, and each other is refused as not permitted. Of each caller there is what was asked on the links of the worker of that number, in order,
-- but for requests that were answered as exhausted; and nothing else. The journal that was found is closed, and nothing of the folder was changed.
pub record HasReadings {C : Type 0} (span : Span C) (keys : KeyPair) (shares : List (Share C)) : Type 0 where
  pub rows : Rows
  pub origin : Origin
  pub entries : List Entry
  pub caused : AreCaused (tally_at origin) entries
  pub viewed : Told span.given.folder.before.log (λ log. AreViewed rows entries)
  pub callers : (j : ℕ) → map (λ entry. entry.made.asked) (entries_of j entries) ≡ entered (asked_by shares j)
  pub drawn : AreAllDrawn entries 0 span.workers
  pub timed : AreAllTimed entries 0 span.workers
  pub in_time : (entered (all_asked shares) ≡ all_asked shares) ⊎ (turn_limit < most_tickets * length (all_asked shares))
  pub since : IsSince span origin
  pub up_to : IsUpTo (end_of span) (tally_of origin entries)
  pub unlocked : ℕ
  pub closed : Told span.given.folder.before.log (λ log. IsClosed (now log))
  pub clear : Told span.given.folder.before.log (λ log. IsFoundClear keys (now log) unlocked rows)
  pub second : Told span.given.second (λ second. unlocked ≡ second)
  pub read : IsOnlyRead span.given.folder.before span.given.folder.after

-- The vault was served to be read under the keys that were unlocked by a secret of this kind: of so many sessions, which so many workers share, each worker its
-- share, which ended so. `MayStop` is what may have kept a worker from its share.
pub record IsReadBy {D N C E K : Type 0} (views : Views D N C E K) (span : Span C) (kind : SecretKind) (sessions sharing : ℕ) (MayStop : WorkerSpan C → Type 0) (ends : List SessionEnd) : Type 0 where
  pub vault : UnlockedVault
  pub unlocked : IsUnlocked span.given kind vault
  pub shares : List (Share C)
  pub are : AreShares views.link MayStop sessions sharing 0 span.workers shares
  pub readings : HasReadings span vault.keys shares
  pub ended : all_ends shares ≡ ends

-- ---- behind the lock

-- a vault that is only read stands for a history over a folder that was so as the run began, under keys and from rows that the run may begin with
pub record IsSharedView {D : Type 0} (view : D → FolderView) (since : FolderView → KeyPair → Rows → Type 0) (vault : ReadOnlyVault D) (rows : Rows) (origin : Origin) (history : List Entry) : Type 0 where
  pub start : FolderView
  pub begins : since start vault.tree.keys rows
  pub stands : IsReadOnlyOf vault.tree (view vault.folder) rows origin history
  pub read : IsOnlyRead start (view vault.folder)

-- ---- where nothing failed

-- a request that changes nothing was answered as the step says, or memory ran out where it may
abbrev pub IsSteppedReading : Rows → Made → Type 0
IsSteppedReading rows made = IsReading made.asked.request
    → (answer_of made ≡ (step rows made.asked.request made.asked.second).answer)
    ⊎ ((answer_of made ≡ refuses refusals.OutOfMemory) × MayLackMemory made.asked.request)

abbrev pub AreSteppedReadings : Rows → List Entry → Type 0
AreSteppedReadings rows entries = AllByRecursion (λ entry. IsSteppedReading rows entry.made) entries
