-- What a vault that was served has done: each worker served its share of the sessions, and what was asked in all of them is one legal
-- history of the tree that the vault's disk stands for.
use Rattle.std.specs.Prelude.{◌≡◌, ◌⊎◌, ℕ, zero, suc, ◌*◌, ◌<◌, ◌≤◌, List, [], ◌∷◌, length, map, Option, Some, OnOk, OnErr, IsOk, IsSome, IsNone, ⊤}
use Rattle.outside.specs.Calls.{Changes, Told, Rose}
use Rattle.outside.specs.Images.{log_at, moment, now}
use Rattle.outside.specs.Views.{FolderView}
use Rattle.vault_keys.specs.Keys.{KeyPair}
use Rattle.tree_model.specs.Rows.{Rows}
use Rattle.tree_model.specs.Asked.{Asked, entered}
use Rattle.tree_model.specs.History.{Entry, entries_of, Origin, tally_at, tally_of, AreCaused, IsLegal, IsUpTo}
pub use Rattle.session_server.specs.Shares.{share_of, Share, IsShare, AreShares, all_ends}
use Rattle.session_server.specs.Timed.{IsTimed}
use Rattle.shared_tree.specs.Joined.{all_asked}
use Rattle.shared_tree.specs.Limits.{most_tickets}
use Rattle.turn_lock.specs.Limits.{turn_limit}
use Rattle.shared_tree.specs.Clients.{AreDrawnFor}
use Rattle.deeds.specs.Deeds.{LogGoesOn}
use Rattle.chunk_journal.specs.Journal.{AnyMoment, TidySince}
use Rattle.chunk_journal.specs.Opening.{HasOpened}
use Rattle.crash_laws.specs.Prefix.{StopsRecover, BeginningRecovers, IsWhole}
use Rattle.store_laws.specs.Store.{StoreView, ArePlaced, ArePlacedSince, HasRowsLeft, IsSaidFrom, IsStoreOf, moment_of, shows_under}
use Rattle.store_laws.specs.Turns.{IsFlushed, draws_for}
use Rattle.store_laws.specs.Ends.{IsFoundClear}
use Rattle.vault_store.specs.Open.{ClosedVault, idle_of}
use Rattle.vault_top.specs.Span.{WorkerSpan, Span}

-- ---- callers

-- what worker j was asked; nothing past the last
abbrev pub asked_by : {C : Type 0} → List (Share C) → ℕ → List Asked
asked_by [] j = []
asked_by (share ∷ shares) zero = share.asked
asked_by (share ∷ shares) (suc j) = asked_by shares j

-- ---- counts

-- the faults of worker j's random source, before and after; 0 past the last
abbrev pub entropy_before : {C : Type 0} → List (WorkerSpan C) → ℕ → ℕ
entropy_before [] j = 0
entropy_before (worker ∷ workers) zero = worker.entropy.before.faults
entropy_before (worker ∷ workers) (suc j) = entropy_before workers j

abbrev pub entropy_after : {C : Type 0} → List (WorkerSpan C) → ℕ → ℕ
entropy_after [] j = 0
entropy_after (worker ∷ workers) zero = worker.entropy.after.faults
entropy_after (worker ∷ workers) (suc j) = entropy_after workers j

-- no count of a history's origin is below what it was as the run began
pub record IsSince {C : Type 0} (span : Span C) (origin : Origin) : Type 0 where
  pub folder : span.given.folder.before.faults ≤ origin.folder_faults
  pub entropy : (j : ℕ) → entropy_before span.workers j ≤ origin.entropy_faults j
  pub moment : Told span.given.folder.before.log (λ log. moment log ≤ origin.moment)

-- the counts at which a run ended
abbrev pub end_of : {C : Type 0} → Span C → Origin
end_of span = record {
  folder_faults = span.given.folder.after.faults;
  entropy_faults = entropy_after span.workers;
  moment = moment_of span.given.folder.after.log;
}

-- ---- what was drawn

-- the random sources of the workers from number j on gave what the entries of these callers drew, in order
abbrev pub AreAllDrawn : {C : Type 0} → List Entry → ℕ → List (WorkerSpan C) → Type 0
AreAllDrawn entries j [] = ⊤
AreAllDrawn entries j (worker ∷ workers) =
    AreDrawnFor draws_for worker.entropy.before worker.entropy.after (map (λ entry. entry.made) (entries_of j entries)) × AreAllDrawn entries (suc j) workers

-- ---- at which seconds it was asked

-- the requests of the callers from number j on were made at seconds that their workers' clocks gave, in order
abbrev pub AreAllTimed : {C : Type 0} → List Entry → ℕ → List (WorkerSpan C) → Type 0
AreAllTimed entries j [] = ⊤
AreAllTimed entries j (worker ∷ workers) =
    IsTimed worker.clock.before worker.clock.after (map (λ entry. entry.made.asked) (entries_of j entries)) × AreAllTimed entries (suc j) workers

-- ---- the store behind the lock

-- the commit of what waited failed as a store was closed
pub record IsCutOff (store : StoreView) (before after : FolderView) : Type 0 where
  pub running : IsNone store.stopped
  pub moments : Changes before.log after.log (AnyMoment store.waiting)
  pub rose : Rose before.faults after.faults

-- How a store was closed: what waited was committed; or an earlier commit had failed, and nothing more was done; or this one failed. In memory it
-- is what it was, but that nothing waits.
pub record IsClosing {X : Type 0} (view : X → FolderView) (store : StoreView) (before : X) (closed : ClosedVault) (after : X) : Type 0 where
  pub later : (view before).faults ≤ (view after).faults
  pub idle : closed.store ≡ idle_of store
  pub well : OnOk closed.committed (IsFlushed store closed.store (view before) (view after))
  pub badly : OnErr closed.committed ((IsSome store.stopped × (after ≡ before)) ⊎ IsCutOff store (view before) (view after))

-- What waited was committed as it was closed, or an earlier commit had failed.
abbrev pub IsLeftWhole : ClosedVault → Type 0
IsLeftWhole closed = IsOk closed.committed ⊎ IsSome closed.store.stopped

-- The store that all callers asked is handed back, closed. As the lock gave it back, once all callers had left, it stood for these entries of all their turns over the
-- folder as it was then; closing it left the folder as the run did; and it stands for them on that, unless just the last commit failed. Each entry from a failed commit on
-- names the place that is taken by its tree in memory, which has the rows after the entries, or those with the change whose commit failed.
pub record IsHandedBack (keys : KeyPair) (rows : Rows) (origin : Origin) (entries : List Entry) (before after : FolderView) (handed : Option ClosedVault) : Type 0 where
  pub closed : ClosedVault
  pub is : handed ≡ Some closed
  pub keys_are : closed.store.keys ≡ keys
  pub store : StoreView
  pub folder : FolderView
  pub later : before.faults ≤ folder.faults
  pub stood : IsStoreOf before.log store folder rows origin entries
  pub closing : IsClosing (λ view. view) store folder closed after
  pub stands : IsLeftWhole closed → IsStoreOf before.log closed.store after rows origin entries
  pub placed_since : Told after.log (ArePlacedSince keys closed.store.live origin entries)
  pub left : Told after.log (λ _. IsSome (tally_of origin entries).stopped → HasRowsLeft closed.store rows entries)

-- ---- the history

-- What a stop leaves of a vault that was served under these keys with these entries. The folder's log goes on from the one that was found; a stop at
-- any moment, from the end of the opening on, and if the disk was found sound from the end of the opening's first sync on, recovers to a prefix of the history
-- that holds all that was synced; and up to the moment at which the history begins to a disk that shows the rows that it begins with. Each time what isn't the
-- vault's own is as it was found, also among its data. At each of these moments the changes since the last sync name the journal's two files alone, or paths that
-- the batch names which the journal holds.
pub record HasStops (keys : KeyPair) (rows : Rows) (origin : Origin) (entries : List Entry) (before after : FolderView) : Type 0 where
  pub grown : Changes before.log after.log LogGoesOn
  pub recover : Told after.log (λ log. (opened : ℕ) → IsSaidFrom before.log origin opened → StopsRecover (shows_under before.log keys) opened rows entries log)
  pub begun : Told after.log (λ log. (opened : ℕ) → IsSaidFrom before.log origin opened → BeginningRecovers (shows_under before.log keys) opened origin.moment rows log)
  pub tidy : Told after.log (λ log. (opened : ℕ) → IsSaidFrom before.log origin opened → TidySince opened log)

-- The entries of all callers are one history from the rows on that the folder recovers to, under these keys. Of each caller it has what was asked on the links of the worker of
-- that number, in order, but for requests that were answered as exhausted; and nothing else. One is answered so only if the most tickets that all requests may take are more than there are
-- turns. Each entry has its cause, and each caller's random source gave what its entries drew, in order, and its clock
-- the seconds at which they were asked. If the folder tells its log the history is legal, and each entry names the place that
-- is taken; and what a stop leaves follows it. It begins at a moment at which the journal that was found had been opened. It is the history for which the store that the lock gave back
-- stands, which is handed back.
pub record HasHistory {C : Type 0} (span : Span C) (keys : KeyPair) (shares : List (Share C)) : Type 0 where
  pub rows : Rows
  pub origin : Origin
  pub entries : List Entry
  pub caused : AreCaused (tally_at origin) entries
  pub legal : Told span.given.folder.before.log (λ log. IsLegal rows origin entries)
  pub placed : Told span.given.folder.after.log (ArePlaced keys rows origin entries)
  pub callers : (j : ℕ) → map (λ entry. entry.made.asked) (entries_of j entries) ≡ entered (asked_by shares j)
  pub drawn : AreAllDrawn entries 0 span.workers
  pub timed : AreAllTimed entries 0 span.workers
  pub in_time : (entered (all_asked shares) ≡ all_asked shares) ⊎ (turn_limit < most_tickets * length (all_asked shares))
  pub since : IsSince span origin
  pub up_to : IsUpTo (end_of span) (tally_of origin entries)
  pub unlocked : ℕ
  pub clear : Told span.given.folder.before.log (λ log. IsFoundClear keys (now log) unlocked rows)
  pub second : Told span.given.second (λ second. unlocked ≡ second)
  pub opened : Changes span.given.folder.before.log span.given.folder.after.log (λ old new. HasOpened old (log_at new origin.moment))
  pub handed_back : IsHandedBack keys rows origin entries span.given.folder.before span.given.folder.after span.closed
  pub stops : HasStops keys rows origin entries span.given.folder.before span.given.folder.after

-- all entries of a history are on the disk: it shows the rows after them, and so does what any stop leaves
abbrev pub IsOnDisk : {C : Type 0} {span : Span C} {keys : KeyPair} {shares : List (Share C)} → HasHistory span keys shares → Type 0
IsOnDisk {span = span} {keys = keys} history = Told span.given.folder.after.log (λ log. IsWhole (shows_under span.given.folder.before.log keys) history.rows history.entries log)
