-- What is handed back after serving.
use Rattle.std.proofs.Common.{◌≡◌, ◌⊎◌, ℕ, ◌≤◌, List, [], length, min, Option, Some, None, IsSome, IsNone, Result, Ok, Err, IsErr, OnOk, OnErr, refl, sym, ap, subst, inl, inr, true≢false}
use Rattle.std.specs.Prelude.{IfSome, option_map}
use Rattle.outside.specs.declared.stream.Failed.{Failed}
use Rattle.outside.specs.Calls.{Changes, Rose}
use Rattle.outside.specs.Views.{EntropyView, FolderView, LinkView, ListenerView}
use Rattle.chunk_journal.specs.Journal.{AnyMoment}
use Rattle.vault_keys.specs.Keys.{KeyPair}
use Rattle.tree_model.specs.Rows.{Rows}
use Rattle.tree_model.specs.History.{Entry, Made, Origin}
use Rattle.session_server.specs.declared.ending.SessionEnd.{SessionEnd}
use Rattle.session_server.specs.declared.counts.SessionCounts.{SessionCounts}
use Rattle.session_server.specs.Shares.{AreShares, all_ends}
use Rattle.session_server.specs.Workers.{MayStop}
use Rattle.shared_tree.specs.Workers as spans
use Rattle.shared_tree.specs.Joined.{IsJoined}
use Rattle.shared_tree.specs.declared.workers.Worker.{Worker}
use Rattle.shared_tree.specs.Turns.{StandsFor}
use Rattle.store_laws.specs.Turns.{IsFlushed, draws_for}
use Rattle.store_laws.specs.Store.{StoreView}
use Rattle.vault_store.specs.Open.{ClosedVault, OpenVault, idle_of}
use Rattle.vault_store.specs.ReadOnly.{ReadOnlyVault}
use Rattle.vault_top.specs.Span.{Views}
use Rattle.vault_top.specs.Sharing.{IsSharedStore}
use Rattle.vault_top.specs.Served.{IsClosing, IsCutOff}
use Rattle.vault_top.specs.Serving.{HasOutcome, HasServed, IsUnasked}
use Rattle.vault_top.specs.ReadOnly.{IsSharedView}
use Rattle.vault_top.specs.Viewing.{HasReadOutcome, HasViewed, IsUnaskedView}
use Rattle.vault_top.specs.declared.serving.HandedBack.{HandedBack}
use Rattle.vault_top.specs.declared.viewing.ReadBack.{ReadBack}
use Rattle.vault_top.specs.declared.task.Service.{Service}

-- what holds of the folder of a vault that is left
left_as : {V D : Type 0} (folder_of : V → D) (P : V → Type 0) (Q : D → Type 0) → ((vault : V) → P vault → Q (folder_of vault)) → (left : Option V) (folder : Option D) → folder ≡ option_map folder_of left → IfSome left P → IfSome folder Q
left_as folder_of P Q then None folder same h = subst (λ (o : Option _). IfSome o Q) (sym same) tt
left_as folder_of P Q then (Some vault) folder same h = subst (λ (o : Option _). IfSome o Q) (sym same) (then vault h)

-- the folder of a store that stood for no entries, if it is left
pub unasked : {V D : Type 0} (store_of : V → OpenVault D) (view : D → FolderView) (start : Rows → Origin → Type 0) (since : FolderView → KeyPair → Rows → Type 0) (left : Option V) (folder : Option D)
    → folder ≡ option_map (λ vault. (store_of vault).folder) left
    → IfSome left (λ vault. StandsFor start (λ v rows origin history. IsSharedStore view since (store_of v) rows origin history) vault [])
    → IfSome folder (IsUnasked view start since)
unasked store_of view start since left folder same h =
    left_as (λ vault. (store_of vault).folder) (λ vault. StandsFor start (λ v rows origin history. IsSharedStore view since (store_of v) rows origin history) vault []) (IsUnasked view start since)
    (λ vault stood. record { rows = stood.rows; origin = stood.origin; begins = stood.begins; store = (store_of vault).store; threshold = (store_of vault).threshold; shared = stood.right })
    left folder same h

-- and of one that is only read
pub unasked_view : {V D : Type 0} (vault_of : V → ReadOnlyVault D) (view : D → FolderView) (start : Rows → Origin → Type 0) (since : FolderView → KeyPair → Rows → Type 0) (left : Option V) (folder : Option D)
    → folder ≡ option_map (λ vault. (vault_of vault).folder) left
    → IfSome left (λ vault. StandsFor start (λ v rows origin history. IsSharedView view since (vault_of v) rows origin history) vault [])
    → IfSome folder (IsUnaskedView view start since)
unasked_view vault_of view start since left folder same h =
    left_as (λ vault. (vault_of vault).folder) (λ vault. StandsFor start (λ v rows origin history. IsSharedView view since (vault_of v) rows origin history) vault []) (IsUnaskedView view start since)
    (λ vault stood. record { rows = stood.rows; origin = stood.origin; begins = stood.begins; vault = vault_of vault; folder_is = refl; shared = stood.right })
    left folder same h

-- what was joined over a tree, of what that stood for
joined_as : {T X N E K C : Type 0} {stands : T → Rows → Origin → List Entry → Type 0} {stands' : X → Rows → Origin → List Entry → Type 0} {draws : Option (List ℕ) → Option (List ℕ) → Made → Type 0} {listener : N → ListenerView C} {entropy : E → EntropyView}
    {link : C → LinkView} {clock : K → Option (ℕ → ℕ)} {sessions at_once at_once' : ℕ} {rows : Rows} {origin : Origin} {tree : T} {vault : X} {workers workers' : List (Worker N E K)} {counts : Result SessionCounts Failed}
    → at_once ≡ at_once' → ((history : List Entry) → stands tree rows origin history → stands' vault rows origin history)
    → IsJoined stands draws listener entropy link clock sessions at_once rows origin tree workers workers' counts → IsJoined stands' draws listener entropy link clock sessions at_once' rows origin vault workers workers' counts
joined_as {listener = listener} {entropy = entropy} {link = link} {clock = clock} {sessions = sessions} {workers = workers} {workers' = workers'} {counts = counts} few shared j = record {
  count = j.count;
  entries = j.entries;
  right = shared j.entries j.right;
  shares = j.shares;
  are = subst (λ (m : ℕ). AreShares link (MayStop counts) sessions m 0 (spans.worker_spans listener entropy clock workers workers') j.shares) few j.are;
  counted = j.counted;
  failed = j.failed;
  callers = j.callers;
  no_others = j.no_others;
  in_time = j.in_time;
}

-- a tree that stood for what a store did was served, and the store was closed
pub record ServedTree {T D N C E K : Type 0} (stands : T → Rows → Origin → List Entry → Type 0) (start : Rows → Origin → Type 0)
    (since : FolderView → KeyPair → Rows → Type 0) (views : Views D N C E K) (service : Service) (workers workers' : List (Worker N E K))
    (back : HandedBack D) : Type 0 where
  pub tree : T
  pub store : OpenVault D
  pub counts : Result SessionCounts Failed
  pub at_once : ℕ
  pub few : at_once ≡ min service.at_once (length workers)
  pub joined : (rows : Rows) × (origin : Origin) × start rows origin × IsJoined stands draws_for views.listener views.entropy views.link
      views.clock service.sessions at_once rows origin tree workers workers' counts
  pub shared : (rows : Rows) (origin : Origin) (history : List Entry) → stands tree rows origin history
      → IsSharedStore views.folder since store rows origin history
  pub folder : D
  pub folder_is : back.folder ≡ Some folder
  pub closed : ClosedVault
  pub closed_is : back.store ≡ Some closed
  pub closing : IsClosing views.folder store.store store.folder closed folder
  pub outcome : HasOutcome counts closed.committed back.outcome

pub served_all : {T D N C E K : Type 0} {stands : T → Rows → Origin → List Entry → Type 0} {start : Rows → Origin → Type 0}
    {since : FolderView → KeyPair → Rows → Type 0} {views : Views D N C E K} {service : Service} {workers workers' : List (Worker N E K)}
    {back : HandedBack D} → ServedTree stands start since views service workers workers' back
    → (ends : List SessionEnd) × HasServed start since views service workers workers' ends back
unfolding joined_as
served_all is =
    let rows = is.joined.0 in
    let origin = is.joined.1 in (
      all_ends is.joined.3.shares,
      inl (record {
        rows = rows;
        origin = origin;
        begins = is.joined.2;
        store = is.store;
        counts = is.counts;
        joined = joined_as is.few (is.shared rows origin) is.joined.3;
        ended = refl;
        folder = is.folder;
        folder_is = is.folder_is;
        closed = is.closed;
        closed_is = is.closed_is;
        closing = is.closing;
        outcome = is.outcome;
      }),
    )

-- a tree that stood for what a vault answered that is only read was served
pub record ServedView {T D N C E K : Type 0} (stands : T → Rows → Origin → List Entry → Type 0) (start : Rows → Origin → Type 0)
    (since : FolderView → KeyPair → Rows → Type 0) (views : Views D N C E K) (service : Service) (workers workers' : List (Worker N E K))
    (back : ReadBack D) : Type 0 where
  pub tree : T
  pub vault : ReadOnlyVault D
  pub counts : Result SessionCounts Failed
  pub at_once : ℕ
  pub few : at_once ≡ min service.at_once (length workers)
  pub joined : (rows : Rows) × (origin : Origin) × start rows origin × IsJoined stands draws_for views.listener views.entropy views.link
      views.clock service.sessions at_once rows origin tree workers workers' counts
  pub shared : (rows : Rows) (origin : Origin) (history : List Entry) → stands tree rows origin history
      → IsSharedView views.folder since vault rows origin history
  pub folder_is : back.folder ≡ Some vault.folder
  pub outcome : HasReadOutcome counts back.outcome

pub viewed_all : {T D N C E K : Type 0} {stands : T → Rows → Origin → List Entry → Type 0} {start : Rows → Origin → Type 0}
    {since : FolderView → KeyPair → Rows → Type 0} {views : Views D N C E K} {service : Service} {workers workers' : List (Worker N E K)}
    {back : ReadBack D} → ServedView stands start since views service workers workers' back
    → (ends : List SessionEnd) × HasViewed start since views service workers workers' ends back
unfolding joined_as
viewed_all is =
    let rows = is.joined.0 in
    let origin = is.joined.1 in (
      all_ends is.joined.3.shares,
      inl (record {
        rows = rows;
        origin = origin;
        begins = is.joined.2;
        vault = is.vault;
        counts = is.counts;
        joined = joined_as is.few (is.shared rows origin) is.joined.3;
        ended = refl;
        folder_is = is.folder_is;
        outcome = is.outcome;
      }),
    )

-- how the store was closed
pub closing_of : {D : Type 0} (view : D → FolderView) (vault : OpenVault D) (closed : ClosedVault) (folder : D) → (view vault.folder).faults ≤ (view folder).faults → closed.store ≡ idle_of vault.store
    → (IsNone vault.store.stopped → OnOk closed.committed (IsFlushed vault.store (idle_of vault.store) (view vault.folder) (view folder)))
    → (IsSome vault.store.stopped → (folder ≡ vault.folder) × IsErr closed.committed) → (IsNone vault.store.stopped → Changes (view vault.folder).log (view folder).log (AnyMoment vault.store.waiting))
    → (IsErr closed.committed → IsSome vault.store.stopped ⊎ Rose (view vault.folder).faults (view folder).faults) → IsClosing view vault.store vault.folder closed folder
closing_of view vault closed folder later idle flushed stopped moments cause = record {
  later = later;
  idle = idle;
  well = subst (λ (s : StoreView). OnOk closed.committed (IsFlushed vault.store s (view vault.folder) (view folder))) (sym idle) (well closed.committed flushed stopped);
  badly = badly closed.committed stopped moments cause;
}
  where
    some_or_none : (o : Option ℕ) → IsNone o ⊎ IsSome o
    some_or_none None = inl refl
    some_or_none (Some n) = inr refl

    well : (r : Result (Unit {0}) Failed) → (IsNone vault.store.stopped → OnOk r (IsFlushed vault.store (idle_of vault.store) (view vault.folder) (view folder)))
        → (IsSome vault.store.stopped → (folder ≡ vault.folder) × IsErr r) → OnOk r (IsFlushed vault.store (idle_of vault.store) (view vault.folder) (view folder))
    well (Ok done) flushed stopped = elim (some_or_none vault.store.stopped) [
      | inl none ↦ flushed none
      | inr some ↦ absurd (true≢false (sym (stopped some).1))
    ]
    well (Err failed) flushed stopped = tt

    badly : (r : Result (Unit {0}) Failed) → (IsSome vault.store.stopped → (folder ≡ vault.folder) × IsErr r) → (IsNone vault.store.stopped → Changes (view vault.folder).log (view folder).log (AnyMoment vault.store.waiting))
        → (IsErr r → IsSome vault.store.stopped ⊎ Rose (view vault.folder).faults (view folder).faults) → OnErr r ((IsSome vault.store.stopped × (folder ≡ vault.folder)) ⊎ IsCutOff vault.store (view vault.folder) (view folder))
    badly (Ok done) stopped moments cause = tt
    badly (Err failed) stopped moments cause = elim (some_or_none vault.store.stopped) [
      | inr some ↦ inl (some, (stopped some).0)
      | inl none ↦ elim (cause refl) [
        | inl some ↦ inl (some, (stopped some).0)
        | inr rose ↦ inr (record { running = none; moments = moments none; rose = rose })
      ]
    ]

-- the same as its folder's views show it
pub seen_closing : {D : Type 0} (view : D → FolderView) (store : StoreView) (before : D) (closed : ClosedVault) (after : D) → IsClosing view store before closed after → IsClosing (λ v. v) store (view before) closed (view after)
seen_closing view store before closed after is = record { later = is.later; idle = is.idle; well = is.well; badly = seen closed.committed is.badly }
  where
    seen : (r : Result (Unit {0}) Failed) → OnErr r ((IsSome store.stopped × (after ≡ before)) ⊎ IsCutOff store (view before) (view after))
        → OnErr r ((IsSome store.stopped × (view after ≡ view before)) ⊎ IsCutOff store (view before) (view after))
    seen (Ok done) is = tt
    seen (Err failed) (inl same) = inl (same.0, ap view same.1)
    seen (Err failed) (inr cut) = inr cut
