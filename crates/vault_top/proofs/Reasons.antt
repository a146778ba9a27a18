-- Why the program ends as it does.
use Rattle.std.proofs.Common.{◌≡◌, ◌⊎◌, ℕ, suc, ◌≤◌, true, false, List, [], ◌∷◌, length, min, Option, Some, None, IsSome, IsNone, Result, IsOk, IsErr, refl, sym, ap, subst, ◌∙◌, inl, inr, arith}
use Rattle.std.specs.Prelude.{IfSome}
use Rattle.outside.specs.declared.stream.Failed.{Failed}
use Rattle.outside.specs.Calls.{Changes, Rose, Told}
use Rattle.outside.specs.Images.{Log, now}
use Rattle.outside.specs.Views.{FolderView}
use Rattle.vault_keys.specs.Keys.{KeyPair}
use Rattle.tree_model.specs.Rows.{Rows}
use Rattle.tree_model.specs.History.{Entry, Origin, tally_of}
use Rattle.session_server.specs.declared.ending.SessionEnd.{SessionEnd}
use Rattle.session_server.specs.declared.counts.SessionCounts.{SessionCounts}
use Rattle.session_server.specs.Workers.{MayStop, ListenerFailed, SomeFailed}
use Rattle.shared_tree.specs.declared.workers.Worker.{Worker}
use Rattle.crash_laws.specs.Prefix.{IsWhole}
use Rattle.store_laws.specs.Store.{StoreView, ArePlacedSince, IsStoreOf, moment_of, shows_under}
use Rattle.store_laws.specs.Ends.{IsFoundClear}
use Rattle.unlocking.specs.Secret.{IsAfterLine}
use Rattle.unlocking.specs.FromFiles.{UnlockedVault}
use Rattle.unlocking.specs.declared.from_folder.SecretKind.{SecretKind}
use Rattle.vault_store.specs.Open.{ClosedVault, OpenVault}
use Rattle.vault_words.specs.Jobs.{Serving, serve}
use Rattle.vault_top.specs.declared.cause.Cause.{Cause}
use Rattle.vault_top.specs.declared.cause.Cause.TheVariants.{Words, Memory}
use Rattle.vault_top.specs.Words.{Ask, AreRefused, kind_of, sessions_of, sharers}
use Rattle.vault_top.specs.Tasks.{IsServiceOf}
use Rattle.vault_top.specs.Span.{Course, SourceView, SinkView, Views, WorkerSpan, Span, worker_spans, given_of, span_of}
use Rattle.vault_top.specs.Served.{AreShares, IsClosing, IsHandedBack, Share}
use Rattle.vault_top.specs.Sharing.{IsSharedStore, AreBeginnings, IsBegun, IsAlone}
use Rattle.vault_top.specs.Opening.{IsUnlocked, IsUnopened, IsUnread, IsUnlockedStore}
use Rattle.vault_top.specs.Ending.{Ending, refused, no_memory_to_serve, served, listener_fault, closing_fault, no_memory_to_report, AreIdle, IsUntouched, IsServed, IsServedTo, IsClosedWell, IsUnshared, Never, HasReason, IsReported, IsStoreLeft, HasRun}
use Rattle.vault_top.specs.Serving.{HasOutcome, HasServedAll, HasServed, HasServedVault, IsUnasked, MayEnd}
use Rattle.vault_top.specs.declared.program.Ended.{Ended}
use Rattle.vault_top.specs.declared.serving.HandedBack.{HandedBack}
use Rattle.vault_top.specs.declared.serving.Outcome.{Outcome}
use Rattle.vault_top.specs.declared.serving.Outcome.TheVariants.{Served, ListenerFault, FolderFault, NoMemory}
use Rattle.vault_top.specs.declared.task.Service.{Service}
use Rattle.vault_top.proofs.Handed.{seen_closing}
use Rattle.vault_top.proofs.Left.{Leaves, closed_since, closed_stands, failed_closed, left_by, left_closed, none_failed, stops_nowhere, whole_closed}
use Rattle.vault_top.proofs.Callers.{have_asked, spans_count}
use Rattle.vault_top.proofs.Shares.{shares_as, may_stop, on_error}

-- ---- workers that did nothing

pub idle : {D N C E K : Type 0} (views : Views D N C E K) (workers : List (Worker N E K)) → AreIdle (worker_spans views workers workers)
idle views [] = tt
idle views (worker ∷ workers) = ((refl, refl, refl), idle views workers)

-- ---- a vault that was served

-- what was found clear under the keys that were unlocked
pub found_clear : {kind : SecretKind} {found : FolderView} {secret : SourceView} {second : Option ℕ} {start : FolderView} {keys : KeyPair} {rows : Rows} (begun : IsBegun kind found secret second start keys rows)
    → Told found.log (λ log. IsFoundClear begun.vault.keys (now log) begun.unlocked rows)
found_clear {found = found} {rows = rows} begun = subst (λ (keys : KeyPair). Told found.log (λ log. IsFoundClear keys (now log) begun.unlocked rows)) (sym begun.keys_are) begun.clear

-- where a store's history begins is the folder as it was found, under the keys that were unlocked
module _ {D : Type 0} {since : FolderView → KeyPair → Rows → Type 0} {view : D → FolderView} {kind : SecretKind} {secret : SourceView} {second : Option ℕ} {found : FolderView} {store : OpenVault D} {rows : Rows} {origin : Origin} {entries : List Entry}
    (right : IsSharedStore view since store rows origin entries) (begun : IsBegun kind found secret second right.start store.store.keys rows) where
  -- the same of the folder as it was, and under those keys
  begins_at : (after : FolderView) → Leaves store.store.keys rows origin entries right.start after → Leaves begun.vault.keys rows origin entries found after
  begins_at after left =
      subst (λ (keys : KeyPair). Leaves keys rows origin entries found after) (sym begun.keys_are)
      (subst (λ (v : FolderView). Leaves store.store.keys rows origin entries v after) begun.folder_is left)

  leaves : Leaves begun.vault.keys rows origin entries found (view store.folder)
  leaves = begins_at (view store.folder) (left_by right.start (view store.folder) store.store rows origin entries right.stands)

  later : found.faults ≤ (view store.folder).faults
  later = subst (λ (v : FolderView). v.faults ≤ (view store.folder).faults) begun.folder_is right.faults

  -- of a vault that was closed
  module _ {kept : D} {closed : ClosedVault} (how : IsClosing view store.store store.folder closed kept) where
    seen : IsClosing (λ v. v) store.store (view store.folder) closed (view kept)
    seen = seen_closing view store.store store.folder closed kept how

    leaves_closed : Leaves begun.vault.keys rows origin entries found (view kept)
    leaves_closed = begins_at (view kept) (left_closed right.start right.stands seen)

    none_closed : IsOk closed.committed → IsNone (tally_of origin entries).stopped
    none_closed = none_failed right.start right.stands seen

    whole_under : IsOk closed.committed → Told (view kept).log (λ log. IsWhole (shows_under found.log begun.vault.keys) rows entries log)
    whole_under ok =
        subst (λ (keys : KeyPair). Told (view kept).log (λ log. IsWhole (shows_under found.log keys) rows entries log)) (sym begun.keys_are)
        (subst (λ (v : FolderView). Told (view kept).log (λ log. IsWhole (shows_under v.log store.store.keys) rows entries log)) begun.folder_is (whole_closed right.start right.stands seen ok))

    failed_under : IsErr closed.committed → IsSome (tally_of origin entries).stopped ⊎ Rose (tally_of origin entries).folder_faults (view kept).faults
    failed_under = failed_closed right.start right.stands seen

    keys_closed : closed.store.keys ≡ begun.vault.keys
    keys_closed = ap (λ (s : StoreView). s.keys) how.idle ∙ sym begun.keys_are

    -- the closed store, which is handed back
    handed : {back : Option ClosedVault} → back ≡ Some closed → IsHandedBack begun.vault.keys rows origin entries found (view kept) back
    handed is = record {
      closed = closed;
      is = is;
      keys_are = keys_closed;
      store = store.store;
      folder = view store.folder;
      later = later;
      stood = subst (λ (v : FolderView). IsStoreOf v.log store.store (view store.folder) rows origin entries) begun.folder_is right.stands;
      closing = seen;
      stands = λ whole. subst (λ (v : FolderView). IsStoreOf v.log closed.store (view kept) rows origin entries) begun.folder_is (closed_stands right.start right.stands seen whole);
      placed_since = subst (λ (keys : KeyPair). Told (view kept).log (ArePlacedSince keys closed.store.live origin entries)) keys_closed (closed_since right.start right.stands seen).0;
      left = (closed_since right.start right.stands seen).1;
    }

-- every worker served its share of a vault that was closed well
pub record HasServedWell {D N C E K : Type 0} (views : Views D N C E K) (span : Span C) (kind : SecretKind) (sessions sharing : ℕ) (ends : List SessionEnd) (entries : ℕ) : Type 0 where
  pub served : IsServedTo views span kind sessions sharing Never ends
  pub closed : IsClosedWell served.history
  pub count : length served.history.entries ≡ entries

-- a service begins: where its history may, and with the secret's line taken
pub record Beginning {D N C E K : Type 0} (start : Rows → Origin → Type 0) (since : FolderView → KeyPair → Rows → Type 0) (views : Views D N C E K) (secret : Course SourceView) (second : Option ℕ) (folder : D) (service : Service) (workers : List (Worker N E K)) : Type 0 where
  pub starts : AreBeginnings start views folder workers
  pub alone : IsAlone since service.kind (views.folder folder) secret.before second
  pub line : Changes secret.before.left secret.after.left IsAfterLine

-- a service that has ended, of whatever words
module _ {D N C E K : Type 0} {start : Rows → Origin → Type 0} {since : FolderView → KeyPair → Rows → Type 0} {views : Views D N C E K} {secret : Course SourceView} {second : Option ℕ} {folder : D} {service : Service}
    {workers workers' : List (Worker N E K)} {ends : List SessionEnd} {back : HandedBack D} (beginning : Beginning start since views secret second folder service workers) (h : HasServedAll start since views service workers workers' ends back) where
  -- how it began
  abbrev begun_as : IsBegun service.kind (views.folder folder) secret.before second h.joined.right.start h.store.store.keys h.rows
  begun_as = beginning.alone.only h.joined.right.start h.store.store.keys h.rows h.joined.right.begins

  served_to : (words : List (List ℕ)) {closed : Option ClosedVault} → closed ≡ back.store → (P : WorkerSpan C → Type 0) → ((worker : WorkerSpan C) → MayStop h.counts worker → P worker)
      → IsServedTo views (span_of views words secret second folder h.folder workers workers' closed) service.kind service.sessions (min service.at_once (length workers)) P ends
  served_to words closed_is P only =
      let joined = h.joined in
      let begins = beginning.starts.only h.rows h.origin h.begins in
      let begun = begun_as in
      let left = leaves_closed joined.right begun h.closing in
      let own = have_asked views begins.entropy_faults joined in
      record {
        vault = begun.vault;
        unlocked = record { gave = begun.gave; line = beginning.line };
        shares = joined.shares;
        are = shares_as views.link (MayStop h.counts) P service.sessions (min service.at_once (length workers)) 0 (worker_spans views workers workers') joined.shares only joined.are;
        history = record {
          rows = h.rows;
          origin = h.origin;
          entries = joined.entries;
          caused = left.caused;
          legal = left.legal;
          placed = left.placed;
          callers = own.callers;
          drawn = own.drawn;
          timed = own.timed;
          in_time = joined.in_time;
          since = record { folder = (let e = begins.folder_faults in omega arith); entropy = own.since; moment = begins.moment };
          up_to = record { folder = left.faults; entropy = own.up_to; moment = left.moment };
          unlocked = begun.unlocked;
          clear = found_clear begun;
          second = begun.at_second;
          opened = left.opened;
          handed_back = handed joined.right begun h.closing (closed_is ∙ h.closed_is);
          stops = left.stops;
        };
        ended = h.ended;
      }

  -- if it was closed well, no commit failed, and all entries are on the disk
  none_in : IsOk h.closed.committed → IsNone (tally_of h.origin h.joined.entries).stopped
  none_in = none_closed h.joined.right begun_as h.closing

  whole_in : IsOk h.closed.committed → Told (views.folder h.folder).log (λ log. IsWhole (shows_under (views.folder folder).log begun_as.vault.keys) h.rows h.joined.entries log)
  whole_in = whole_under h.joined.right begun_as h.closing

  pub served_well : (words : List (List ℕ)) {closed : Option ClosedVault} → closed ≡ back.store → ((worker : WorkerSpan C) → MayStop h.counts worker → Never worker) → IsOk h.closed.committed
      → HasServedWell views (span_of views words secret second folder h.folder workers workers' closed) service.kind service.sessions (min service.at_once (length workers)) ends (length h.joined.entries)
  unfolding served_to handed
  served_well words closed_is only ok = record { served = served_to words closed_is Never only; closed = record { closed = ok; running = none_in ok; on_disk = whole_in ok }; count = refl }

  failed_in : IsErr h.closed.committed → IsSome (tally_of h.origin h.joined.entries).stopped ⊎ Rose (tally_of h.origin h.joined.entries).folder_faults (views.folder h.folder).faults
  failed_in = failed_under h.joined.right begun_as h.closing

-- ---- a run

pub run_as : {D N C E K : Type 0} {views : Views D N C E K} {words : List (List ℕ)} {secret : Course SourceView} {second : Option ℕ} {folder : D} {a b a' b' : List (Worker N E K)} {sink : Course SinkView} {ended : Ended D}
    → a ≡ b → a' ≡ b' → HasRun views words secret second folder b b' sink ended → HasRun views words secret second folder a a' sink ended
run_as e f h = rw (e, f) h

none_left : (ending : Ending) (store : Option ClosedVault) → ending ≡ no_memory_to_serve → store ≡ None → IsStoreLeft ending store
none_left ending store is gone = subst (λ (e : Ending). IsStoreLeft e store) (sym is) (subst (λ (o : Option ClosedVault). IsNone o) (sym gone) refl)

some_in : (ending other : Ending) (store : Option ClosedVault) (closed : ClosedVault) → ending ≡ other → (IsSome store → IsStoreLeft other store) → store ≡ Some closed → IsStoreLeft ending store
some_in ending other store closed e left is = subst (λ (x : Ending). IsStoreLeft x store) (sym e) (left (subst (λ (o : Option ClosedVault). IsSome o) (sym is) refl))

some_left : (ends : List SessionEnd) (outcome : Outcome) (ending : Ending) (counts : Result SessionCounts Failed) (committed : Result (Unit {0}) Failed) (store : Option ClosedVault) (closed : ClosedVault) → HasOutcome counts committed outcome → MayEnd ends outcome ending → store ≡ Some closed → IsStoreLeft ending store
some_left ends (Served c) ending counts committed store closed h (inl e) is = some_in ending (served ends) store closed e (λ some. some) is
some_left ends (Served c) ending counts committed store closed h (inr e) is = some_in ending (no_memory_to_report ends) store closed e (λ some. some) is
some_left ends ListenerFault ending counts committed store closed h e is = some_in ending (listener_fault ends) store closed e (λ some. some) is
some_left ends FolderFault ending counts committed store closed h e is = some_in ending (closing_fault ends) store closed e (λ some. some) is
some_left ends NoMemory ending counts committed store closed h e is = absurd h

-- the words ask for a service, which begins
pub record AskedFor {D N C E K : Type 0} (start : Rows → Origin → Type 0) (since : FolderView → KeyPair → Rows → Type 0) (views : Views D N C E K) (words : List (List ℕ)) (secret : Course SourceView) (second : Option ℕ) (folder : D) (service : Service) (workers : List (Worker N E K)) : Type 0 where
  pub serving : Serving
  pub words_are : Ask words (serve serving)
  pub same : IsServiceOf serving service
  pub beginning : Beginning start since views secret second folder service workers

module _ {D N C E K : Type 0} {start : Rows → Origin → Type 0} {since : FolderView → KeyPair → Rows → Type 0} {views : Views D N C E K} {words : List (List ℕ)} {secret : Course SourceView} {second : Option ℕ} {folder : D} {service : Service}
    {workers : List (Worker N E K)} (asked : AskedFor start since views words secret second folder service workers) where
  -- by the kind of secret that the words name
  pub unlocked_as : (kept : D) (vault : UnlockedVault) → IsUnlocked (given_of views.folder secret second folder kept) service.kind vault → IsUnlocked (given_of views.folder secret second folder kept) (kind_of asked.serving) vault
  unlocked_as kept vault = subst (λ (k : SecretKind). IsUnlocked (given_of views.folder secret second folder kept) k vault) asked.same.kind

  -- so many sessions as the words say, and so many workers that share them
  pub shared_as : (workers' : List (Worker N E K)) (P : WorkerSpan C → Type 0) (shares : List (Share C)) → length workers' ≡ length workers
      → AreShares views.link P service.sessions (min service.at_once (length workers)) 0 (worker_spans views workers workers') shares
      → AreShares views.link P (sessions_of asked.serving) (sharers asked.serving (length (worker_spans views workers workers'))) 0 (worker_spans views workers workers') shares
  shared_as workers' P shares count =
      let many : length (worker_spans views workers workers') ≡ length workers = spans_count views workers workers' count in
      subst (λ (p : ℕ × ℕ). AreShares views.link P p.0 p.1 0 (worker_spans views workers workers') shares) (λ i. (asked.same.sessions i, min (asked.same.at_once i) (sym many i)))

-- a vault was opened for a service, as the words say
pub record OpenedFor {D N C E K : Type 0} (start : Rows → Origin → Type 0) (since : FolderView → KeyPair → Rows → Type 0) (views : Views D N C E K) (words : List (List ℕ)) (secret : Course SourceView) (second : Option ℕ) (folder : D) (service : Service) (workers : List (Worker N E K)) : Type 0 where
  pub asked : AskedFor start since views words secret second folder service workers
  pub writes : asked.serving.read_only ≡ false
  pub store : OpenVault D
  pub unlocked : IsUnlockedStore views.folder (given_of views.folder secret second folder folder) service.kind folder store

module _ {D N C E K : Type 0} {start : Rows → Origin → Type 0} {since : FolderView → KeyPair → Rows → Type 0} {views : Views D N C E K} {words : List (List ℕ)} {secret : Course SourceView} {second : Option ℕ} {folder : D} {service : Service}
    {workers : List (Worker N E K)} (opened : OpenedFor start since views words secret second folder service workers) where
  open opened use {asked, unlocked, writes}

  -- there was no memory to serve, and the folder is left
  unshared_kept : {kept : D} (closed : Option ClosedVault) → IsUnasked views.folder start since kept → IsUnshared (span_of views words secret second folder kept workers workers closed)
  unshared_kept {kept} closed h =
      let begun = asked.beginning.alone.only h.shared.start h.store.keys h.rows h.shared.begins in
      record {
        serving = asked.serving;
        words = asked.words_are;
        writes = writes;
        vault = begun.vault;
        unlocked = unlocked_as asked kept begun.vault (record { gave = begun.gave; line = asked.beginning.line });
        rows = h.rows;
        origin = h.origin;
        opened = begun.unlocked;
        clear = found_clear begun;
        second = begun.at_second;
        stops = (leaves h.shared begun).stops;
        later = later h.shared begun;
        idle = idle views workers;
      }

  -- and if it isn't, nothing is said of it
  unshared_lost : (closed : Option ClosedVault) → IsUnshared (span_of views words secret second folder folder workers workers closed)
  unshared_lost closed =
      let origin : Origin = record { folder_faults = 0; entropy_faults = λ j. 0; moment = suc (moment_of (views.folder folder).log) } in
      record {
        serving = asked.serving;
        words = asked.words_are;
        writes = writes;
        vault = unlocked.vault;
        unlocked = unlocked_as asked folder unlocked.vault unlocked.unlocked;
        rows = unlocked.opened.rows;
        origin = origin;
        opened = unlocked.now;
        clear = subst (λ (l : Option Log). Told l (λ log. IsFoundClear unlocked.vault.keys (now log) unlocked.now unlocked.opened.rows)) unlocked.read.log unlocked.opened.clear;
        second = unlocked.second;
        stops = stops_nowhere unlocked.vault.keys unlocked.opened.rows origin (views.folder folder) refl;
        later = omega arith;
        idle = idle views workers;
      }

  run_unshared : {sink : Course SinkView} {ended : Ended D} {ending : Ending} (left : Option D) → IfSome left (λ kept. IsUnasked views.folder start since kept) → ending ≡ no_memory_to_serve → ended.folder ≡ left → ended.store ≡ None
      → IsReported sink ending ended.status → HasRun views words secret second folder workers workers sink ended
  run_unshared {ended = ended} {ending = ending} (Some kept) h is left gone reported = record {
    ending = ending;
    kept = kept;
    folder_is = inl left;
    store_is = none_left ending ended.store is gone;
    count = refl;
    reason = rw is (unshared_kept ended.store h);
    reported = reported;
  }
  run_unshared {ended = ended} {ending = ending} None h is left gone reported = record {
    ending = ending;
    kept = folder;
    folder_is = inr (left, inl is);
    store_is = none_left ending ended.store is gone;
    count = refl;
    reason = rw is (unshared_lost ended.store);
    reported = reported;
  }

  module _ {workers' : List (Worker N E K)} {ends : List SessionEnd} {back : HandedBack D} (h : HasServedAll start since views service workers workers' ends back) where
    -- as these words say
    served_of : {closed : Option ClosedVault} → closed ≡ back.store → (P : WorkerSpan C → Type 0) → ((worker : WorkerSpan C) → MayStop h.counts worker → P worker)
        → IsServed views (span_of views words secret second folder h.folder workers workers' closed) P ends
    served_of closed_is P only =
        let to = served_to asked.beginning h words closed_is P only in
        record {
          serving = asked.serving;
          words = asked.words_are;
          writes = writes;
          sessions = record {
            vault = to.vault;
            unlocked = unlocked_as asked h.folder to.vault to.unlocked;
            shares = to.shares;
            are = shared_as asked workers' P to.shares h.joined.count to.are;
            history = to.history;
            ended = to.ended;
          };
        }

    reason_of : {closed : Option ClosedVault} → closed ≡ back.store → (outcome : Outcome) (ending : Ending) → HasOutcome h.counts h.closed.committed outcome → MayEnd ends outcome ending
        → HasReason views (span_of views words secret second folder h.folder workers workers' closed) ending
    unfolding served_of served_to handed
    reason_of closed_is (Served c) ending is (inl e) = rw e (
      served_of closed_is Never (λ worker stop. subst (λ (r : Result SessionCounts Failed). MayStop r worker) is.0 stop),
      record { closed = is.1; running = none_in asked.beginning h is.1; on_disk = whole_in asked.beginning h is.1 },
    )
    reason_of closed_is (Served c) ending is (inr e) = rw e (served_of closed_is ListenerFailed (may_stop h.counts), record { closed = is.1; running = none_in asked.beginning h is.1; on_disk = whole_in asked.beginning h is.1 })
    reason_of closed_is ListenerFault ending is e = rw e (
      served_of closed_is ListenerFailed (may_stop h.counts),
      on_error h.counts (SomeFailed (worker_spans views workers workers')) is.0 h.joined.failed,
      record { closed = is.1; running = none_in asked.beginning h is.1; on_disk = whole_in asked.beginning h is.1 },
    )
    reason_of closed_is FolderFault ending is e = rw e (served_of closed_is ListenerFailed (may_stop h.counts), record { failed = is; cause = failed_in asked.beginning h is })
    reason_of closed_is NoMemory ending is e = absurd is

  run_of : {workers' : List (Worker N E K)} {sink : Course SinkView} {ended : Ended D} (h : HasServedVault start since views service workers workers' sink ended) → HasServed start since views service workers workers' h.ends h.back
      → HasRun views words secret second folder workers workers' sink ended
  run_of {ended = ended} h (inl all) = record {
    ending = h.ending;
    kept = all.folder;
    folder_is = inl (h.folder_is ∙ all.folder_is);
    store_is = some_left h.ends h.back.outcome h.ending all.counts all.closed.committed ended.store all.closed all.outcome h.may (h.store_is ∙ all.closed_is);
    count = all.joined.count;
    reason = reason_of all h.store_is h.back.outcome h.ending all.outcome h.may;
    reported = h.reported;
  }
  run_of h (inr none) =
      run_as refl none.same (run_unshared h.back.folder none.folder (subst (λ (o : Outcome). MayEnd h.ends o h.ending) none.outcome h.may) h.folder_is (h.store_is ∙ none.store) h.reported)

  pub run_served : {workers' : List (Worker N E K)} {sink : Course SinkView} {ended : Ended D} → HasServedVault start since views service workers workers' sink ended → HasRun views words secret second folder workers workers' sink ended
  run_served h = run_of h h.served

-- no vault was opened for a service, as the words say: the cause was reported, and the folder is left
pub record RefusedFor {D N C E K : Type 0} (views : Views D N C E K) (words : List (List ℕ)) (secret : Course SourceView)
    (second : Option ℕ) (folder : D) (sink : Course SinkView) (ended : Ended D) : Type 0 where
  pub serving : Serving
  pub service : Service
  pub kept : D
  pub cause : Cause
  pub asked : Ask words (serve serving)
  pub same : IsServiceOf serving service
  pub folder_is : ended.folder ≡ Some kept
  pub store_is : IsNone ended.store
  pub unopened : ((serving.read_only ≡ false) × IsUnopened (given_of views.folder secret second folder kept) service.kind cause)
      ⊎ ((serving.read_only ≡ true) × IsUnread (given_of views.folder secret second folder kept) service.kind cause)
  pub reported : IsReported sink (refused cause) ended.status

pub run_unserved : {D N C E K : Type 0} {views : Views D N C E K} {words : List (List ℕ)} {secret : Course SourceView} {second : Option ℕ}
    {folder : D} {workers : List (Worker N E K)} {sink : Course SinkView} {ended : Ended D}
    → RefusedFor views words secret second folder sink ended → HasRun views words secret second folder workers workers sink ended
run_unserved {views = views} {secret = secret} {second = second} {folder = folder} {workers = workers} why = record {
  ending = refused why.cause;
  kept = why.kept;
  folder_is = inl why.folder_is;
  store_is = why.store_is;
  count = refl;
  reason = inr (inl (record {
    serving = why.serving;
    words = why.asked;
    unopened = subst (λ (k : SecretKind). ((why.serving.read_only ≡ false) × IsUnopened (given_of views.folder secret second folder why.kept) k why.cause)
        ⊎ ((why.serving.read_only ≡ true) × IsUnread (given_of views.folder secret second folder why.kept) k why.cause)) why.same.kind why.unopened;
    idle = idle views workers;
  }));
  reported = why.reported;
}

-- a run that touches nothing
pub run_untouched : {D N C E K : Type 0} {views : Views D N C E K} {words : List (List ℕ)} {secret : SourceView} {second : Option ℕ} {folder : D} {workers : List (Worker N E K)} {sink : Course SinkView} {ended : Ended D}
    (ending : Ending) → ended.folder ≡ Some folder → IsStoreLeft ending ended.store
    → (IsUntouched (span_of views words (record { before = secret; after = secret }) second folder folder workers workers ended.store)
    → HasReason views (span_of views words (record { before = secret; after = secret }) second folder folder workers workers ended.store) ending)
    → IsReported sink ending ended.status → HasRun views words (record { before = secret; after = secret }) second folder workers workers sink ended
run_untouched {views = views} {folder = folder} {workers = workers} ending is left why reported = record {
  ending = ending;
  kept = folder;
  folder_is = inl is;
  store_is = left;
  count = refl;
  reason = why (record { secret = refl; folder = refl; idle = idle views workers });
  reported = reported;
}

pub run_badly_asked : {D N C E K : Type 0} {views : Views D N C E K} {words : List (List ℕ)} {secret : SourceView} {second : Option ℕ} {folder : D} {workers : List (Worker N E K)} {sink : Course SinkView} {ended : Ended D}
    (cause : Cause) → ended.folder ≡ Some folder → IsNone ended.store → ((cause ≡ Words) × AreRefused words) ⊎ (cause ≡ Memory)
    → IsReported sink (refused cause) ended.status → HasRun views words (record { before = secret; after = secret }) second folder workers workers sink ended
run_badly_asked cause is gone why reported = run_untouched (refused cause) is gone (λ untouched. inl (record { why = why; untouched = untouched })) reported

-- ---- a vault that was to be made

-- the first worker was put back with its random source as it was then
pub record PutBack {N E K : Type 0} (workers workers' : List (Worker N E K)) : Type 0 where
  pub first : Worker N E K
  pub entropy : E
  pub others : List (Worker N E K)
  pub old : workers ≡ first ∷ others
  pub new : workers' ≡ record { listener = first.listener; entropy = entropy; clock = first.clock } ∷ others

-- a vault was to be made by the first worker: what that ended as, why, and that it was reported
pub record MakingFor {D N C E K : Type 0} (views : Views D N C E K) (words : List (List ℕ)) (secret : Course SourceView)
    (second : Option ℕ) (folder : D) (workers workers' : List (Worker N E K)) (sink : Course SinkView) (ended : Ended D) : Type 0 where
  pub back : PutBack workers workers'
  pub ending : Ending
  pub kept : D
  pub folder_is : ended.folder ≡ Some kept
  pub store_is : IsStoreLeft ending ended.store
  pub reason : HasReason views (span_of views words secret second folder kept (back.first ∷ back.others)
      (record { listener = back.first.listener; entropy = back.entropy; clock = back.first.clock } ∷ back.others) ended.store) ending
  pub reported : IsReported sink ending ended.status

pub run_making : {D N C E K : Type 0} {views : Views D N C E K} {words : List (List ℕ)} {secret : Course SourceView} {second : Option ℕ}
    {folder : D} {workers workers' : List (Worker N E K)} {sink : Course SinkView} {ended : Ended D}
    → MakingFor views words secret second folder workers workers' sink ended → HasRun views words secret second folder workers workers' sink ended
run_making made = run_as made.back.old made.back.new (record {
  ending = made.ending;
  kept = made.kept;
  folder_is = inl made.folder_is;
  store_is = made.store_is;
  count = refl;
  reason = made.reason;
  reported = made.reported;
})
