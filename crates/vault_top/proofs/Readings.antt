-- Why the program ends as it does if a vault was served to be read alone.
use Rattle.std.proofs.Common.{◌≡◌, ℕ, true, List, [], length, min, Option, Some, None, IsNone, Result, refl, sym, ap, subst, ◌∙◌, inl, inr, arith}
use Rattle.std.specs.Prelude.{IfSome}
use Rattle.outside.specs.declared.stream.Failed.{Failed}
use Rattle.outside.specs.Calls.{Told}
use Rattle.outside.specs.Images.{Log, now}
use Rattle.outside.specs.Views.{FolderView}
use Rattle.vault_keys.specs.Keys.{KeyPair}
use Rattle.chunk_journal.specs.Journal.{IsClosed}
use Rattle.tree_model.specs.Rows.{Rows}
use Rattle.tree_model.specs.History.{Origin}
use Rattle.session_server.specs.declared.ending.SessionEnd.{SessionEnd}
use Rattle.session_server.specs.declared.counts.SessionCounts.{SessionCounts}
use Rattle.session_server.specs.Workers.{MayStop, ListenerFailed, SomeFailed}
use Rattle.shared_tree.specs.declared.workers.Worker.{Worker}
use Rattle.unlocking.specs.declared.from_folder.SecretKind.{SecretKind}
use Rattle.vault_store.specs.Open.{ClosedVault}
use Rattle.vault_store.specs.ReadOnly.{AreViewed, ReadOnlyVault}
use Rattle.vault_top.specs.Span.{Course, SourceView, SinkView, Views, WorkerSpan, IsOnlyRead, worker_spans, given_of, span_of}
use Rattle.vault_top.specs.Sharing.{IsBegun}
use Rattle.vault_top.specs.Opening.{IsUnlockedToRead}
use Rattle.vault_top.specs.ReadOnly.{IsReadBy}
use Rattle.vault_top.specs.Ending.{Reading, whole, a_listener_failed, not_reported, not_shared, only_read, IsRead, IsUnsharedToRead, HasRead, Never, IsReported, HasRun}
use Rattle.vault_top.specs.Viewing.{HasReadOutcome, HasServedReaders, HasServedView, HasViewed, IsUnaskedView, MayRead}
use Rattle.vault_top.specs.declared.program.Ended.{Ended}
use Rattle.vault_top.specs.declared.serving.Outcome.{Outcome}
use Rattle.vault_top.specs.declared.serving.Outcome.TheVariants.{Served, ListenerFault, FolderFault, NoMemory}
use Rattle.vault_top.specs.declared.task.Service.{Service}
use Rattle.vault_top.specs.declared.viewing.ReadBack.{ReadBack}
use Rattle.vault_top.proofs.Callers.{have_asked}
use Rattle.vault_top.proofs.Reasons.{AskedFor, Beginning, found_clear, idle, run_as, shared_as, unlocked_as}
use Rattle.vault_top.proofs.Shares.{shares_as, may_stop, on_error}

-- of a folder that was so as the run began nothing was changed
read_since : {kind : SecretKind} {found : FolderView} {secret : SourceView} {second : Option ℕ} {start : FolderView} {keys : KeyPair} {rows : Rows} {after : FolderView} → IsBegun kind found secret second start keys rows → IsOnlyRead start after → IsOnlyRead found after
read_since {after = after} begun = subst (λ (v : FolderView). IsOnlyRead v after) begun.folder_is

-- a service that has ended, of whatever words
module _ {D N C E K : Type 0} {start : Rows → Origin → Type 0} {since : FolderView → KeyPair → Rows → Type 0} {views : Views D N C E K} {secret : Course SourceView} {second : Option ℕ} {folder : D} {service : Service}
    {workers workers' : List (Worker N E K)} {ends : List SessionEnd} {back : ReadBack D} (beginning : Beginning start since views secret second folder service workers) (journal : Told (views.folder folder).log (λ log. IsClosed (now log)))
    (h : HasServedReaders start since views service workers workers' ends back) where
  read_by : (words : List (List ℕ)) (closed : Option ClosedVault) (P : WorkerSpan C → Type 0) → ((worker : WorkerSpan C) → MayStop h.counts worker → P worker)
      → IsReadBy views (span_of views words secret second folder h.vault.folder workers workers' closed) service.kind service.sessions (min service.at_once (length workers)) P ends
  read_by words closed P only =
      let joined = h.joined in
      let stands = joined.right.stands in
      let begins = beginning.starts.only h.rows h.origin h.begins in
      let begun = beginning.alone.only joined.right.start h.vault.tree.keys h.rows joined.right.begins in
      let read = read_since begun joined.right.read in
      let own = have_asked views begins.entropy_faults joined in
      record {
        vault = begun.vault;
        unlocked = record { gave = begun.gave; line = beginning.line };
        shares = joined.shares;
        are = shares_as views.link (MayStop h.counts) P service.sessions (min service.at_once (length workers)) 0 (worker_spans views workers workers') joined.shares only joined.are;
        readings = record {
          rows = h.rows;
          origin = h.origin;
          entries = joined.entries;
          caused = stands.caused;
          viewed = subst (λ (l : Option Log). Told l (λ log. AreViewed h.rows joined.entries)) read.log stands.viewed;
          callers = own.callers;
          drawn = own.drawn;
          timed = own.timed;
          in_time = joined.in_time;
          since = record { folder = (let e = begins.folder_faults in omega arith); entropy = own.since; moment = begins.moment };
          up_to = record { folder = stands.faults; entropy = own.up_to; moment = stands.moment };
          unlocked = begun.unlocked;
          closed = journal;
          clear = found_clear begun;
          second = begun.at_second;
          read = read;
        };
        ended = h.ended;
      }

-- a vault was opened to be read for a service, as the words say
pub record OpenedToRead {D N C E K : Type 0} (start : Rows → Origin → Type 0) (since : FolderView → KeyPair → Rows → Type 0) (views : Views D N C E K) (words : List (List ℕ)) (secret : Course SourceView) (second : Option ℕ) (folder : D) (service : Service) (workers : List (Worker N E K)) : Type 0 where
  pub asked : AskedFor start since views words secret second folder service workers
  pub read_only : asked.serving.read_only ≡ true
  pub vault : ReadOnlyVault D
  pub unlocked : IsUnlockedToRead views.folder (given_of views.folder secret second folder vault.folder) service.kind folder vault

module _ {D N C E K : Type 0} {start : Rows → Origin → Type 0} {since : FolderView → KeyPair → Rows → Type 0} {views : Views D N C E K} {words : List (List ℕ)} {secret : Course SourceView} {second : Option ℕ} {folder : D} {service : Service}
    {workers : List (Worker N E K)} (opened : OpenedToRead start since views words secret second folder service workers) where
  open opened use {asked, read_only, unlocked}

  -- there was no memory to serve, and the folder is left
  unshared_kept : {kept : D} (closed : Option ClosedVault) → IsUnaskedView views.folder start since kept → IsUnsharedToRead (span_of views words secret second folder kept workers workers closed)
  unshared_kept {kept} closed h =
      let begun = asked.beginning.alone.only h.shared.start h.vault.tree.keys h.rows h.shared.begins in
      record {
        serving = asked.serving;
        words = asked.words_are;
        read_only = read_only;
        vault = begun.vault;
        unlocked = unlocked_as asked kept begun.vault (record { gave = begun.gave; line = asked.beginning.line });
        rows = h.rows;
        opened = begun.unlocked;
        closed = unlocked.opened.closed;
        clear = found_clear begun;
        second = begun.at_second;
        read = subst (λ (f : D). IsOnlyRead (views.folder folder) (views.folder f)) h.folder_is (read_since begun h.shared.read);
        idle = idle views workers;
      }

  -- and if it isn't, it is as it was
  unshared_lost : (closed : Option ClosedVault) → IsUnsharedToRead (span_of views words secret second folder folder workers workers closed)
  unshared_lost closed = record {
    serving = asked.serving;
    words = asked.words_are;
    read_only = read_only;
    vault = unlocked.unlocked_vault;
    unlocked = unlocked_as asked folder unlocked.unlocked_vault (record { gave = unlocked.unlocked.gave; line = unlocked.unlocked.line });
    rows = unlocked.opened.rows;
    opened = unlocked.now;
    closed = unlocked.opened.closed;
    clear = unlocked.opened.clear;
    second = unlocked.second;
    read = record { log = refl; changes = refl; faults = omega arith };
    idle = idle views workers;
  }

  run_unshared : {sink : Course SinkView} {ended : Ended D} {reading : Reading} (left : Option D) → IfSome left (λ kept. IsUnaskedView views.folder start since kept) → reading ≡ not_shared → ended.folder ≡ left → IsNone ended.store
      → IsReported sink (only_read reading) ended.status → HasRun views words secret second folder workers workers sink ended
  run_unshared {ended = ended} {reading = reading} (Some kept) h is left gone reported = record {
    ending = only_read reading;
    kept = kept;
    folder_is = inl left;
    store_is = gone;
    count = refl;
    reason = rw is (unshared_kept ended.store h);
    reported = reported;
  }
  run_unshared {ended = ended} {reading = reading} None h is left gone reported = record {
    ending = only_read reading;
    kept = folder;
    folder_is = inr (left, inr (ap only_read is));
    store_is = gone;
    count = refl;
    reason = rw is (unshared_lost ended.store);
    reported = reported;
  }

  module _ {workers' : List (Worker N E K)} {ends : List SessionEnd} {back : ReadBack D} (h : HasServedReaders start since views service workers workers' ends back) where
    -- as these words say
    read_of : (closed : Option ClosedVault) (P : WorkerSpan C → Type 0) → ((worker : WorkerSpan C) → MayStop h.counts worker → P worker)
        → IsRead views (span_of views words secret second folder h.vault.folder workers workers' closed) P ends
    read_of closed P only =
        let by = read_by asked.beginning unlocked.opened.closed h words closed P only in
        record {
          serving = asked.serving;
          words = asked.words_are;
          read_only = read_only;
          sessions = record {
            vault = by.vault;
            unlocked = unlocked_as asked h.vault.folder by.vault by.unlocked;
            shares = by.shares;
            are = shared_as asked workers' P by.shares h.joined.count by.are;
            readings = by.readings;
            ended = by.ended;
          };
        }

    reading_of : (closed : Option ClosedVault) (outcome : Outcome) (reading : Reading) → HasReadOutcome h.counts outcome → MayRead ends outcome reading
        → HasRead views (span_of views words secret second folder h.vault.folder workers workers' closed) reading
    reading_of closed (Served c) reading is (inl e) = rw e (read_of closed Never (λ worker stop. subst (λ (r : Result SessionCounts Failed). MayStop r worker) is stop))
    reading_of closed (Served c) reading is (inr e) = rw e (read_of closed ListenerFailed (may_stop h.counts))
    reading_of closed ListenerFault reading is e =
        rw e (read_of closed ListenerFailed (may_stop h.counts), on_error h.counts (SomeFailed (worker_spans views workers workers')) is h.joined.failed)
    reading_of closed FolderFault reading is e = absurd is
    reading_of closed NoMemory reading is e = absurd is

  run_of : {workers' : List (Worker N E K)} {sink : Course SinkView} {ended : Ended D} (h : HasServedView start since views service workers workers' sink ended) → HasViewed start since views service workers workers' h.ends h.back
      → HasRun views words secret second folder workers workers' sink ended
  run_of {ended = ended} h (inl all) = record {
    ending = only_read h.reading;
    kept = all.vault.folder;
    folder_is = inl (h.folder_is ∙ all.folder_is);
    store_is = subst (λ (o : Option ClosedVault). IsNone o) (sym h.store_is) refl;
    count = all.joined.count;
    reason = reading_of all ended.store h.back.outcome h.reading all.outcome h.may;
    reported = h.reported;
  }
  run_of h (inr none) =
      run_as refl none.same (run_unshared h.back.folder none.folder (subst (λ (o : Outcome). MayRead h.ends o h.reading) none.outcome h.may) h.folder_is (subst (λ (o : Option ClosedVault). IsNone o) (sym h.store_is) refl) h.reported)

  pub run_read : {workers' : List (Worker N E K)} {sink : Course SinkView} {ended : Ended D} → HasServedView start since views service workers workers' sink ended → HasRun views words secret second folder workers workers' sink ended
  run_read h = run_of h h.served
