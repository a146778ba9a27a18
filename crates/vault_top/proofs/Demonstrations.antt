-- A demonstration that was held.
use Rattle.std.proofs.Common.{◌≡◌, ℕ, ◌-◌, ◌^◌, ◌<◌, List, [], ◌∷◌, length, min, Option, Some, Result, Ok, IsOk, refl, sym, ap, subst, ◌∙◌, inl, inr, arith}
use Rattle.std.specs.Prelude.{IfOk, option_map}
use Rattle.std.specs.Option.{ok_or}
use Rattle.std.specs.List.{AllByRecursion}
use Rattle.std.proofs.lemmas.List.FromFn.{length-map-range_with_len}
use Rattle.std.proofs.lemmas.List.Sums.{count_by-le-length, length-filter}
use Rattle.outside.specs.Disk.{Disk}
use Rattle.outside_mem.specs.Held.{Holding}
use Rattle.outside_mem.specs.Links.{Links}
use Rattle.outside_mem.specs.Words.{Drawing}
use Rattle.tree_loading.specs.Format.{sealing_of}
use Rattle.tree_deed_laws.specs.Shapes.{HasTree}
use Rattle.masterkey_file.specs.Password.{line_of}
use Rattle.unlocking.specs.FromFiles.{UnlockedVault, bad_secret}
use Rattle.vault_words.specs.Jobs.{Demonstration}
use Rattle.demonstration.specs.Summary.{summary_line}
use Rattle.demonstration.specs.Objects.{IsEmptyVault, key_line}
use Rattle.outside.specs.declared.stream.Failed.{Failed}
use Rattle.outside.specs.Calls.{Told}
use Rattle.outside.specs.Images.{disk_in, now}
use Rattle.outside.specs.Views.{FolderView}
use Rattle.vault_keys.specs.Keys.{KeyPair}
use Rattle.tree_model.specs.Rows.{Rows}
use Rattle.tree_model.specs.History.{Entry, Origin, rows_after, rows_at, rows_then}
use Rattle.session_server.specs.declared.ending.SessionEnd.{SessionEnd}
use Rattle.session_server.specs.declared.ending.SessionEnd.TheVariants.{Done, Cut, BadFrame, ReadFault, WriteFault, Limit, Memory}
use Rattle.session_server.specs.declared.counts.SessionCounts.{SessionCounts}
use Rattle.session_server.specs.Ends.{AreCounts, count_of, is_done}
use Rattle.session_server.specs.Shares.{all_ends}
use Rattle.session_server.specs.Workers.{MayStop}
use Rattle.shared_tree.specs.declared.workers.Worker.{Worker}
use Rattle.store_laws.specs.Store.{StoreView, bounded}
use Rattle.vault_store.specs.Open.{ClosedVault}
use Rattle.unlocking.specs.Secret.{raw_keys}
use Rattle.unlocking.specs.FromFolder.{IsUnlocking, unlock, with_raw_threshold}
use Rattle.unlocking.specs.declared.from_folder.SecretKind.TheVariants.{RawKeys}
use Rattle.vault_top.specs.Span.{Course, SourceView, Views, span_of}
use Rattle.vault_top.specs.Sessions.{IsServedWhole}
use Rattle.vault_top.specs.Report.{line}
use Rattle.vault_top.specs.Tasks.{AreScriptsOf}
use Rattle.vault_top.specs.Demonstrated.{HasHeld, own_span, own_views, worker_of, workers_of}
use Rattle.vault_top.specs.Serving.{HasOutcome, HasServed, HasServedAll, IsKeptOf, SumsUp}
use Rattle.vault_top.specs.declared.task.Scripts.{Scripts}
use Rattle.vault_top.specs.declared.demonstrating.Kept.{Kept}
use Rattle.vault_top.specs.declared.serving.HandedBack.{HandedBack}
use Rattle.vault_top.specs.declared.serving.Outcome.{Outcome}
use Rattle.vault_top.specs.declared.serving.Outcome.TheVariants.{Served, NoMemory}
use Rattle.vault_top.specs.declared.task.Service.{Service}
use Rattle.vault_top.proofs.Reasons.{Beginning, served_well}

-- ---- ends

-- if as many ended between two messages as there were, each did
pub all_done : (ends : List SessionEnd) → count_of is_done ends ≡ length ends → AllByRecursion (λ end. end ≡ Done) ends
all_done [] all = tt
all_done (Done ∷ ends) all = (refl, all_done ends (omega arith))
all_done (Cut had wanted ∷ ends) all = absurd (omega (arith, length-filter is_done ends, count_by-le-length is_done ends))
all_done (BadFrame size ∷ ends) all = absurd (omega (arith, length-filter is_done ends, count_by-le-length is_done ends))
all_done (ReadFault ∷ ends) all = absurd (omega (arith, length-filter is_done ends, count_by-le-length is_done ends))
all_done (WriteFault ∷ ends) all = absurd (omega (arith, length-filter is_done ends, count_by-le-length is_done ends))
all_done (Limit ∷ ends) all = absurd (omega (arith, length-filter is_done ends, count_by-le-length is_done ends))
all_done (Memory ∷ ends) all = absurd (omega (arith, length-filter is_done ends, count_by-le-length is_done ends))

-- the rows after as many entries as there are
pub rows_at-all : (rows : Rows) (entries : List Entry) → rows_at rows entries (length entries) ≡ rows_after rows entries
rows_at-all rows [] = refl
rows_at-all rows (entry ∷ entries) = rows_at-all (rows_then rows entry.made) entries

-- ---- an outcome that was counted

record IsCounted (counts : Result SessionCounts Failed) (closing : Result (Unit {0}) Failed) (c : SessionCounts) : Type 0 where
  counted : counts ≡ Ok c
  closed : IsOk closing

counted_so : (counts : Result SessionCounts Failed) (closing : Result (Unit {0}) Failed) (outcome : Outcome) (c : SessionCounts) → HasOutcome counts closing outcome → outcome ≡ Served c
    → IsCounted counts closing c
counted_so counts closing outcome c h is = let served = subst (λ (o : Outcome). HasOutcome counts closing o) is h in record { counted = served.0; closed = served.1 }

not_counted : (outcome : Outcome) (c : SessionCounts) → outcome ≡ NoMemory → outcome ≡ Served c → ⊥
not_counted outcome c none some = let e : NoMemory ≡ Served c = sym none ∙ some in absurd cc

same_some : {X : Type 0} (a b : X) (o : Option X) → o ≡ Some a → o ≡ Some b → a ≡ b
same_some a b o e f = cc

few_entries : (n m : ℕ) → n ≡ bounded m → n < 2 ^ 64 - 1 → n ≡ m
few_entries n m is few = omega arith

-- ---- a vault all of whose sessions were held

module _ {D N C E K : Type 0} {start : Rows → Origin → Type 0} {since : FolderView → KeyPair → Rows → Type 0} {views : Views D N C E K} {secret : Course SourceView} {second : Option ℕ} {folder : D} {service : Service}
    {workers workers' : List (Worker N E K)} {ends : List SessionEnd} {back : HandedBack D} {kept : Kept D} (beginning : Beginning start since views secret second folder service workers) (is : IsKeptOf back service.sessions kept) where
  all_counted : (h : HasServedAll start since views service workers workers' ends back) → AreCounts is.counts ends
  all_counted h =
      let counted = counted_so h.counts h.closed.committed back.outcome is.counts h.outcome is.outcome in
      subst (λ (es : List SessionEnd). AreCounts is.counts es) h.ended (subst (λ (r : Result SessionCounts Failed). IfOk r (λ c. AreCounts c (all_ends h.joined.shares))) counted.counted h.joined.counted)

  whole_of : (words : List (List ℕ)) (h : HasServedAll start since views service workers workers' ends back)
      → IsServedWhole views (span_of views words secret second folder h.folder workers workers' (Some kept.store)) service.kind service.sessions (min service.at_once (length workers)) kept.store.store.entries
  whole_of words h =
      let counted = counted_so h.counts h.closed.committed back.outcome is.counts h.outcome is.outcome in
      let counts = all_counted h in
      let well = served_well beginning h words (sym is.store) (λ worker stop. subst (λ (r : Result SessionCounts Failed). MayStop r worker) counted.counted stop) counted.closed in
      record {
        ends = ends;
        served = well.served;
        many = sym counts.sessions ∙ is.sessions_are;
        done = all_done ends (sym counts.done ∙ is.done ∙ sym is.sessions_are ∙ counts.sessions);
        closed = well.closed;
        count = few_entries kept.store.store.entries (length h.joined.entries)
            (ap (λ (c : ClosedVault). c.store.entries) (sym (same_some h.closed kept.store back.store h.closed_is is.store)) ∙ ap (λ (s : StoreView). s.entries) h.closing.idle ∙ h.joined.right.stands.count) is.few ∙ sym well.count;
      }

  pub served_whole : (words : List (List ℕ)) → HasServed start since views service workers workers' ends back
      → IsServedWhole views (span_of views words secret second folder kept.folder workers workers' (Some kept.store)) service.kind service.sessions (min service.at_once (length workers)) kept.store.store.entries
  served_whole words (inl h) =
      subst (λ (f : D). IsServedWhole views (span_of views words secret second folder f workers workers' (Some kept.store)) service.kind service.sessions (min service.at_once (length workers)) kept.store.store.entries)
      (same_some h.folder kept.folder back.folder h.folder_is is.folder) (whole_of words h)
  served_whole words (inr h) = absurd (not_counted back.outcome is.counts h.outcome is.outcome)

-- ---- a demonstration

-- the keys that a line of digits unlocks
unlocked_keys : (secret : Option (List ℕ)) (bytes : List ℕ) (disk : Option Disk) (vault : UnlockedVault) (keys : KeyPair) → secret ≡ Some bytes → raw_keys (line_of bytes) ≡ Some keys
    → IsUnlocking RawKeys secret disk (λ found. found ≡ Ok vault) → vault.keys ≡ keys
unfolding unlock
unlocked_keys secret bytes disk vault keys same is h =
    let told = subst (λ (s : Option (List ℕ)). Told s (λ b. unlock RawKeys b h.0 ≡ Ok vault)) same h.2 in
    let found : ok_or (option_map with_raw_threshold (Some keys)) bad_secret ≡ Ok vault = subst (λ (o : Option KeyPair). ok_or (option_map with_raw_threshold o) bad_secret ≡ Ok vault) is told in
    let one : with_raw_threshold keys ≡ vault = cc in
    sym (ap (λ (v : UnlockedVault). v.keys) one)

-- the text of a demonstration that was held, whose vault's store was closed so
pub record IsHeldAs (d : Demonstration) (written : List ℕ) (closed : ClosedVault) : Type 0 where
  pub text : List ℕ
  pub is : written ≡ line text
  pub held : HasHeld d text closed

module _ (d : Demonstration) (secret : Course SourceView) (folder : Holding) (kept : Kept Holding) (workers' : List (Worker Links Drawing ℕ)) (keys : KeyPair) (written : List ℕ)
    (secret_is : secret.before ≡ record { left = Some (key_line d.seed); faults = 0 }) (keys_are : raw_keys (line_of (key_line d.seed)) ≡ Some keys) (empty : IsEmptyVault keys folder) where
  held_by : (whole : IsServedWhole own_views (own_span d secret folder kept.folder workers' kept.store) RawKeys d.clients d.clients kept.store.store.entries)
      → ((shown : Rows) → HasTree (sealing_of keys) (now kept.folder.log) shown → SumsUp (record { seed = d.seed; clients = d.clients; requests = d.requests }) kept.store.store.entries shown written)
      → IsHeldAs d written kept.store
  held_by whole sums =
      let history = whole.served.history in
      let same : whole.served.vault.keys ≡ keys =
      unlocked_keys secret.before.left (key_line d.seed) (disk_in (Some folder.log)) whole.served.vault keys (ap (λ (s : SourceView). s.left) secret_is) keys_are whole.served.unlocked.gave
      in
      let shows : HasTree (sealing_of keys) (now kept.folder.log) (rows_at history.rows history.entries (length history.entries)) =
      subst (λ (k : KeyPair). HasTree (sealing_of k) (now kept.folder.log) (rows_at history.rows history.entries (length history.entries))) same whole.closed.on_disk.shows.tree
      in
      let summed = sums (rows_after history.rows history.entries) (subst (λ (r : Rows). HasTree (sealing_of keys) (now kept.folder.log) r) (rows_at-all history.rows history.entries) shows) in
      record {
        text = summary_line d.clients d.requests (length history.entries) summed.rows;
        is = summed.is ∙ ap (λ (n : ℕ). line (summary_line d.clients d.requests n summed.rows)) whole.count;
        held = record {
          secret = secret;
          secret_is = secret_is;
          folder = folder;
          kept = kept.folder;
          workers_left = workers';
          sessions = whole;
          empty = subst (λ (k : KeyPair). IsEmptyVault k folder) (sym same) empty;
          rows = summed.rows;
          left = summed.left;
          text_is = refl;
        };
      }

  workers_many : min d.clients (length (workers_of d.seed d.clients d.requests)) ≡ d.clients
  workers_many =
      let many : length (workers_of d.seed d.clients d.requests) ≡ d.clients = length-map-range_with_len (worker_of d.seed d.requests) 0 d.clients in
      omega arith

  held_where : IsServedWhole own_views (own_span d secret folder kept.folder workers' kept.store) RawKeys d.clients (min d.clients (length (workers_of d.seed d.clients d.requests))) kept.store.store.entries
      → ((shown : Rows) → HasTree (sealing_of keys) (now kept.folder.log) shown → SumsUp (record { seed = d.seed; clients = d.clients; requests = d.requests }) kept.store.store.entries shown written)
      → IsHeldAs d written kept.store
  held_where whole sums =
      held_by (subst (λ (m : ℕ). IsServedWhole own_views (own_span d secret folder kept.folder workers' kept.store) RawKeys d.clients m kept.store.store.entries) workers_many whole) sums

-- what was done with these scripts, and kept
pub record HasDone (scripts : Scripts) (kept : Kept Holding) (written : List ℕ) : Type 0 where
  pub secret : Course SourceView
  pub folder : Holding
  pub workers : List (Worker Links Drawing ℕ)
  pub workers' : List (Worker Links Drawing ℕ)
  pub keys : KeyPair
  pub secret_is : secret.before ≡ record { left = Some (key_line scripts.seed); faults = 0 }
  pub keys_are : raw_keys (line_of (key_line scripts.seed)) ≡ Some keys
  pub empty : IsEmptyVault keys folder
  pub workers_are : workers ≡ workers_of scripts.seed scripts.clients scripts.requests
  pub whole : IsServedWhole own_views (span_of own_views [] secret (Some 0) folder kept.folder workers workers' (Some kept.store)) RawKeys scripts.clients (min scripts.clients (length workers)) kept.store.store.entries
  pub sums : (shown : Rows) → HasTree (sealing_of keys) (now kept.folder.log) shown → SumsUp scripts kept.store.store.entries shown written

done_with : (d : Demonstration) (kept : Kept Holding) (written : List ℕ) → HasDone (record { seed = d.seed; clients = d.clients; requests = d.requests }) kept written → IsHeldAs d written kept.store
done_with d kept written h =
    held_where d h.secret h.folder kept h.workers' h.keys written h.secret_is h.keys_are h.empty
    (subst (λ (w : List (Worker Links Drawing ℕ)). IsServedWhole own_views (span_of own_views [] h.secret (Some 0) h.folder kept.folder w h.workers' (Some kept.store)) RawKeys d.clients (min d.clients (length w)) kept.store.store.entries)
    h.workers_are h.whole) h.sums

pub done_as : (d : Demonstration) (scripts : Scripts) (kept : Kept Holding) (written : List ℕ) → AreScriptsOf d scripts → HasDone scripts kept written → IsHeldAs d written kept.store
done_as d scripts kept written are h =
    let same : scripts ≡ record { seed = d.seed; clients = d.clients; requests = d.requests } = λ i. record { seed = are.seed i; clients = are.clients i; requests = are.requests i } in
    done_with d kept written (subst (λ (s : Scripts). HasDone s kept written) same h)
