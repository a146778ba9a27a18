-- A vault that is only read: how its history begins, and what its requests add.
use Rattle.std.proofs.Common.{◌≡◌, ℕ, suc, ◌≤◌, List, [], ◌∷◌, ◌++◌, length, Bool, false, cond, Option, Some, None, is_some, IsNone, IsSome, refl, sym, ap, subst, ◌∙◌, inl, arith, true≢false}
use Rattle.outside.specs.Calls.{Told}
use Rattle.outside.specs.Disk.{Disk, IsTree}
use Rattle.outside.specs.Images.{Log, disk_in, now}
use Rattle.outside.specs.Views.{FolderView, EntropyView}
use Rattle.outside.proofs.Lists.{all_more}
use Rattle.outside.proofs.Told.{told_always, told_then}
use Rattle.vault_keys.specs.Keys.{KeyPair}
use Rattle.chunk_journal.specs.Journal.{IsClosed}
use Rattle.tree_model.specs.declared.refusal.Refusal.TheVariants as refusals
use Rattle.tree_model.specs.declared.reply.Reply.{Reply}
use Rattle.tree_model.specs.Rows.{Content, bad_size, Rows}
use Rattle.tree_model.specs.Asked.{Asked, PlainReply, PlainRequest, look, walk, open_node, create, read, list, write, remove, stat_of, change, sync, asked_of, plain_reply, refused}
use Rattle.tree_model.specs.Step.{node_limit, IsReading}
use Rattle.tree_model.specs.History.{Made, Entry, Origin, Tally, entry_of, is_stopped, next, tally_at, tally_of, HasCause, IsAnswered, IsCaused, MayDraw}
use Rattle.tree_model.proofs.Histories.{after_more, after_count, after_stable, caused_more}
use Rattle.clear_tree.specs.Kept.{KeptNode, KeptTree, IsKept, TellsRows, rows_from, tree_rows}
use Rattle.clear_tree.proofs.Keeping.{keeping_tells_rows}
use Rattle.tree_loading.specs.Format.{sealing_of}
use Rattle.live_tree.specs.Held.{HeldTree, live_rows}
use Rattle.live_tree.proofs.Rows.{rows_loaded}
use Rattle.live_tree_laws.specs.Loading.{loaded_tree}
use Rattle.name_places.specs.Claims.{AreClaimsOf}
use Rattle.node_changes.specs.Changed.{StandsOn}
use Rattle.node_changes.specs.declared.tree.VaultTree.{VaultTree}
use Rattle.crash_laws.specs.Stable.{stable_then, IsStableNext}
use Rattle.crash_laws.proofs.Stable.{stable_next}
use Rattle.crash_laws.proofs.States.{stopped_more}
use Rattle.store_laws.specs.Store.{moment_of}
use Rattle.store_laws.specs.Ends.{IsFoundClear}
use Rattle.store_laws.specs.Turns.{Turn, made_in, made_of}
use Rattle.store_laws.proofs.Turns.{none_not_some}
use Rattle.vault_store.specs.Open.{IsLoadedTree, counted, view_of}
use Rattle.vault_store.specs.Outcome.{IsTurnOf}
use Rattle.vault_store.specs.Quiet.{IsStill, IsStillTurn}
use Rattle.vault_store.specs.Reading.{HasContents}
use Rattle.vault_store.specs.ReadOnly.{AddsReading, AreViewed, IsMadeReading, IsReadOnlyOf, IsShownOn, IsViewed}
use Rattle.vault_store.proofs.HostReads.{live_contents}
use Rattle.vault_store.proofs.Loads.{loaded_stands}
use Rattle.vault_store.proofs.Replies.{no_bytes}

-- ---- opening

-- a row for each node that is kept
count_rows : (contents : ℕ → Content) (unlocked number : ℕ) (nodes : List KeptNode) → length (rows_from contents unlocked number nodes) ≡ length nodes
count_rows contents unlocked number [] = refl
count_rows contents unlocked number (node ∷ nodes) = ap suc (count_rows contents unlocked (suc number) nodes)

-- the rows that a tree was loaded with, of a folder whose journal is closed
pub record Begins (keys : KeyPair) (unlocked : ℕ) (tree : VaultTree) (log : Option Log) : Type 0 where
  pub rows : Rows
  pub clear : Told log (λ log. IsFoundClear keys (now log) unlocked rows)
  pub shown : Told log (λ log. IsShownOn (now log) tree rows)

module _ (keys : KeyPair) (unlocked : ℕ) (tree : VaultTree) (kept : KeptTree) (keys_are : tree.keys ≡ keys) (live_is : tree.live ≡ loaded_tree unlocked kept) (claimed : AreClaimsOf (sealing_of keys) tree.live tree.claims)
    (few : length kept.nodes ≤ node_limit) where
  begins_on : (log : Log) → IsClosed (now log) → IsTree (now log) → IsKept (sealing_of keys) (now log) kept → Begins keys unlocked tree (Some log)
  begins_on log closed host is =
      let tells : TellsRows (sealing_of keys) (now log) kept = keeping_tells_rows (sealing_of keys) (now log) kept is in
      record {
        rows = tree_rows tells.contents unlocked kept;
        clear = record {
          found = now log;
          recovers = inl (closed, refl);
          clear = tells.clear unlocked;
          few = subst (λ (n : ℕ). n ≤ node_limit) (sym (count_rows tells.contents unlocked 0 kept.nodes)) few;
        };
        shown = record {
          contents = tells.contents;
          stands = subst (λ (k : KeyPair). StandsOn (sealing_of k) (now log) tree.live tree.claims tells.contents) (sym keys_are)
              (loaded_stands (sealing_of keys) unlocked kept tree.live tree.claims (now log) live_is claimed host is tells);
          rows_are = sym (rows_loaded tells.contents unlocked kept.nodes (length kept.nodes) kept.twice) ∙ ap (λ (t : HeldTree). live_rows tells.contents t) (sym live_is);
        };
      }

  begins_told : (log : Option Log) → Told (disk_in log) IsClosed → Told (disk_in log) IsTree → Told log (λ log. IsKept (sealing_of keys) (now log) kept) → Begins keys unlocked tree log
  begins_told None closed host is = record { rows = tree_rows (λ n. bad_size) unlocked kept; clear = tt; shown = tt }
  begins_told (Some log) closed host is = begins_on log closed host is

pub begins : (keys : KeyPair) (unlocked threshold : ℕ) (log : Option Log) (tree : VaultTree) → IsLoadedTree keys unlocked threshold log tree → Told (disk_in log) IsClosed → Told (disk_in log) IsTree → Begins keys unlocked tree log
begins keys unlocked threshold log tree is closed host = begins_told keys unlocked tree is.kept is.keys_are is.live is.claims is.few log closed host is.loaded

-- a vault that has no entries yet
pub begins_history : (tree : VaultTree) (folder : FolderView) (rows : Rows) (origin : Origin) → Told folder.log (λ log. IsShownOn (now log) tree rows) → origin.folder_faults ≤ folder.faults → origin.moment ≡ moment_of folder.log
    → IsReadOnlyOf tree folder rows origin []
begins_history tree folder rows origin shown faults at = record {
  shown = shown;
  viewed = told_always folder.log (λ log. AreViewed rows []) (λ log. tt);
  caused = tt;
  running = refl;
  faults = faults;
  moment = omega (arith, at);
}

-- what reads need of it
pub shown_contents : (log : Option Log) (tree : VaultTree) (rows : Rows) → Told log (λ log. IsShownOn (now log) tree rows) → Told (disk_in log) (HasContents (sealing_of tree.keys) tree.live)
shown_contents None tree rows shown = tt
shown_contents (Some log) tree rows shown = record { contents = shown.contents; are = live_contents (sealing_of tree.keys) (now log) tree.live tree.claims shown.contents shown.stands }

-- ---- entries

-- a cause is one however many entries are stable
same_cause : (made : Made) (stable : ℕ) (reply : PlainReply) → HasCause made reply → HasCause (record made { stable = stable }) reply
same_cause made stable (refused refusals.DeviceFault) cause = cause
same_cause made stable (refused refusals.RandomFault) cause = cause
same_cause made stable (refused refusals.OutOfMemory) cause = cause
same_cause made stable (refused (refusals.PlaceTaken path)) cause = cause
same_cause made stable (refused (refusals.Exhausted ticket)) cause = cause
same_cause made stable reply cause = cause

-- nothing is drawn for a request that changes nothing
reading_draws : (request : PlainRequest) → IsReading request → MayDraw request → ⊥
reading_draws (look n) reads draws = draws
reading_draws (walk n names) reads draws = draws
reading_draws (open_node n mode) reads draws = draws
reading_draws (create n name is_dir mode) reads draws = reads
reading_draws (read n at most) reads draws = draws
reading_draws (list n after most) reads draws = draws
reading_draws (write n at bytes) reads draws = draws
reading_draws (remove n) reads draws = draws
reading_draws (stat_of n) reads draws = draws
reading_draws (change n c) reads draws = draws
reading_draws (sync n) reads draws = draws

none_drawn : (drawn : Option (List ℕ)) → (IsSome drawn → ⊥) → drawn ≡ None
none_drawn None never = refl
none_drawn (Some bytes) never = absurd (never refl)

module _ (tree : VaultTree) (before after : FolderView) (source : EntropyView) (turn : Turn) where
  abbrev pub made : ℕ → Made
  made stable = made_in turn before.faults after source source stable

  abbrev pub ViewedOn : ℕ → Disk → Type 0
  ViewedOn stable d = (contents : ℕ → Content) → StandsOn (sealing_of tree.keys) d tree.live tree.claims contents → IsViewed (live_rows contents tree.live) (made stable)

  -- nothing was changed or drawn, and the answer has its cause and is one of a vault that is only read, in all rows that its tree may have on the disk
  pub record IsViewing : Type 0 where
    pub log : after.log ≡ before.log
    pub later : before.faults ≤ after.faults
    pub cause : HasCause (made_of turn before after source source) turn.asked.reply
    pub unstopped : is_stopped turn.asked.reply ≡ false
    pub whole : turn.commit_failed ≡ false
    pub undrawn : turn.drawn ≡ None
    pub viewed : (stable : ℕ) → Told (disk_in before.log) (ViewedOn stable)

  module _ (is : IsViewing) (rows : Rows) (origin : Origin) (history : List Entry) (caller : ℕ) (stood : IsReadOnlyOf tree before rows origin history) where
    abbrev tally : Tally
    tally = tally_of origin history

    abbrev stable : ℕ
    stable = stable_then turn.asked.request turn.asked.reply tally.stable (suc (length history))

    abbrev pub entry : Entry
    entry = entry_of caller (made stable)

    more : tally_of origin (history ++ entry ∷ []) ≡ next tally entry
    more = after_more (tally_at origin) history entry

    caused : tally.entropy_faults caller ≤ source.faults → IsCaused tally entry
    caused drew =
        let count : tally.count ≡ length history = omega (arith, after_count (tally_at origin) history) in
        let held : tally.stable ≤ length history = omega (arith, after_stable (tally_at origin) history (omega arith) stood.caused) in
        let lasts : IsStableNext turn.asked.request turn.asked.reply tally.stable (length history) (length history) stable =
        stable_next turn.asked.request turn.asked.reply tally.stable (length history) (length history) held (omega arith) in
        record {
          running = λ none. (same_cause (made_of turn before after source source) stable turn.asked.reply is.cause, is.unstopped);
          stopped = λ f at. absurd (none_not_some tally.stopped f stood.running at);
          flag = λ failed. absurd (true≢false (sym failed ∙ is.whole));
          drawn = λ some. absurd (true≢false (sym some ∙ ap is_some is.undrawn));
          folder_since = stood.faults;
          folder = is.later;
          entropy_since = drew;
          entropy = omega arith;
          stable_since = lasts.since;
          stable_within = omega (arith, lasts.within, count);
          kept = λ asked accepted. lasts.kept asked accepted ∙ ap suc (sym count);
          moment_since = omega (arith, stood.moment, ap moment_of is.log);
        }

    viewed_next : (log : Option Log) → Told log (λ log. IsShownOn (now log) tree rows) → Told log (λ log. AreViewed rows history) → Told (disk_in log) (ViewedOn stable) → Told log (λ log. AreViewed rows (history ++ entry ∷ []))
    viewed_next None shown all viewed = tt
    viewed_next (Some log) shown all viewed =
        all_more (λ (e : Entry). IsViewed rows e.made) history entry all (subst (λ (r : Rows). IsViewed r (made stable)) (sym shown.rows_are) (viewed shown.contents shown.stands))

    stands_for : tally.entropy_faults caller ≤ source.faults → IsReadOnlyOf tree after rows origin (history ++ entry ∷ [])
    stands_for drew = record {
      shown = subst (λ (l : Option Log). Told l (λ log. IsShownOn (now log) tree rows)) (sym is.log) stood.shown;
      viewed = subst (λ (l : Option Log). Told l (λ log. AreViewed rows (history ++ entry ∷ []))) (sym is.log) (viewed_next before.log stood.shown stood.viewed (is.viewed stable));
      caused = caused_more (tally_at origin) history entry stood.caused (caused drew);
      running = subst (λ (o : Option ℕ). IsNone o) (sym (stopped_more origin history entry ∙ ap (λ (b : Bool). cond b (Some tally.count) tally.stopped) is.whole)) stood.running;
      faults = omega (arith, ap (λ (t : Tally). t.folder_faults) more);
      moment = omega (arith, ap (λ (t : Tally). t.moment) more);
    }

    made_so : IsMadeReading turn.asked before after source (made stable)
    made_so = record { same = refl; folder = (refl, refl); entropy = (refl, refl); undrawn = is.undrawn; whole = is.whole; moment = refl }

    pub adds_one : tally.entropy_faults caller ≤ source.faults → (m : Made) × IsMadeReading turn.asked before after source m × IsReadOnlyOf tree after rows origin (history ++ entry_of caller m ∷ [])
    adds_one drew = (made stable, made_so, stands_for drew)

viewing_adds : (tree : VaultTree) (before after : FolderView) (asked : Asked) → ((source : EntropyView) → IsTurnOf asked (IsViewing tree before after source)) → AddsReading tree before after asked
viewing_adds tree before after asked is source rows origin history caller stood drew =
    subst (λ (a : Asked). (m : Made) × IsMadeReading a before after source m × IsReadOnlyOf tree after rows origin (history ++ entry_of caller m ∷ [])) (is source).same
    (adds_one tree before after source (is source).turn (is source).is rows origin history caller stood drew)

-- a reply after which all is as it was
still_viewing : (tree : VaultTree) (before after : FolderView) (source : EntropyView) (turn : Turn) → IsReading turn.asked.request → IsStillTurn (view_of tree [] 0 None) (counted (view_of tree [] 0 None)) before after source source turn
    → IsViewing tree before after source turn
still_viewing tree before after source turn reads is = record {
  log = is.log;
  later = is.is_turn.folder;
  cause = is.is_turn.cause;
  unstopped = is.is_turn.unstopped;
  whole = is.whole;
  undrawn = none_drawn turn.drawn (λ some. reading_draws turn.asked.request reads (is.is_turn.may_draw some));
  viewed = λ stable. told_then (disk_in before.log)
      (λ d. (contents : ℕ → Content) → StandsOn (sealing_of tree.keys) d tree.live tree.claims contents → IsAnswered (live_rows contents tree.live) (made_of turn before after source source))
      (ViewedOn tree before after source turn stable) is.allowed (λ d allowed contents stands. record { reading = λ asked. allowed contents stands; changing = λ changes. absurd (changes reads) });
}

pub still_adds : (tree : VaultTree) (before after : FolderView) (request : PlainRequest) (second : ℕ) (reply : Reply) (buffer buffer' : List ℕ) → IsReading request
    → ((source : EntropyView) → IsStill (view_of tree [] 0 None) (view_of tree [] 0 None) before after source source request second reply buffer buffer')
    → AddsReading tree before after (asked_of request second (plain_reply reply) buffer')
still_adds tree before after request second reply buffer buffer' reads is =
    viewing_adds tree before after (asked_of request second (plain_reply reply) buffer') (λ source.
    let turn = (is source).turn in
    record {
      turn = turn.turn;
      same = turn.same;
      is = still_viewing tree before after source turn.turn (subst (λ (a : Asked). IsReading a.request) (sym turn.same) reads) turn.is;
    })

-- a request that would change something is refused
pub refusal_adds : (tree : VaultTree) (folder : FolderView) (request : PlainRequest) (second : ℕ) (buffer : List ℕ) → (IsReading request → ⊥) → AddsReading tree folder folder (asked_of request second (refused refusals.NotPermitted) buffer)
refusal_adds tree folder request second buffer changes =
    viewing_adds tree folder folder (asked_of request second (refused refusals.NotPermitted) buffer) (λ source.
    let turn : Turn = record { asked = asked_of request second (refused refusals.NotPermitted) buffer; drawn = None; taken = None; commit_failed = false } in
    record {
      turn = turn;
      same = refl;
      is = record {
        log = refl;
        later = omega arith;
        cause = tt;
        unstopped = refl;
        whole = refl;
        undrawn = refl;
        viewed = λ stable. told_always (disk_in folder.log) (ViewedOn tree folder folder source turn stable)
            (λ d contents stands. record {
              reading = λ reads. absurd (changes reads);
              changing = λ asked. ap (λ (bytes : List ℕ). record { reply = refused refusals.NotPermitted; bytes = bytes }) (no_bytes request refusals.NotPermitted buffer);
            });
      };
    })
