-- The turns of a store that runs: what each adds to the history that it stood for.
use Rattle.std.proofs.Common.{◌≡◌, ℕ, suc, ◌≤◌, List, [], ◌∷◌, ◌++◌, length, Bool, true, false, cond, ◌&&◌, Option, Some, None, IsNone, IsSome, refl, sym, ap, subst, ◌∙◌, inl, inr, arith, true≢false}
use Rattle.std.specs.Option.{option_map}
use Rattle.outside.specs.Calls.{Changes, Told}
use Rattle.outside.specs.Disk.{Disk}
use Rattle.outside.specs.Images.{Log, disk_in, log_at, now, moment}
use Rattle.outside.specs.Views.{FolderView, EntropyView}
use Rattle.outside.proofs.Told.{changed_by, unchanged}
use Rattle.vault_keys.specs.Keys.{KeyPair}
use Rattle.deeds.specs.Deeds.{PlainDeed, LogGoesOn}
use Rattle.deeds.proofs.Growing.{goes_nowhere, grown_on}
use Rattle.chunk_journal.specs.Journal.{AnyMoment, IsAlike}
use Rattle.pending_files.specs.Laid.{CanWait, LookAlike, laid, laid_log}
use Rattle.pending_files.proofs.Batched.{is_repeatable}
use Rattle.pending_files.proofs.Laying.{looks_alike, none_waits}
use Rattle.tree_model.specs.declared.refusal.Refusal.TheVariants as refusals
use Rattle.tree_model.specs.Rows.{Content, Rows}
use Rattle.tree_model.specs.Asked.{PlainReply, refused}
use Rattle.tree_model.specs.Step.{step}
use Rattle.tree_model.specs.History.{Made, Entry, Origin, Tally, entry_of, tally_at, tally_of, answer_of, is_stable, is_refusal, rows_at, rows_after, rows_then, next, HasCause, MayCommit, IsCaused, IsAnswered, AreAnswered}
use Rattle.tree_model.proofs.Histories.{after_more, after_count, after_stable, rows_after_more, caused_more, answered_more}
use Rattle.clear_tree.specs.Walk.{Sealing}
use Rattle.tree_loading.specs.Format.{sealing_of}
use Rattle.tree_deed_laws.specs.Shapes.{HasTree}
use Rattle.version_laws.specs.RowVersions.{wrapped}
use Rattle.version_laws.proofs.Steps.{steps_are_same}
use Rattle.version_laws.proofs.Histories.{answered_in_both, rows_then_are_same}
use Rattle.live_tree.specs.Held.{HeldTree, live_rows}
use Rattle.node_changes.specs.Changed.{StandsOn, ShowsRows, HasChanged, MayHaveChanged}
use Rattle.node_changes.specs.Placed.{taken_for}
use Rattle.node_changes.specs.Within.{AreWithin}
use Rattle.crash_laws.specs.Crash.{DiskShows, rows_stepped}
use Rattle.crash_laws.specs.Stands.{IsRunning, IsBroken, IsInState}
use Rattle.crash_laws.specs.Stable.{is_kept, stable_then, IsStableNext}
use Rattle.crash_laws.proofs.Histories.{at_last, at_within, longer, rows_all, tally_stable}
use Rattle.crash_laws.proofs.Moves.{idles, idles_kept, commits, breaks, settles_broken, stays_broken}
use Rattle.crash_laws.proofs.Stable.{stable_next}
use Rattle.crash_laws.proofs.States.{state_runs, running_state, broken_state}
use Rattle.store_laws.specs.Store.{StoreView, bounded, moment_of, shows_under, ArePlaced, ArePlacedSince, HasRows, HasRowsLeft, IsPlacedOn, IsSaidFrom, IsStoredIn, IsStoreOf, IsTakenBy, KeepsFound}
use Rattle.store_laws.specs.Turns.{Draws, IsMadeOf, Turn, made_in, made_of, IsTurn, IsQuietTurn, IsChangedTurn, IsBrokenTurn, IsUnflushedTurn, QuietTurnsAdd, ChangedTurnsAdd, BrokenTurnsAdd, UnflushedTurnsAdd}
use Rattle.node_changes.proofs.Beside.{stands_beside}
use Rattle.live_tree_laws.specs.Strays.{KeepsStrays}
use Rattle.live_tree_laws.proofs.StrayTrees.{keeps_itself, keeps_then}
use Rattle.store_laws.proofs.Others.{keeps_alike, keeps_done}
use Rattle.store_laws.proofs.Shows.{shows_blind, stands_shows}
use Rattle.store_laws.proofs.Alike.{for_alike, looks_itself, looks_through}
use Rattle.store_laws.proofs.Placed.{HasBegun, at_its_end, begins_low, begun_goes_on, goes_later, none_past, not_both, opened_goes_on, placed_more}

pub bounded_suc : (n : ℕ) → bounded (suc (bounded n)) ≡ bounded (suc n)
bounded_suc n = omega arith

pub none_back : (o : Option ℕ) → IsNone (option_map bounded o) → IsNone o
none_back None none = none
none_back (Some f) none = let no : true ≡ false = none in absurd cc

pub none_not_some : (o : Option ℕ) (f : ℕ) → IsNone o → o ≡ Some f → ⊥
none_not_some None f none some = absurd cc
none_not_some (Some g) f none some = let no : true ≡ false = none in absurd cc

pub none_is : (o : Option ℕ) → IsNone o → o ≡ None
none_is None none = refl
none_is (Some f) none = let no : true ≡ false = none in absurd cc

pub and_false : (b : Bool) → (b && false) ≡ false
and_false true = refl
and_false false = refl

pub moments_rise : (old new : Option Log) (P : Log → Log → Type 0) → ((a b : Log) → P a b → moment a ≤ moment b) → Changes old new P → moment_of old ≤ moment_of new
moments_rise None None P rises change = omega arith
moments_rise None (Some b) P rises change = absurd change
moments_rise (Some a) None P rises change = absurd change
moments_rise (Some a) (Some b) P rises change = rises a b change

-- a cause since a turn began is one since its call began, with a count of the folder's faults that is no higher
earlier_cause : (turn : Turn) (begun : ℕ) (before after : FolderView) (source source' : EntropyView) (stable : ℕ) (reply : PlainReply)
    → begun ≤ before.faults → HasCause (made_of turn before after source source') reply → HasCause (made_in turn begun after source source' stable) reply
earlier_cause turn begun before after source source' stable (refused refusals.DeviceFault) early cause = elim cause [
  | inl rose ↦ inl (omega (arith, rose, early))
  | inr full ↦ inr full
]
earlier_cause turn begun before after source source' stable (refused refusals.RandomFault) early cause = cause
earlier_cause turn begun before after source source' stable (refused refusals.OutOfMemory) early cause = cause
earlier_cause turn begun before after source source' stable (refused (refusals.PlaceTaken path)) early cause = cause
earlier_cause turn begun before after source source' stable (refused (refusals.Exhausted ticket)) early cause = cause
earlier_cause turn begun before after source source' stable reply early cause = cause

module _ (old new : StoreView) (begun : ℕ) (before after : FolderView) (source source' : EntropyView) (turn : Turn) (found : Option Log) (rows : Rows) (origin : Origin) (history : List Entry) (caller : ℕ) where
  abbrev tally : Tally
  tally = tally_of origin history

  abbrev made : Made
  made = made_in turn begun after source source' (stable_then turn.asked.request turn.asked.reply tally.stable (suc (length history)))

  abbrev entry : Entry
  entry = entry_of caller made

  abbrev s : Sealing
  s = sealing_of old.keys

  abbrev Shows : DiskShows
  Shows = shows_under found old.keys

  abbrev Before : Type 0
  Before = IsStoreOf found old before rows origin history

  abbrev Stored : Log → Type 0
  Stored log = IsStoredIn found old rows origin history log

  abbrev StoredNext : Log → Type 0
  StoredNext log = IsStoredIn found new rows origin (history ++ entry ∷ []) log

  abbrev AllowedOn : Disk → Type 0
  AllowedOn d = (contents : ℕ → Content) → StandsOn s d old.live old.claims contents → IsAnswered (live_rows contents old.live) (made_of turn before after source source')

  abbrev ShownOn : Log → Type 0
  ShownOn log = (contents : ℕ → Content) → StandsOn s (laid old.waiting (now log)) old.live old.claims contents
      → ShowsRows s (rows_then (live_rows contents old.live) (made_of turn before after source source')) (laid new.waiting (now log)) new.live new.claims

  abbrev WaitsOn : Log → Type 0
  WaitsOn log = CanWait new.waiting (now log)

  abbrev WithinOn : Log → Type 0
  WithinOn log = AreWithin old.waiting → AreWithin new.waiting

  abbrev SparesOn : Log → Type 0
  SparesOn log = (contents : ℕ → Content) → StandsOn s (laid old.waiting (now log)) old.live old.claims contents → KeepsStrays s (laid old.waiting (now log)) (laid new.waiting (now log))

  abbrev TakenOn : Disk → Type 0
  TakenOn d = turn.taken ≡ taken_for s d old.live turn.asked.request turn.drawn

  abbrev ChangedTo : Log → Log → Type 0
  ChangedTo a b = HasChanged s turn.asked.request turn.asked.second (answer_of (made_of turn before after source source')) old.live new.live old.claims new.claims a b

  abbrev MayChangeTo : Log → Log → Type 0
  MayChangeTo a b = MayHaveChanged s turn.asked.request turn.asked.second old.live new.live old.claims new.claims a b

  -- ---- counts

  pub counted : tally.count ≡ length history
  counted = omega (arith, after_count (tally_at origin) history)

  pub stable : Before → IsStableNext turn.asked.request turn.asked.reply tally.stable (length history) (length history) made.stable
  stable store = stable_next turn.asked.request turn.asked.reply tally.stable (length history) (length history) (omega (arith, after_stable (tally_at origin) history (omega arith) store.caused)) (omega arith)

  pub not_stopped : IsNone old.stopped → Before → IsNone tally.stopped
  not_stopped running store = none_back tally.stopped (subst (λ (o : Option ℕ). IsNone o) store.stopped running)

  -- what it adds to what the store stood for
  pub adds_to : Before → IsCaused tally entry → Changes before.log after.log LogGoesOn → Told after.log StoredNext → new.stopped ≡ option_map bounded (next tally entry).stopped → new.entries ≡ bounded (suc old.entries)
      → IsStoreOf found new after rows origin (history ++ entry ∷ [])
  adds_to store caused grown stored stopped entries =
      let more : tally_of origin (history ++ entry ∷ []) ≡ next tally entry = after_more (tally_at origin) history entry in
      record {
        stored = stored;
        grown = grown_on found before.log after.log store.grown grown;
        opened = opened_goes_on origin.moment found before.log after.log (begins_low origin history (moment_of before.log) store.caused store.moment) store.opened grown;
        caused = caused_more (tally_at origin) history entry store.caused caused;
        faults = omega (arith, ap (λ (t : Tally). t.folder_faults) more);
        moment = omega (arith, ap (λ (t : Tally). t.moment) more);
        stopped = stopped ∙ ap (λ (t : Tally). option_map bounded t.stopped) (sym more);
        count = entries ∙ ap (λ (n : ℕ). bounded (suc n)) store.count ∙ bounded_suc (length history) ∙ ap bounded (sym (longer history entry));
      }

  -- ---- of a store that runs

  module _ (is : IsTurn old new before after source source' turn) where
    abbrev Flag : Type 0
    Flag = turn.commit_failed ≡ true → (turn.asked.reply ≡ refused refusals.DeviceFault) × MayCommit turn.asked.request

    pub caused : Before → tally.folder_faults ≤ begun → begun ≤ before.faults → tally.entropy_faults caller ≤ source.faults
        → moment_of before.log ≤ moment_of after.log → Flag → IsCaused tally entry
    caused store since early drew later flag =
        let next_stable = stable store in
        record {
          running = λ none.
              (earlier_cause turn begun before after source source' made.stable turn.asked.reply early is.cause, is.unstopped);
          stopped = λ f at. absurd (none_not_some tally.stopped f (not_stopped is.running store) at);
          flag = flag;
          drawn = is.may_draw;
          folder_since = since;
          folder = omega (arith, early, is.folder);
          entropy_since = drew;
          entropy = is.entropy;
          stable_since = next_stable.since;
          stable_within = omega (arith, next_stable.within, counted);
          kept = λ stable_request accepted. next_stable.kept stable_request accepted ∙ ap suc (sym counted);
          moment_since = omega (arith, store.moment, later);
        }

    drawn_so : Changes source.drawn source'.drawn (Draws made)
    drawn_so = changed_by source.drawn source'.drawn (Draws (made_of turn before after source source')) (Draws made)
        (λ a b draws. record { more = draws.more; on = draws.on; identifier = draws.identifier; unspent = draws.unspent }) is.drawn

    pub made_so : IsMadeOf turn.asked old begun before after source source' made
    made_so = record {
      same = refl;
      folder = (refl, refl);
      entropy = (refl, refl);
      drawn = drawn_so;
      taken = is.taken;
      moment = refl;
    }

    -- ---- rows

    pub answered_next : (d : Disk) → AllowedOn d → HasRows old d rows history → IsAnswered (rows_after rows history) made
    answered_next d allowed has = answered_in_both (live_rows has.contents old.live) (rows_after rows history) made (sym has.current) (allowed has.contents has.stands)

    same_next : (contents contents' : ℕ → Content) → wrapped (rows_after rows history) ≡ wrapped (live_rows contents old.live)
        → wrapped (live_rows contents' new.live) ≡ wrapped (rows_then (live_rows contents old.live) made) → wrapped (rows_then (rows_after rows history) made) ≡ wrapped (live_rows contents' new.live)
    same_next contents contents' current shows = rows_then_are_same (rows_after rows history) (live_rows contents old.live) made current ∙ sym shows

    -- the disk shows them, as they are numbered
    shows_next : (d : Disk) (contents : ℕ → Content) → StandsOn s d new.live new.claims contents → wrapped (rows_then (rows_after rows history) made) ≡ wrapped (live_rows contents new.live)
        → KeepsFound found old.keys d → Shows d (rows_then (rows_at rows history (length history)) made)
    shows_next d contents stands same others = record {
      tree = subst (λ (r : Rows). HasTree s d (rows_then r made)) (rows_all rows history) (stands_shows s d new.live new.claims contents (rows_then (rows_after rows history) made) stands same);
      others = others;
    }

    has_next : (d : Disk) (contents : ℕ → Content) → StandsOn s d new.live new.claims contents → wrapped (rows_then (rows_after rows history) made) ≡ wrapped (live_rows contents new.live)
        → HasRows new d rows (history ++ entry ∷ [])
    has_next d contents stands same = record {
      contents = contents;
      stands = subst (λ (k : KeyPair). StandsOn (sealing_of k) d new.live new.claims contents) (sym is.keys) stands;
      current = ap wrapped (rows_after_more rows history entry) ∙ same;
    }

    -- ---- on a log

    pub state_next : (opened : ℕ) (log : Log) → IsInState Shows opened rows (history ++ entry ∷ []) new.waiting log (tally_of origin (history ++ entry ∷ [])).stopped
        → IsInState (shows_under found new.keys) opened rows (history ++ entry ∷ []) new.waiting log (tally_of origin (history ++ entry ∷ [])).stopped
    state_next opened log state =
        subst (λ (k : KeyPair). IsInState (shows_under found k) opened rows (history ++ entry ∷ []) new.waiting log (tally_of origin (history ++ entry ∷ [])).stopped) (sym is.keys) state

    pub runs : (log : Log) → Before → Stored log → (opened : ℕ) → IsSaidFrom found origin opened → IsRunning Shows opened rows history old.waiting log
    runs log store stored opened from = state_runs Shows opened rows history old.waiting log tally.stopped (not_stopped is.running store) (stored.state opened from)

    -- with nothing that waits
    runs_idle : old.waiting ≡ [] → (log : Log) → Before → Stored log → (opened : ℕ) → IsSaidFrom found origin opened → IsRunning Shows opened rows history [] log
    runs_idle none log store stored opened from = subst (λ (w : List PlainDeed). IsRunning Shows opened rows history w log) none (runs log store stored opened from)

    shown_idle : old.waiting ≡ [] → (log : Log) → laid old.waiting (now log) ≡ now log
    shown_idle none log = ap (λ (w : List PlainDeed). laid w (now log)) none

    has_idle : old.waiting ≡ [] → (log : Log) → Before → Stored log → HasRows old (now log) rows history
    has_idle none log store stored = subst (λ (d : Disk). HasRows old d rows history) (shown_idle none log) (stored.tree (not_stopped is.running store))

    -- what is stable so far is on the disk
    held : (log : Log) (opened : ℕ) → (running : IsRunning Shows opened rows history old.waiting log) → tally.stable ≤ running.base
    held log opened running = tally_stable (tally_at origin) history running.base (omega arith) (λ i x there. running.holds i x there (running.ended i x there (at_within history i x there)))

    -- the place that is taken
    placed_so : (log : Log) → Before → Stored log → TakenOn (now log) → IsPlacedOn old.keys (now (log_at log tally.moment)) (rows_after rows history) made
    placed_so log store stored taken =
        let none = not_stopped is.running store in
        let then : Disk = now (log_at log tally.moment) in
        let since : LookAlike then (now log) = stored.since none in
        let has : HasRows old (laid old.waiting (now log)) rows history = stored.tree none in
        record {
          live = old.live;
          claims = old.claims;
          contents = has.contents;
          later = laid old.waiting (now log);
          alike = looks_through then (now log) (laid old.waiting (now log)) since (looks_alike old.waiting (now log) (stored.waits none));
          stands = has.stands;
          current = has.current;
          taken = taken ∙ sym (for_alike s then (now log) old.live turn.drawn since turn.asked.request);
        }

    pub placed_next : (a b : Log) → Before → moment_of before.log ≡ moment a → LogGoesOn a b → Stored a → TakenOn (now a) → ArePlaced new.keys rows origin (history ++ entry ∷ []) b
    placed_next a b store at grown stored taken =
        subst (λ (k : KeyPair). ArePlaced k rows origin (history ++ entry ∷ []) b) (sym is.keys)
        (placed_more (λ (o : Option ℕ). IsNone o) (IsPlacedOn old.keys) rows origin history entry a b grown store.caused (omega (arith, store.moment, at)) stored.placed (λ none. placed_so a store stored taken))

    -- no commit failed before it
    placed_since_next : (a b : Log) → Before → moment_of before.log ≡ moment a → LogGoesOn a b → ArePlacedSince new.keys new.live origin (history ++ entry ∷ []) b
    placed_since_next a b store at grown =
        let none = not_stopped is.running store in
        placed_more (λ (o : Option ℕ). IsSome o) (λ d r made. IsTakenBy new.keys new.live d made) rows origin history entry a b grown store.caused (omega (arith, store.moment, at))
        (none_past new.keys new.live origin history a none) (λ some. absurd (not_both tally.stopped none some))

    -- what a stop recovered to before the history began
    pub begun_next : (a b : Log) → Before → moment_of before.log ≡ moment a → LogGoesOn a b → Stored a → HasBegun found new.keys rows origin b
    begun_next a b store at grown stored =
        subst (λ (k : KeyPair). HasBegun found k rows origin b) (sym is.keys)
        (begun_goes_on found old.keys rows origin history a b grown store.caused (omega (arith, store.moment, at)) stored.begun)

    -- no time has gone by since
    rests_next : (log : Log) → made.moment ≡ moment log → (tally_of origin (history ++ entry ∷ [])).moment ≡ moment log
    rests_next log at = ap (λ (t : Tally). t.moment) (after_more (tally_at origin) history entry) ∙ at

    since_next : (log : Log) → made.moment ≡ moment log → LookAlike (now (log_at log (tally_of origin (history ++ entry ∷ [])).moment)) (now log)
    since_next log at =
        let here : now (log_at log (tally_of origin (history ++ entry ∷ [])).moment) ≡ now log =
        ap (λ (m : ℕ). now (log_at log m)) (rests_next log at) ∙ ap now (at_its_end log) in
        subst (λ (d : Disk). LookAlike d (now log)) (sym here) (looks_itself (now log))

    -- it runs on
    none_next : Before → turn.commit_failed ≡ false → IsNone (tally_of origin (history ++ entry ∷ [])).stopped
    none_next store whole =
        subst (λ (o : Option ℕ). IsNone o) (sym (ap (λ (t : Tally). t.stopped) (after_more (tally_at origin) history entry) ∙ ap (λ (b : Bool). cond b (Some tally.count) tally.stopped) whole)) (not_stopped is.running store)

    -- whose commits all succeeded
    runs_next : (log : Log) → Before → turn.commit_failed ≡ false → made.moment ≡ moment log → AreAnswered rows (tally_at origin) history → IsAnswered (rows_after rows history) made → WaitsOn log → (contents : ℕ → Content)
        → StandsOn s (laid new.waiting (now log)) new.live new.claims contents → wrapped (rows_then (rows_after rows history) made) ≡ wrapped (live_rows contents new.live)
        → AreWithin new.waiting → KeepsStrays s (now log) (laid new.waiting (now log)) → KeepsFound found old.keys (now log)
        → ((opened : ℕ) → IsSaidFrom found origin opened → IsRunning Shows opened rows (history ++ entry ∷ []) new.waiting log) → HasBegun found new.keys rows origin log
        → ArePlaced new.keys rows origin (history ++ entry ∷ []) log → StoredNext log
    runs_next log store whole at answered so waits contents stands same within strays others running begun placed = record {
      placed = placed;
      placed_since = none_past new.keys new.live origin (history ++ entry ∷ []) log (none_next store whole);
      left = λ some. absurd (not_both (tally_of origin (history ++ entry ∷ [])).stopped (none_next store whole) some);
      rests = λ some. rests_next log at;
      begun = begun;
      state = λ opened from. state_next opened log (running_state Shows opened rows origin history entry new.waiting log (not_stopped is.running store) whole (running opened from));
      waits = λ none. waits;
      within = λ none. within;
      strays = λ none. subst (λ (k : KeyPair). KeepsStrays (sealing_of k) (now log) (laid new.waiting (now log))) (sym is.keys) strays;
      others = λ none. subst (λ (k : KeyPair). KeepsFound found k (now log)) (sym is.keys) others;
      since = λ none. since_next log at;
      tree = λ none. has_next (laid new.waiting (now log)) contents stands same;
      answered = answered_more rows (tally_at origin) history entry answered (λ none. so);
    }

    abbrev Kept : Type 0
    Kept = is_kept turn.asked.request turn.asked.reply ≡ true → (old.waiting ≡ []) × (new.waiting ≡ [])

    -- it stays on top of what waits, or all that there was is on the disk
    idles_on : (log : Log) (opened : ℕ) → Before → Stored log → IsSaidFrom found origin opened → made.moment ≡ moment log → WaitsOn log → Kept
        → Shows (laid new.waiting (now log)) (rows_then (rows_at rows history (length history)) made) → (b : Bool) → is_kept turn.asked.request turn.asked.reply ≡ b
        → IsRunning Shows opened rows (history ++ entry ∷ []) new.waiting log
    idles_on log opened store stored from at waits kept shows true e =
        let none = kept e in
        subst (λ (w : List PlainDeed). IsRunning Shows opened rows (history ++ entry ∷ []) w log) (sym none.1)
        (idles_kept Shows opened rows history log entry (runs_idle none.0 log store stored opened from) at (stable store).within
        (subst (λ (d : Disk). Shows d (rows_then (rows_at rows history (length history)) made)) (ap (λ (w : List PlainDeed). laid w (now log)) none.1) shows))
    idles_on log opened store stored from at waits kept shows false e =
        let running = runs log store stored opened from in
        idles Shows opened rows history old.waiting new.waiting log entry running at
        (omega (arith, ap (λ (k : Bool). cond k (suc (length history)) tally.stable) e, held log opened running)) (laid new.waiting (now log)) waits.does shows

    quiet_on : (log : Log) → Before → turn.commit_failed ≡ false → moment_of before.log ≡ moment log → made.moment ≡ moment log → Stored log → AllowedOn (laid old.waiting (now log)) → WaitsOn log → WithinOn log → SparesOn log → ShownOn log → Kept → TakenOn (now log)
        → StoredNext log
    quiet_on log store whole was at stored allowed waits within spares shown kept taken =
        let none = not_stopped is.running store in
        let still : AreWithin new.waiting = within (stored.within none) in
        let has : HasRows old (laid old.waiting (now log)) rows history = stored.tree (not_stopped is.running store) in
        let strays : KeepsStrays s (now log) (laid new.waiting (now log)) =
        keeps_then s (now log) (laid old.waiting (now log)) (laid new.waiting (now log)) (stored.strays none) (spares has.contents has.stands) in
        let others : KeepsFound found old.keys (laid new.waiting (now log)) = keeps_done found old.keys new.waiting (now log) (laid new.waiting (now log)) still strays waits.does (stored.others none) in
        let to = shown has.contents has.stands in
        let same = same_next has.contents to.contents has.current to.shows in
        runs_next log store whole at stored.answered (answered_next (laid old.waiting (now log)) allowed has) waits to.contents to.stands same still strays (stored.others none)
        (λ opened from. idles_on log opened store stored from at waits kept (shows_next (laid new.waiting (now log)) to.contents to.stands same others) (is_kept turn.asked.request turn.asked.reply) refl)
        (begun_next log log store was (goes_nowhere log) stored) (placed_next log log store was (goes_nowhere log) stored taken)

    accepted_rows : (r : Rows) → is_refusal turn.asked.reply ≡ false → rows_then r made ≡ (step r turn.asked.request turn.asked.second).rows
    accepted_rows r accepted = ap (λ (b : Bool). cond b r (step r turn.asked.request turn.asked.second).rows) accepted

    abbrev Idle : Type 0
    Idle = (old.waiting ≡ []) × (new.waiting ≡ [])

    changed_on : (a b : Log) → Before → Idle → turn.commit_failed ≡ false → is_refusal turn.asked.reply ≡ false → moment_of before.log ≡ moment a → made.moment ≡ moment b → Stored a → AllowedOn (laid old.waiting (now a)) → TakenOn (now a) → ChangedTo a b
        → StoredNext b
    changed_on a b store idle whole accepted was at stored allowed taken change =
        let has : HasRows old (now a) rows history = has_idle idle.0 a store stored in
        let to = change.makes.stepped has.contents has.stands in
        let same = same_next has.contents to.contents has.current (to.shows ∙ ap wrapped (sym (accepted_rows (live_rows has.contents old.live) accepted))) in
        let left : KeepsFound found old.keys change.makes.after =
        keeps_done found old.keys change.deeds (now a) change.makes.after change.makes.within change.makes.strays change.makes.does (stored.others (not_stopped is.running store)) in
        let shows = shows_next change.makes.after to.contents to.stands same left in
        let alike : IsAlike change.makes.after (now b) = change.committed.after change.makes.after change.makes.does in
        let stands = stands_beside s change.makes.after (now b) new.live new.claims to.contents to.stands change.committed.at_rest.steady.tree alike in
        let none : laid new.waiting (now b) ≡ now b = ap (λ (w : List PlainDeed). laid w (now b)) idle.1 in
        let goes : LogGoesOn a b = change.any_moment.tidy.grown in
        runs_next b store whole at stored.answered (answered_next (now a) (subst AllowedOn (shown_idle idle.0 a) allowed) has)
        (subst (λ (w : List PlainDeed). CanWait w (now b)) (sym idle.1) (none_waits (now b))) to.contents (subst (λ (d : Disk). StandsOn s d new.live new.claims to.contents) (sym none) stands) same
        (subst AreWithin (sym idle.1) tt) (subst (λ (d : Disk). KeepsStrays s (now b) d) (sym none) (keeps_itself s (now b)))
        (keeps_alike found old.keys change.makes.after (now b) to.stands.is.host change.committed.at_rest.steady.tree alike left)
        (λ opened from. subst (λ (w : List PlainDeed). IsRunning Shows opened rows (history ++ entry ∷ []) w b) (sym idle.1)
        (commits Shows opened rows (shows_blind found old.keys) history change.deeds a b entry change.makes.after change.makes.repeatable (runs_idle idle.0 a store stored opened from) change.makes.does shows at (stable store).within
        change.any_moment change.committed))
        (begun_next a b store was goes stored) (placed_next a b store was goes stored taken)

    -- ---- on a log, after a commit that failed

    pub unkept : turn.asked.reply ≡ refused refusals.DeviceFault → is_kept turn.asked.request turn.asked.reply ≡ false
    unkept reply = ap (λ (r : PlainReply). is_kept turn.asked.request r) reply ∙ and_false (is_stable turn.asked.request)

    pub flagged : turn.commit_failed ≡ true → (next tally entry).stopped ≡ Some tally.count
    flagged failed = ap (λ (b : Bool). cond b (Some tally.count) tally.stopped) failed

    same_stepped : (contents contents' : ℕ → Content) → wrapped (rows_after rows history) ≡ wrapped (live_rows contents old.live)
        → wrapped (live_rows contents' new.live) ≡ wrapped (step (live_rows contents old.live) turn.asked.request turn.asked.second).rows → wrapped (rows_stepped (rows_after rows history) made) ≡ wrapped (live_rows contents' new.live)
    same_stepped contents contents' current shows = (steps_are_same (rows_after rows history) (live_rows contents old.live) turn.asked.request turn.asked.second current).rows ∙ sym shows

    shows_stepped : (d : Disk) (contents contents' : ℕ → Content) → wrapped (rows_after rows history) ≡ wrapped (live_rows contents old.live) → StandsOn s d new.live new.claims contents'
        → wrapped (live_rows contents' new.live) ≡ wrapped (step (live_rows contents old.live) turn.asked.request turn.asked.second).rows → KeepsFound found old.keys d → Shows d (rows_stepped (rows_at rows history (length history)) made)
    shows_stepped d contents contents' current stands shows others = record {
      tree = subst (λ (r : Rows). HasTree s d (rows_stepped r made)) (rows_all rows history)
          (stands_shows s d new.live new.claims contents' (rows_stepped (rows_after rows history) made) stands (same_stepped contents contents' current shows));
      others = others;
    }

    -- the entry counts for nothing in the rows
    rows_stay : turn.asked.reply ≡ refused refusals.DeviceFault → rows_after rows (history ++ entry ∷ []) ≡ rows_after rows history
    rows_stay reply =
        let so_far = rows_after rows history in
        rows_after_more rows history entry ∙ ap (λ (r : PlainReply). cond (is_refusal r) so_far (step so_far turn.asked.request turn.asked.second).rows) reply

    -- its change is in the tree in memory
    left_changed : (contents contents' : ℕ → Content) → turn.commit_failed ≡ true → turn.asked.reply ≡ refused refusals.DeviceFault → wrapped (rows_after rows history) ≡ wrapped (live_rows contents old.live)
        → wrapped (live_rows contents' new.live) ≡ wrapped (step (live_rows contents old.live) turn.asked.request turn.asked.second).rows → HasRowsLeft new rows (history ++ entry ∷ [])
    left_changed contents contents' failed reply current shows = record {
      contents = contents';
      current = inr (record {
        number = length history;
        entry = entry;
        there = at_last history entry;
        failed = failed;
        stepped = ap (λ (r : Rows). wrapped (rows_stepped r made)) (rows_stay reply) ∙ same_stepped contents contents' current shows;
      });
    }

    -- or the tree is the one that it was
    pub left_same : turn.asked.reply ≡ refused refusals.DeviceFault → new.live ≡ old.live → (d : Disk) → HasRows old d rows history → HasRowsLeft new rows (history ++ entry ∷ [])
    left_same reply live d has = record {
      contents = has.contents;
      current = inl (ap wrapped (rows_stay reply) ∙ has.current ∙ ap (λ (t : HeldTree). wrapped (live_rows has.contents t)) (sym live));
    }

    -- nothing more is said of the tree in memory
    stops_tree : {P : Type 0} → turn.commit_failed ≡ true → IsNone (tally_of origin (history ++ entry ∷ [])).stopped → P
    stops_tree failed none = absurd (none_not_some (tally_of origin (history ++ entry ∷ [])).stopped tally.count none (ap (λ (t : Tally). t.stopped) (after_more (tally_at origin) history entry) ∙ flagged failed))

    pub broken_next : (a b : Log) → Before → turn.commit_failed ≡ true → moment_of before.log ≡ moment a → made.moment ≡ moment b → LogGoesOn a b → Stored a → AllowedOn (laid old.waiting (now a)) → TakenOn (now a)
        → HasRowsLeft new rows (history ++ entry ∷ []) → ((opened : ℕ) → IsSaidFrom found origin opened → IsBroken Shows opened rows (history ++ entry ∷ []) b) → StoredNext b
    broken_next a b store failed was at grown stored allowed taken left broken = record {
      placed = placed_next a b store was grown stored taken;
      placed_since = placed_since_next a b store was grown;
      left = λ some. left;
      rests = λ some. rests_next b at;
      begun = begun_next a b store was grown stored;
      state = λ opened from. state_next opened b (broken_state Shows opened rows origin history entry new.waiting b (inl failed) (broken opened from));
      waits = λ none. stops_tree failed none;
      within = λ none. stops_tree failed none;
      strays = λ none. stops_tree failed none;
      others = λ none. stops_tree failed none;
      since = λ none. stops_tree failed none;
      tree = λ none. stops_tree failed none;
      answered = answered_more rows (tally_at origin) history entry stored.answered (λ none. answered_next (laid old.waiting (now a)) allowed (stored.tree (not_stopped is.running store)));
    }

    broken_on : (a b : Log) → Before → old.waiting ≡ [] → turn.commit_failed ≡ true → turn.asked.reply ≡ refused refusals.DeviceFault → moment_of before.log ≡ moment a → made.moment ≡ moment b → Stored a → AllowedOn (laid old.waiting (now a)) → TakenOn (now a)
        → MayChangeTo a b → StoredNext b
    broken_on a b store none failed reply was at stored allowed taken change =
        let has : HasRows old (now a) rows history = has_idle none a store stored in
        let to = change.makes.stepped has.contents has.stands in
        let left : KeepsFound found old.keys change.makes.after =
        keeps_done found old.keys change.deeds (now a) change.makes.after change.makes.within change.makes.strays change.makes.does (stored.others (not_stopped is.running store)) in
        let shows = shows_stepped change.makes.after has.contents to.contents has.current to.stands to.shows left in
        broken_next a b store failed was at change.any_moment.tidy.grown stored allowed taken
        (left_changed has.contents to.contents failed reply has.current to.shows)
        (λ opened from. breaks Shows opened rows (shows_blind found old.keys) history change.deeds a b entry change.makes.after change.makes.repeatable (runs_idle none a store stored opened from) change.makes.does shows at failed
        ((stable store).held (unkept reply)) change.any_moment)

    -- ---- if the folder tells its log

    abbrev ShownIn : Option Log → Option Disk
    ShownIn log = disk_in (option_map (laid_log old.waiting) log)

    quiet_told : (log : Option Log) → Before → turn.commit_failed ≡ false → moment_of before.log ≡ moment_of log → made.moment ≡ moment_of log → Told log Stored → Told (ShownIn log) AllowedOn → Told log WaitsOn → Told log WithinOn → Told log SparesOn → Told log ShownOn → Kept
        → Told (disk_in log) TakenOn → Told log StoredNext
    quiet_told None store whole was at stored allowed waits within spares shown kept taken = tt
    quiet_told (Some log) store whole was at stored allowed waits within spares shown kept taken = quiet_on log store whole was at stored allowed waits within spares shown kept taken

    changed_told : (a b : Option Log) → Before → Idle → turn.commit_failed ≡ false → is_refusal turn.asked.reply ≡ false → moment_of before.log ≡ moment_of a → made.moment ≡ moment_of b → Told a Stored → Told (ShownIn a) AllowedOn
        → Told (disk_in a) TakenOn → Changes a b ChangedTo → Told b StoredNext
    changed_told None None store idle whole accepted was at stored allowed taken change = tt
    changed_told None (Some b) store idle whole accepted was at stored allowed taken change = absurd change
    changed_told (Some a) None store idle whole accepted was at stored allowed taken change = absurd change
    changed_told (Some a) (Some b) store idle whole accepted was at stored allowed taken change = changed_on a b store idle whole accepted was at stored allowed taken change

    broken_told : (a b : Option Log) → Before → old.waiting ≡ [] → turn.commit_failed ≡ true → turn.asked.reply ≡ refused refusals.DeviceFault → moment_of before.log ≡ moment_of a → made.moment ≡ moment_of b → Told a Stored
        → Told (ShownIn a) AllowedOn → Told (disk_in a) TakenOn → Changes a b MayChangeTo → Told b StoredNext
    broken_told None None store none failed reply was at stored allowed taken change = tt
    broken_told None (Some b) store none failed reply was at stored allowed taken change = absurd change
    broken_told (Some a) None store none failed reply was at stored allowed taken change = absurd change
    broken_told (Some a) (Some b) store none failed reply was at stored allowed taken change = broken_on a b store none failed reply was at stored allowed taken change

    unflagged : turn.commit_failed ≡ false → Flag
    unflagged whole failed = absurd (true≢false (sym failed ∙ whole))

    goes_on : IsNone new.stopped → turn.commit_failed ≡ false → Before → new.stopped ≡ option_map bounded (next tally entry).stopped
    goes_on running whole store =
        none_is new.stopped running
        ∙ sym (ap (λ (o : Option ℕ). option_map bounded o) (ap (λ (b : Bool). cond b (Some tally.count) tally.stopped) whole ∙ none_is tally.stopped (not_stopped is.running store)))

  -- ---- an entry more

  abbrev Adds : Type 0
  Adds = (made : Made) × IsMadeOf turn.asked old begun before after source source' made × IsStoreOf found new after rows origin (history ++ entry_of caller made ∷ [])

  pub quiet_adds : begun ≤ before.faults → IsQuietTurn old new before after source source' turn → Before
      → tally.folder_faults ≤ begun → tally.entropy_faults caller ≤ source.faults → Adds
  quiet_adds early is store since drew = (
    made,
    made_so is.is_turn,
    adds_to store (caused is.is_turn store since early drew (omega (arith, ap moment_of is.log)) (unflagged is.is_turn is.whole))
        (unchanged before.log after.log LogGoesOn is.log goes_nowhere)
        (subst (λ (o : Option Log). Told o StoredNext) (sym is.log) (quiet_told is.is_turn before.log store is.whole refl (ap moment_of is.log) store.stored is.allowed is.waits is.within is.strays is.shown is.kept is.is_turn.taken))
        (goes_on is.is_turn is.goes_on is.whole store) is.is_turn.entries,
  )

  pub changed_adds : begun ≤ before.faults → IsChangedTurn old new before after source source' turn → Before
      → tally.folder_faults ≤ begun → tally.entropy_faults caller ≤ source.faults → Adds
  changed_adds early is store since drew = (
    made,
    made_so is.is_turn,
    adds_to store
        (caused is.is_turn store since early drew
        (moments_rise before.log after.log ChangedTo (λ a b change. goes_later a b change.any_moment.tidy.grown) is.changed)
        (unflagged is.is_turn is.whole))
        (changed_by before.log after.log ChangedTo LogGoesOn (λ a b change. change.any_moment.tidy.grown) is.changed)
        (changed_told is.is_turn before.log after.log store is.none is.whole is.accepted refl refl store.stored is.allowed is.is_turn.taken is.changed) (goes_on is.is_turn is.goes_on is.whole store) is.is_turn.entries,
  )

  pub broken_adds : begun ≤ before.faults → IsBrokenTurn old new before after source source' turn → Before
      → tally.folder_faults ≤ begun → tally.entropy_faults caller ≤ source.faults → Adds
  broken_adds early is store since drew = (
    made,
    made_so is.is_turn,
    adds_to store
        (caused is.is_turn store since early drew
        (moments_rise before.log after.log MayChangeTo (λ a b change. goes_later a b change.any_moment.tidy.grown) is.changed)
        (λ failed. (is.stops.reply, is.stops.may_commit)))
        (changed_by before.log after.log MayChangeTo LogGoesOn (λ a b change. change.any_moment.tidy.grown) is.changed)
        (broken_told is.is_turn before.log after.log store is.none is.stops.failed is.stops.reply refl refl store.stored is.allowed is.is_turn.taken is.changed)
        (is.stops.named ∙ ap Some (store.count ∙ ap bounded (sym counted)) ∙ sym (ap (λ (o : Option ℕ). option_map bounded o) (flagged is.is_turn is.stops.failed))) is.is_turn.entries,
  )

  -- the commit of what waited failed
  same_stable : turn.asked.reply ≡ refused refusals.DeviceFault → made.stable ≡ tally.stable
  same_stable reply = ap (λ (b : Bool). cond b (suc (length history)) tally.stable) (ap (λ (r : PlainReply). is_kept turn.asked.request r) reply ∙ and_false (is_stable turn.asked.request))

  module _ (is : IsUnflushedTurn old new before after source source' turn) where
    unflushed_on : (a b : Log) → Before → moment_of before.log ≡ moment a → made.moment ≡ moment b → Stored a → AllowedOn (laid old.waiting (now a)) → TakenOn (now a) → AnyMoment old.waiting a b → StoredNext b
    unflushed_on a b store was at stored allowed taken any =
        let waits : CanWait old.waiting (now a) = stored.waits (not_stopped is.is_turn.running store) in
        broken_next is.is_turn a b store is.stops.failed was at any.tidy.grown stored allowed taken
        (left_same is.is_turn is.stops.reply is.live (laid old.waiting (now a)) (stored.tree (not_stopped is.is_turn.running store)))
        (λ opened from. stays_broken Shows opened rows origin history b entry
        (settles_broken Shows opened rows (shows_blind found old.keys) history old.waiting a b (is_repeatable old.waiting waits.pending) (runs is.is_turn a store stored opened from) any) at (same_stable is.stops.reply))

    unflushed_told : (a b : Option Log) → Before → moment_of before.log ≡ moment_of a → made.moment ≡ moment_of b → Told a Stored → Told (disk_in (option_map (laid_log old.waiting) a)) AllowedOn → Told (disk_in a) TakenOn → Changes a b (AnyMoment old.waiting)
        → Told b StoredNext
    unflushed_told None None store was at stored allowed taken any = tt
    unflushed_told None (Some b) store was at stored allowed taken any = absurd any
    unflushed_told (Some a) None store was at stored allowed taken any = absurd any
    unflushed_told (Some a) (Some b) store was at stored allowed taken any = unflushed_on a b store was at stored allowed taken any

    -- the log goes on
    grown_so : Changes before.log after.log LogGoesOn
    grown_so = changed_by before.log after.log (AnyMoment old.waiting) LogGoesOn (λ a b any. any.tidy.grown) is.any_moment

    pub unflushed_adds : begun ≤ before.faults → Before → tally.folder_faults ≤ begun → tally.entropy_faults caller ≤ source.faults → Adds
    unflushed_adds early store since drew = (
      made,
      made_so is.is_turn,
      adds_to store
          (caused is.is_turn store since early drew (moments_rise before.log after.log LogGoesOn goes_later grown_so) (λ failed. (is.stops.reply, is.stops.may_commit)))
          grown_so
          (unflushed_told before.log after.log store refl refl store.stored is.allowed is.is_turn.taken is.any_moment)
          (is.stops.named ∙ ap Some (store.count ∙ ap bounded (sym counted)) ∙ sym (ap (λ (o : Option ℕ). option_map bounded o) (flagged is.is_turn is.stops.failed))) is.is_turn.entries,
    )

-- ---- the laws

pub unflushed_turns_add : UnflushedTurnsAdd
unflushed_turns_add old new before after source source' turn is found rows origin history caller store drew =
    unflushed_adds old new before.faults before after source source' turn found rows origin history caller is (omega arith)
    store store.faults drew

pub quiet_turns_add : QuietTurnsAdd
quiet_turns_add old new begun before after source source' turn early is found rows origin history caller store since drew =
    quiet_adds old new begun before after source source' turn found rows origin history caller early is store since drew

pub changed_turns_add : ChangedTurnsAdd
changed_turns_add old new begun before after source source' turn early is found rows origin history caller store since drew =
    changed_adds old new begun before after source source' turn found rows origin history caller early is store since drew

pub broken_turns_add : BrokenTurnsAdd
broken_turns_add old new begun before after source source' turn early is found rows origin history caller store since drew =
    broken_adds old new begun before after source source' turn found rows origin history caller early is store since drew
