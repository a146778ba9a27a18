-- A store once what waits is committed.
use Rattle.std.proofs.Common.{◌≡◌, ℕ, ◌≤◌, List, [], Option, Some, None, IsNone, IsSome, sym, subst, ◌∙◌, arith}
use Rattle.outside.specs.Calls.{Changes, Told}
use Rattle.outside.specs.Disk.{Disk, Path as HostPath}
use Rattle.outside.specs.Images.{Log, disk_in, log_at, moment, now}
use Rattle.outside.specs.Views.{FolderView, EntropyView}
use Rattle.outside.proofs.Told.{changed_by, changed_from}
use Rattle.deeds.specs.Deeds.{PlainDeed, LogGoesOn}
use Rattle.deeds.proofs.Growing.{grown_on}
use Rattle.chunk_journal.specs.Journal.{AnyMoment, HasCommitted, IsAlike}
use Rattle.pending_files.specs.Laid.{CanWait, LookAlike, laid}
use Rattle.pending_files.proofs.Batched.{is_repeatable}
use Rattle.pending_files.proofs.Laying.{looks_alike, none_waits}
use Rattle.tree_model.specs.Rows.{Rows}
use Rattle.tree_model.specs.Asked.{Asked, PlainRequest}
use Rattle.tree_model.specs.History.{Entry, Origin, Tally, tally_of}
use Rattle.tree_loading.specs.Format.{sealing_of}
use Rattle.node_changes.specs.Placed.{taken_for}
use Rattle.crash_laws.specs.Crash.{DiskShows}
use Rattle.crash_laws.specs.Stands.{IsRunning, IsInState}
use Rattle.crash_laws.proofs.Moves.{settles}
use Rattle.crash_laws.proofs.States.{state_runs}
use Rattle.store_laws.specs.Store.{StoreView, HasRows, IsPlacedOn, IsStoredIn, IsStoreOf, IsTakenBy, moment_of, shows_under}
use Rattle.store_laws.specs.Turns.{AddsEntry, AddsEntryFrom, FlushedTurnsAdd, FlushesStand, IsFlushed}
use Rattle.store_laws.proofs.Alike.{for_alike, looks_beside, looks_through}
use Rattle.store_laws.proofs.Placed.{begins_low, begun_goes_on, goes_later, not_both, opened_goes_on, places_go_on, read_then}
use Rattle.node_changes.proofs.Beside.{stands_beside}
use Rattle.live_tree_laws.proofs.StrayTrees.{keeps_itself}
use Rattle.store_laws.proofs.Others.{keeps_alike, keeps_done}
use Rattle.store_laws.proofs.Shows.{shows_blind}
use Rattle.store_laws.proofs.Turns.{moments_rise, none_back}

-- a store none of whose commits failed runs
in_state : (Shows : DiskShows) (opened : ℕ) (rows : Rows) (history : List Entry) (pending : List PlainDeed) (log : Log) (stopped : Option ℕ) → IsNone stopped → IsRunning Shows opened rows history pending log
    → IsInState Shows opened rows history pending log stopped
in_state Shows opened rows history pending log None none running = running
in_state Shows opened rows history pending log (Some f) none running = absurd cc

module _ (old : StoreView) (before after : FolderView) (found : Option Log) (rows : Rows) (origin : Origin) (history : List Entry) (store : IsStoreOf found old before rows origin history) (running : IsNone old.stopped) where
  abbrev tally : Tally
  tally = tally_of origin history

  abbrev idle : StoreView
  idle = record old { waiting = [] }

  abbrev Stored : Log → Type 0
  Stored log = IsStoredIn found old rows origin history log

  none : IsNone tally.stopped
  none = none_back tally.stopped (subst (λ (o : Option ℕ). IsNone o) store.stopped running)

  -- ---- on a log

  beside : (a b : Log) → Stored a → HasCommitted old.waiting a b → IsAlike (laid old.waiting (now a)) (now b)
  beside a b stored committed = committed.after (laid old.waiting (now a)) (stored.waits none).does

  looks : (a b : Log) → Stored a → HasCommitted old.waiting a b → LookAlike (now a) (now b)
  looks a b stored committed =
      looks_through (now a) (laid old.waiting (now a)) (now b) (looks_alike old.waiting (now a) (stored.waits none)) (looks_beside (laid old.waiting (now a)) (now b) (beside a b stored committed))

  flushed_on : (a b : Log) → tally.moment ≤ moment a → Stored a → HasCommitted old.waiting a b → AnyMoment old.waiting a b → IsStoredIn found idle rows origin history b
  flushed_on a b late stored committed any =
      let has : HasRows old (laid old.waiting (now a)) rows history = stored.tree none in
      let waits : CanWait old.waiting (now a) = stored.waits none in
      record {
        state = λ opened from. in_state (shows_under found old.keys) opened rows history [] b tally.stopped none
            (settles (shows_under found old.keys) opened rows (shows_blind found old.keys) history old.waiting a b (is_repeatable old.waiting waits.pending)
            (state_runs (shows_under found old.keys) opened rows history old.waiting a tally.stopped none (stored.state opened from)) any committed);
        begun = begun_goes_on found old.keys rows origin history a b any.tidy.grown store.caused late stored.begun;
        waits = λ _. none_waits (now b);
        within = λ _. tt;
        strays = λ _. keeps_itself (sealing_of old.keys) (now b);
        others = λ _. keeps_alike found old.keys (laid old.waiting (now a)) (now b) has.stands.is.host committed.at_rest.steady.tree (beside a b stored committed)
            (keeps_done found old.keys old.waiting (now a) (laid old.waiting (now a)) (stored.within none) (stored.strays none) waits.does (stored.others none));
        tree = λ _. record {
          contents = has.contents;
          stands = stands_beside (sealing_of old.keys) (laid old.waiting (now a)) (now b) old.live old.claims has.contents has.stands committed.at_rest.steady.tree (beside a b stored committed);
          current = has.current;
        };
        since = λ _. subst (λ (d : Disk). LookAlike d (now b)) (read_then a b tally.moment any.tidy.grown late)
            (looks_through (now (log_at a tally.moment)) (now a) (now b) (stored.since none) (looks a b stored committed));
        answered = stored.answered;
        placed = places_go_on (λ (o : Option ℕ). IsNone o) (IsPlacedOn old.keys) rows origin history a b any.tidy.grown store.caused late stored.placed;
        placed_since = places_go_on (λ (o : Option ℕ). IsSome o) (λ d r made. IsTakenBy old.keys old.live d made) rows origin history a b any.tidy.grown store.caused late stored.placed_since;
        left = λ some. absurd (not_both tally.stopped none some);
        rests = λ some. absurd (not_both tally.stopped none some);
      }

  -- ---- if the folder tells its log

  module _ (committed : Changes before.log after.log (HasCommitted old.waiting)) (any : Changes before.log after.log (AnyMoment old.waiting)) where
    flushed_told : (a b : Option Log) → tally.moment ≤ moment_of a → Told a Stored → Changes a b (HasCommitted old.waiting) → Changes a b (AnyMoment old.waiting) → Told b (IsStoredIn found idle rows origin history)
    flushed_told None None late stored done moments = tt
    flushed_told None (Some b) late stored done moments = absurd done
    flushed_told (Some a) None late stored done moments = absurd done
    flushed_told (Some a) (Some b) late stored done moments = flushed_on a b late stored done moments

    grown : Changes before.log after.log LogGoesOn
    grown = changed_by before.log after.log (AnyMoment old.waiting) LogGoesOn (λ a b moments. moments.tidy.grown) any

    pub look_on : Changes before.log after.log (λ a b. LookAlike (now a) (now b))
    look_on = changed_from before.log after.log Stored (HasCommitted old.waiting) (λ a b. LookAlike (now a) (now b)) looks store.stored committed

    pub flush_stands : before.faults ≤ after.faults → IsStoreOf found idle after rows origin history
    flush_stands faults = record {
      stored = flushed_told before.log after.log store.moment store.stored committed any;
      grown = grown_on found before.log after.log store.grown grown;
      opened = opened_goes_on origin.moment found before.log after.log (begins_low origin history (moment_of before.log) store.caused store.moment) store.opened grown;
      caused = store.caused;
      faults = omega (arith, store.faults, faults);
      moment = omega (arith, store.moment, moments_rise before.log after.log LogGoesOn goes_later grown);
      stopped = store.stopped;
      count = store.count;
    }

pub flushes_stand : FlushesStand
flushes_stand old new before after is found rows origin history store =
    subst (λ (s : StoreView). IsStoreOf found s after rows origin history) (sym is.new_is)
    (flush_stands old before after found rows origin history store is.running is.committed is.any_moment is.faults)

-- ---- an entry that is added then

taken_back : (old : StoreView) (a b : Option Log) (request : PlainRequest) (drawn : Option (List ℕ)) (taken : Option HostPath) → Changes a b (λ x y. LookAlike (now x) (now y))
    → Told (disk_in b) (λ d. taken ≡ taken_for (sealing_of old.keys) d old.live request drawn) → Told (disk_in a) (λ d. taken ≡ taken_for (sealing_of old.keys) d old.live request drawn)
taken_back old None b request drawn taken same told = tt
taken_back old (Some a) None request drawn taken same told = absurd same
taken_back old (Some a) (Some b) request drawn taken same told = told ∙ sym (for_alike (sealing_of old.keys) (now a) (now b) old.live drawn same request)

from_idle : (old new : StoreView) (before amid after : FolderView) (asked : Asked) (source source' : EntropyView)
    → IsFlushed old (record old { waiting = [] }) before amid
    → AddsEntryFrom before.faults (record old { waiting = [] }) new amid after asked source source' → AddsEntry old new before after asked source source'
from_idle old new before amid after asked source source' is adds found rows origin history caller store drew =
    let stands = flush_stands old before amid found rows origin history store is.running is.committed is.any_moment is.faults in
    let added = adds found rows origin history caller stands store.faults drew in
    let made = added.1 in
    let look = look_on old before amid found rows origin history store is.running is.committed is.any_moment in (
      added.0,
      record {
        same = made.same;
        folder = made.folder;
        entropy = made.entropy;
        drawn = made.drawn;
        taken = taken_back old before.log amid.log asked.request added.0.drawn added.0.taken look made.taken;
        moment = made.moment;
      },
      added.2,
    )

pub flushed_turns_add : FlushedTurnsAdd
flushed_turns_add old between new before amid after asked source source' is =
    subst (λ (s : StoreView). IsFlushed old s before amid → AddsEntryFrom before.faults s new amid after asked source source'
    → AddsEntry old new before after asked source source') (sym is.new_is)
    (from_idle old new before amid after asked source source') is
