-- What the end of a store leaves, whenever that is.
use Rattle.std.proofs.Common.{◌≤◌, ℕ, List, [], length, Option, Some, None, IsNone, IsSome, refl, subst, sym, inl, arith}
use Rattle.outside.specs.Calls.{Changes, Told}
use Rattle.outside.specs.Disk.{Disk}
use Rattle.outside.specs.Images.{Log, now}
use Rattle.outside.specs.Views.{FolderView}
use Rattle.outside.proofs.Told.{changed_by, told_then}
use Rattle.deeds.specs.Deeds.{PlainDeed, LogGoesOn}
use Rattle.deeds.proofs.Growing.{grown_on}
use Rattle.chunk_journal.specs.Journal.{AnyMoment, IsReopenable, RecoversTo, TidySince}
use Rattle.chunk_journal.proofs.Tidy.{tidy_goes}
use Rattle.pending_files.proofs.Batched.{is_repeatable}
use Rattle.tree_model.specs.Rows.{Rows}
use Rattle.tree_model.specs.History.{Entry, Origin, rows_at, tally_of}
use Rattle.crash_laws.specs.Crash.{DiskShows}
use Rattle.crash_laws.specs.Prefix.{StopsRecover, IsWhole}
use Rattle.crash_laws.specs.Stands.{IsRunning}
use Rattle.crash_laws.proofs.Images.{rest_recovers, rest_reopens}
use Rattle.crash_laws.proofs.Moves.{shows_all}
use Rattle.crash_laws.proofs.Openings.{opening_recovers}
use Rattle.crash_laws.proofs.States.{state_runs, state_tidy}
use Rattle.crash_laws.proofs.Stops.{closes_broken, state_stops}
use Rattle.store_laws.specs.Store.{StoreView, ArePlaced, ArePlacedSince, IsPlacedOn, IsSaidFrom, IsStoredIn, IsStoreOf, IsTakenBy, moment_of, shows_under}
use Rattle.store_laws.specs.Ends.{ClosingsRecover, FailedOpeningsRecover, IsCutShort, StoresRecover, StoresAreWhole}
use Rattle.store_laws.proofs.Shows.{shows_blind}
use Rattle.store_laws.proofs.Openings.{stays_applied, stays_soundly}
use Rattle.store_laws.proofs.Placed.{HasBegun, begins_low, begun_goes_on, goes_later, opened_goes_on, places_go_on}
use Rattle.store_laws.proofs.Turns.{moments_rise, none_back}

pub failed_openings_recover : FailedOpeningsRecover
failed_openings_recover keys old new stays sound = opening_recovers (shows_under (Some old) keys) (shows_blind (Some old) keys) old new (stays_soundly old new stays sound) (stays_applied old new stays sound) sound

pub stores_recover : StoresRecover
stores_recover found store folder rows origin history is = record {
  stops = told_then folder.log (IsStoredIn found store rows origin history) (λ log. (opened : ℕ) → IsSaidFrom found origin opened → StopsRecover (shows_under found store.keys) opened rows history log) is.stored
      (λ log stored opened from. state_stops (shows_under found store.keys) rows opened history store.waiting log (tally_of origin history).stopped (stored.state opened from));
  begun = told_then folder.log (IsStoredIn found store rows origin history) (HasBegun found store.keys rows origin) is.stored (λ log stored. stored.begun);
  tidy = told_then folder.log (IsStoredIn found store rows origin history) (λ log. (opened : ℕ) → IsSaidFrom found origin opened → TidySince opened log) is.stored
      (λ log stored opened from. state_tidy (shows_under found store.keys) opened rows history store.waiting log (tally_of origin history).stopped (stored.state opened from));
}

-- with nothing pending the disk shows all entries, and at rest it is its only image
whole_at_rest : (Shows : DiskShows) (opened : ℕ) (rows : Rows) (history : List Entry) (log : Log) → IsRunning Shows opened rows history [] log → IsWhole Shows rows history log
whole_at_rest Shows opened rows history log running =
    let shows : Shows (now log) (rows_at rows history (length history)) = shows_all Shows opened rows history log running in
    record {
      shows = shows;
      images = λ image here. record {
        reopenable = subst IsReopenable (sym (running.at_rest.steady.durable image here)) (rest_reopens log running.at_rest);
        disk = now log;
        recovers = subst (λ (c : Disk). RecoversTo c (now log)) (sym (running.at_rest.steady.durable image here)) (rest_recovers log running.at_rest);
        shows = shows;
      };
    }

pub stores_are_whole : StoresAreWhole
stores_are_whole found store folder rows origin history is idle none =
    told_then folder.log (IsStoredIn found store rows origin history) (IsWhole (shows_under found store.keys) rows history) is.stored
    (λ log stored. whole_at_rest (shows_under found store.keys) origin.moment rows history log
    (subst (λ (w : List PlainDeed). IsRunning (shows_under found store.keys) origin.moment rows history w log) idle
    (state_runs (shows_under found store.keys) origin.moment rows history store.waiting log (tally_of origin history).stopped none (stored.state origin.moment (inl refl)))))

-- ---- if the commit of what waited failed at the end

module _ (found : Option Log) (store : StoreView) (before after : FolderView) (rows : Rows) (origin : Origin) (history : List Entry) (is : IsStoreOf found store before rows origin history) (none : IsNone (tally_of origin history).stopped)
    (any : Changes before.log after.log (AnyMoment store.waiting)) where
  grown : Changes before.log after.log LogGoesOn
  grown = changed_by before.log after.log (AnyMoment store.waiting) LogGoesOn (λ a b moments. moments.tidy.grown) any

  recovers_on : (a b : Log) → IsStoredIn found store rows origin history a → AnyMoment store.waiting a b → (opened : ℕ) → IsSaidFrom found origin opened → StopsRecover (shows_under found store.keys) opened rows history b
  recovers_on a b stored moments opened from =
      closes_broken (shows_under found store.keys) rows opened (shows_blind found store.keys) history store.waiting a b (is_repeatable store.waiting (stored.waits none).pending)
      (state_runs (shows_under found store.keys) opened rows history store.waiting a (tally_of origin history).stopped none (stored.state opened from)) moments

  recovers_told : (a b : Option Log) → Told a (IsStoredIn found store rows origin history) → Changes a b (AnyMoment store.waiting)
      → Told b (λ log. (opened : ℕ) → IsSaidFrom found origin opened → StopsRecover (shows_under found store.keys) opened rows history log)
  recovers_told None None stored moments = tt
  recovers_told None (Some b) stored moments = absurd moments
  recovers_told (Some a) None stored moments = absurd moments
  recovers_told (Some a) (Some b) stored moments = recovers_on a b stored moments

  tidy_told : (a b : Option Log) → Told a (IsStoredIn found store rows origin history) → Changes a b (AnyMoment store.waiting)
      → Told b (λ log. (opened : ℕ) → IsSaidFrom found origin opened → TidySince opened log)
  tidy_told None None stored moments = tt
  tidy_told None (Some b) stored moments = absurd moments
  tidy_told (Some a) None stored moments = absurd moments
  tidy_told (Some a) (Some b) stored moments = λ opened from.
      tidy_goes opened a b (state_tidy (shows_under found store.keys) opened rows history store.waiting a (tally_of origin history).stopped (stored.state opened from)) moments.tidy

  placed_told : (a b : Option Log) → (tally_of origin history).moment ≤ moment_of a → Told a (IsStoredIn found store rows origin history) → Changes a b LogGoesOn
      → Told b (ArePlaced store.keys rows origin history) × Told b (ArePlacedSince store.keys store.live origin history)
  placed_told None None late stored goes = (tt, tt)
  placed_told None (Some b) late stored goes = absurd goes
  placed_told (Some a) None late stored goes = absurd goes
  placed_told (Some a) (Some b) late stored goes = (
    places_go_on (λ (o : Option ℕ). IsNone o) (IsPlacedOn store.keys) rows origin history a b goes is.caused late stored.placed,
    places_go_on (λ (o : Option ℕ). IsSome o) (λ d r made. IsTakenBy store.keys store.live d made) rows origin history a b goes is.caused late stored.placed_since,
  )

  begun_told : (a b : Option Log) → (tally_of origin history).moment ≤ moment_of a → Told a (IsStoredIn found store rows origin history) → Changes a b LogGoesOn → Told b (HasBegun found store.keys rows origin)
  begun_told None None late stored goes = tt
  begun_told None (Some b) late stored goes = absurd goes
  begun_told (Some a) None late stored goes = absurd goes
  begun_told (Some a) (Some b) late stored goes = begun_goes_on found store.keys rows origin history a b goes is.caused late stored.begun

  cut_short : IsCutShort found store after rows origin history
  cut_short = record {
    grown = grown_on found before.log after.log is.grown grown;
    opened = opened_goes_on origin.moment found before.log after.log (begins_low origin history (moment_of before.log) is.caused is.moment) is.opened grown;
    placed = (placed_told before.log after.log is.moment is.stored grown).0;
    placed_since = (placed_told before.log after.log is.moment is.stored grown).1;
    recover = record {
      stops = recovers_told before.log after.log is.stored any;
      begun = begun_told before.log after.log is.moment is.stored grown;
      tidy = tidy_told before.log after.log is.stored any;
    };
    moment = omega (arith, is.moment, moments_rise before.log after.log LogGoesOn goes_later grown);
  }

pub closings_recover : ClosingsRecover
closings_recover found store before after rows origin history is running any =
    cut_short found store before after rows origin history is (none_back (tally_of origin history).stopped (subst (λ (o : Option ℕ). IsNone o) is.stopped running)) any
