-- What a store leaves that stands for a history.
use Rattle.std.proofs.Common.{◌≡◌, ◌⊎◌, ℕ, suc, ◌≤◌, List, [], Option, Some, None, IsNone, IsSome, Result, Ok, Err, IsOk, IsErr, OnOk, OnErr, refl, sym, ap, subst, inl, inr, arith, true, false, true≢false}
use Rattle.std.specs.Option.{option_map}
use Rattle.outside.specs.Calls.{Changes, Rose, Told}
use Rattle.outside.specs.declared.stream.Failed.{Failed}
use Rattle.outside.specs.Images.{Log, log_at, moment}
use Rattle.outside.specs.Views.{FolderView}
use Rattle.outside.proofs.Told.{told_always, told_then}
use Rattle.deeds.proofs.Growing.{goes_nowhere}
use Rattle.vault_keys.specs.Keys.{KeyPair}
use Rattle.chunk_journal.specs.Journal.{TidySince}
use Rattle.chunk_journal.specs.Opening.{HasOpened}
use Rattle.tree_model.specs.Rows.{Rows}
use Rattle.tree_model.specs.History.{Entry, Origin, tally_at, tally_of, AreCaused, IsLegal}
use Rattle.crash_laws.specs.Stands.{IsInState}
use Rattle.crash_laws.specs.Prefix.{BeginningRecovers, IsWhole, StopsRecover}
use Rattle.store_laws.specs.Store.{StoreView, ArePlaced, ArePlacedSince, HasRowsLeft, IsSaidFrom, IsStoredIn, IsStoreOf, bounded, moment_of, shows_under}
use Rattle.store_laws.specs.Turns.{IsFlushed}
use Rattle.store_laws.proofs.Ends.{closings_recover, stores_recover, stores_are_whole}
use Rattle.store_laws.proofs.Flushed.{flushes_stand}
use Rattle.vault_store.specs.Open.{ClosedVault, idle_of}
use Rattle.vault_top.specs.Served.{HasStops, IsClosing, IsCutOff, IsLeftWhole}
use Rattle.vault_top.proofs.Faults.{rose_within}

-- ---- a commit that failed

pub none_stopped : (stopped told : Option ℕ) → told ≡ option_map bounded stopped → IsNone told → IsNone stopped
none_stopped None told same none = refl
none_stopped (Some n) told same none = absurd (let is : IsNone (Some (bounded n)) = subst (λ (o : Option ℕ). IsNone o) same none in cc)

pub some_stopped : (stopped told : Option ℕ) → told ≡ option_map bounded stopped → IsSome told → IsSome stopped
some_stopped None told same some = subst (λ (o : Option ℕ). IsSome o) same some
some_stopped (Some n) told same some = refl

-- ---- what is left

told_before : {X : Type 0} (a b : Option X) (P : X → X → Type 0) (T : X → Type 0) (Q : Type 0) → Changes a b P → Told b T → ((x : X) → T x → Q) → Told a (λ _. Q)
told_before None b P T Q change told h = tt
told_before (Some x) None P T Q change told h = absurd change
told_before (Some x) (Some y) P T Q change told h = h y told

-- the history is caused, legal and placed, a stop leaves a prefix of it, and the folder's counts are those at its end
pub record Leaves (keys : KeyPair) (rows : Rows) (origin : Origin) (entries : List Entry) (before after : FolderView) : Type 0 where
  pub caused : AreCaused (tally_at origin) entries
  pub legal : Told before.log (λ log. IsLegal rows origin entries)
  pub placed : Told after.log (ArePlaced keys rows origin entries)
  pub opened : Changes before.log after.log (λ old new. HasOpened old (log_at new origin.moment))
  pub stops : HasStops keys rows origin entries before after
  pub faults : (tally_of origin entries).folder_faults ≤ after.faults
  pub moment : (tally_of origin entries).moment ≤ moment_of after.log

pub left_by : (before after : FolderView) (store : StoreView) (rows : Rows) (origin : Origin) (entries : List Entry) → IsStoreOf before.log store after rows origin entries → Leaves store.keys rows origin entries before after
left_by before after store rows origin entries is = let recover = stores_recover before.log store after rows origin entries is in record {
  caused = is.caused;
  legal = told_before before.log after.log _ _ (IsLegal rows origin entries) is.grown is.stored (λ log stored. record { caused = is.caused; answered = stored.answered });
  placed = told_then after.log (IsStoredIn before.log store rows origin entries) (ArePlaced store.keys rows origin entries) is.stored (λ log stored. stored.placed);
  opened = is.opened;
  stops = record { grown = is.grown; recover = recover.stops; begun = recover.begun; tidy = recover.tidy };
  faults = is.faults;
  moment = is.moment;
}

-- ---- a vault that was closed

-- if a commit had failed, what waits is of no account
module _ (found : Option Log) (store : StoreView) (folder : FolderView) (rows : Rows) (origin : Origin) (entries : List Entry) where
  broken : (stopped : Option ℕ) (opened : ℕ) (log : Log) → IsSome stopped
      → IsInState (shows_under found store.keys) opened rows entries store.waiting log stopped → IsInState (shows_under found store.keys) opened rows entries [] log stopped
  broken None opened log some is = absurd (true≢false (sym some))
  broken (Some f) opened log some is = is

  never : (stopped : Option ℕ) → IsSome stopped → IsNone stopped → ⊥
  never None some none = true≢false (sym some)
  never (Some f) some none = let no : true ≡ false = none in absurd cc

  idle_in : (log : Log) → IsSome (tally_of origin entries).stopped → IsStoredIn found store rows origin entries log → IsStoredIn found (idle_of store) rows origin entries log
  idle_in log some is = record {
    state = λ opened from. broken (tally_of origin entries).stopped opened log some (is.state opened from);
    begun = is.begun;
    waits = λ none. absurd (never (tally_of origin entries).stopped some none);
    within = λ none. absurd (never (tally_of origin entries).stopped some none);
    strays = λ none. absurd (never (tally_of origin entries).stopped some none);
    others = λ none. absurd (never (tally_of origin entries).stopped some none);
    tree = λ none. absurd (never (tally_of origin entries).stopped some none);
    since = is.since;
    answered = is.answered;
    placed = is.placed;
    placed_since = is.placed_since;
    left = λ some. record { contents = (is.left some).contents; current = (is.left some).current };
    rests = is.rests;
  }

  idle_stands : IsSome store.stopped → IsStoreOf found store folder rows origin entries → IsStoreOf found (idle_of store) folder rows origin entries
  idle_stands some is = record {
    stored = told_then folder.log (IsStoredIn found store rows origin entries) (IsStoredIn found (idle_of store) rows origin entries) is.stored
        (λ log stored. idle_in log (some_stopped (tally_of origin entries).stopped store.stopped is.stopped some) stored);
    grown = is.grown;
    opened = is.opened;
    caused = is.caused;
    faults = is.faults;
    moment = is.moment;
    stopped = is.stopped;
    count = is.count;
  }

module _ (before : FolderView) {store : StoreView} {back folder : FolderView} {rows : Rows} {origin : Origin} {entries : List Entry} (is : IsStoreOf before.log store back rows origin entries)
    {closed : ClosedVault} (how : IsClosing (λ view. view) store back closed folder) where
  -- what waited was committed
  flushed : IsFlushed store closed.store back folder → IsStoreOf before.log closed.store folder rows origin entries
  flushed done = flushes_stand store closed.store back folder done before.log rows origin entries is

  -- that failed
  cut_off : IsCutOff store back folder → Leaves store.keys rows origin entries before folder
  cut_off cut =
      let short = closings_recover before.log store back folder rows origin entries is cut.running cut.moments in
      let later = how.later in
      record {
        caused = is.caused;
        legal = told_before before.log back.log _ _ (IsLegal rows origin entries) is.grown is.stored (λ log stored. record { caused = is.caused; answered = stored.answered });
        placed = short.placed;
        opened = short.opened;
        stops = record { grown = short.grown; recover = short.recover.stops; begun = short.recover.begun; tidy = short.recover.tidy };
        faults = omega (arith, is.faults, later);
        moment = short.moment;
      }

  same_keys : closed.store.keys ≡ store.keys
  same_keys = ap (λ (s : StoreView). s.keys) how.idle

  left_when : (committed : Result (Unit {0}) Failed) → OnOk committed (IsFlushed store closed.store back folder)
      → OnErr committed ((IsSome store.stopped × (folder ≡ back)) ⊎ IsCutOff store back folder) → Leaves store.keys rows origin entries before folder
  left_when (Ok done) well badly =
      subst (λ (keys : KeyPair). Leaves keys rows origin entries before folder) same_keys (left_by before folder closed.store rows origin entries (flushed well))
  left_when (Err failed) well (inl same) = subst (λ (v : FolderView). Leaves store.keys rows origin entries before v) (sym same.1) (left_by before back store rows origin entries is)
  left_when (Err failed) well (inr cut) = cut_off cut

  pub left_closed : Leaves store.keys rows origin entries before folder
  left_closed = left_when closed.committed how.well how.badly

  -- unless just the last commit failed, it stands for the same on the folder that it left
  stands_when : (committed : Result (Unit {0}) Failed) → OnOk committed (IsFlushed store closed.store back folder)
      → OnErr committed ((IsSome store.stopped × (folder ≡ back)) ⊎ IsCutOff store back folder) → IsOk committed ⊎ IsSome closed.store.stopped
      → IsStoreOf before.log closed.store folder rows origin entries
  stands_when (Ok done) well badly whole = flushed well
  stands_when (Err failed) well (inl same) whole =
      subst (λ (s : StoreView). IsStoreOf before.log s folder rows origin entries) (sym how.idle)
      (subst (λ (v : FolderView). IsStoreOf before.log (idle_of store) v rows origin entries) (sym same.1) (idle_stands before.log store back rows origin entries same.0 is))
  stands_when (Err failed) well (inr cut) (inl ok) = absurd (true≢false (sym ok))
  stands_when (Err failed) well (inr cut) (inr some) =
      absurd (never before.log store back rows origin entries store.stopped (subst (λ (s : StoreView). IsSome s.stopped) how.idle some) cut.running)

  pub closed_stands : IsLeftWhole closed → IsStoreOf before.log closed.store folder rows origin entries
  closed_stands = stands_when closed.committed how.well how.badly

  -- the places that entries from a failed commit on name, and the rows of the tree in memory then
  abbrev Since : StoreView → FolderView → Type 0
  Since kept v = Told v.log (ArePlacedSince kept.keys kept.live origin entries) × Told v.log (λ _. IsSome (tally_of origin entries).stopped → HasRowsLeft kept rows entries)

  since_by : (kept : StoreView) (v : FolderView) → IsStoreOf before.log kept v rows origin entries → Since kept v
  since_by kept v stands = (
    told_then v.log (IsStoredIn before.log kept rows origin entries) (ArePlacedSince kept.keys kept.live origin entries) stands.stored (λ log stored. stored.placed_since),
    told_then v.log (IsStoredIn before.log kept rows origin entries) (λ _. IsSome (tally_of origin entries).stopped → HasRowsLeft kept rows entries) stands.stored (λ log stored. stored.left),
  )

  -- of a store whose last commit failed, none is past one
  since_cut : IsCutOff store back folder → Since store folder
  since_cut cut = (
    (closings_recover before.log store back folder rows origin entries is cut.running cut.moments).placed_since,
    told_always folder.log (λ _. IsSome (tally_of origin entries).stopped → HasRowsLeft store rows entries)
        (λ log some. absurd (never before.log store back rows origin entries (tally_of origin entries).stopped some (none_stopped (tally_of origin entries).stopped store.stopped is.stopped cut.running))),
  )

  -- what waits has no part in it
  since_idle : Since store folder → Since (idle_of store) folder
  since_idle since = (
    since.0,
    told_then folder.log (λ _. IsSome (tally_of origin entries).stopped → HasRowsLeft store rows entries) (λ _. IsSome (tally_of origin entries).stopped → HasRowsLeft (idle_of store) rows entries) since.1
        (λ log left some. record { contents = (left some).contents; current = (left some).current }),
  )

  since_when : (committed : Result (Unit {0}) Failed) → OnOk committed (IsFlushed store closed.store back folder)
      → OnErr committed ((IsSome store.stopped × (folder ≡ back)) ⊎ IsCutOff store back folder) → Since closed.store folder
  since_when (Ok done) well badly = since_by closed.store folder (flushed well)
  since_when (Err failed) well (inl same) =
      subst (λ (s : StoreView). Since s folder) (sym how.idle) (subst (λ (v : FolderView). Since (idle_of store) v) (sym same.1) (since_by (idle_of store) back (idle_stands before.log store back rows origin entries same.0 is)))
  since_when (Err failed) well (inr cut) = subst (λ (s : StoreView). Since s folder) (sym how.idle) (since_idle (since_cut cut))

  pub closed_since : Since closed.store folder
  closed_since = since_when closed.committed how.well how.badly

  -- closed well, no commit had failed, and all entries are on the disk
  flushed_when : (committed : Result (Unit {0}) Failed) → OnOk committed (IsFlushed store closed.store back folder) → IsOk committed → IsFlushed store closed.store back folder
  flushed_when (Ok done) well ok = well
  flushed_when (Err failed) well ok = absurd (true≢false (sym ok))

  pub none_failed : IsOk closed.committed → IsNone (tally_of origin entries).stopped
  none_failed ok = none_stopped (tally_of origin entries).stopped store.stopped is.stopped (flushed_when closed.committed how.well ok).running

  pub whole_closed : IsOk closed.committed → Told folder.log (λ log. IsWhole (shows_under before.log store.keys) rows entries log)
  whole_closed ok =
      subst (λ (keys : KeyPair). Told folder.log (λ log. IsWhole (shows_under before.log keys) rows entries log)) same_keys
      (stores_are_whole before.log closed.store folder rows origin entries (flushed (flushed_when closed.committed how.well ok)) (ap (λ (s : StoreView). s.waiting) how.idle) (none_failed ok))

  -- closed badly, one had, or the folder failed since
  failed_when : (committed : Result (Unit {0}) Failed) → OnErr committed ((IsSome store.stopped × (folder ≡ back)) ⊎ IsCutOff store back folder) → IsErr committed
      → IsSome (tally_of origin entries).stopped ⊎ Rose (tally_of origin entries).folder_faults folder.faults
  failed_when (Ok done) badly bad = absurd (true≢false (sym bad))
  failed_when (Err failed) (inl same) bad = inl (some_stopped (tally_of origin entries).stopped store.stopped is.stopped same.0)
  failed_when (Err failed) (inr cut) bad = inr (rose_within (tally_of origin entries).folder_faults back.faults folder.faults folder.faults is.faults how.later (omega arith) cut.rose)

  pub failed_closed : IsErr closed.committed → IsSome (tally_of origin entries).stopped ⊎ Rose (tally_of origin entries).folder_faults folder.faults
  failed_closed bad = failed_when closed.committed how.badly bad

-- ---- nothing is said of a folder that is as it was, if the history's moment is still to come

said_later : (origin : Origin) (log : Log) → origin.moment ≡ suc (moment log) → (opened : ℕ) → IsSaidFrom (Some log) origin opened → suc (moment log) ≤ opened
said_later origin log next opened (inl here) = omega (arith, here, next)
said_later origin log next opened (inr found) = let here = found.1 in omega (arith, here)

nothing_since : (keys : KeyPair) (rows : Rows) (origin : Origin) (log : Log) → origin.moment ≡ suc (moment log) → (opened : ℕ) → IsSaidFrom (Some log) origin opened → StopsRecover (shows_under (Some log) keys) opened rows [] log
nothing_since keys rows origin log next opened from m since within image is = absurd (omega (arith, since, within, said_later origin log next opened from))

nothing_before : (keys : KeyPair) (rows : Rows) (origin : Origin) (log : Log) → origin.moment ≡ suc (moment log) → (opened : ℕ) → IsSaidFrom (Some log) origin opened → BeginningRecovers (shows_under (Some log) keys) opened origin.moment rows log
nothing_before keys rows origin log next opened from m since before within image is = absurd (omega (arith, since, within, said_later origin log next opened from))

tidy_since : (origin : Origin) (log : Log) → origin.moment ≡ suc (moment log) → (opened : ℕ) → IsSaidFrom (Some log) origin opened → TidySince opened log
tidy_since origin log next opened from m since within = absurd (omega (arith, since, within, said_later origin log next opened from))

pub stops_nowhere : (keys : KeyPair) (rows : Rows) (origin : Origin) (view : FolderView) → origin.moment ≡ suc (moment_of view.log) → HasStops keys rows origin [] view view
stops_nowhere keys rows origin view next = stops_in view.log next
  where
    stops_in : (log : Option Log) → origin.moment ≡ suc (moment_of log) → HasStops keys rows origin [] (record view { log = log }) (record view { log = log })
    stops_in None same = record { grown = tt; recover = tt; begun = tt; tidy = tt }
    stops_in (Some log) same = record {
      grown = goes_nowhere log;
      recover = nothing_since keys rows origin log same;
      begun = nothing_before keys rows origin log same;
      tidy = tidy_since origin log same;
    }
