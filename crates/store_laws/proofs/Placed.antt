-- A log that goes on, the places that entries name on it, and what a stop recovers to before its history begins.
use Rattle.std.proofs.Common.{◌≡◌, ℕ, zero, suc, ◌-◌, ◌≤◌, List, [], ◌∷◌, ◌++◌, length, take, drop, Bool, true, false, cond, Option, Some, None, IsNone, IsSome, refl, sym, ap, subst, ◌∙◌, arith, true≢false, length-append}
use Rattle.outside.specs.Calls.{Changes}
use Rattle.outside.specs.Disk.{Disk}
use Rattle.outside.specs.Images.{Call, Log, log_at, moment, now, IsImage}
use Rattle.outside.proofs.Moments.{at_since}
use Rattle.deeds.specs.Deeds.{LogGoesOn}
use Rattle.vault_keys.specs.Keys.{KeyPair}
use Rattle.chunk_journal.specs.Opening.{HasOpened}
use Rattle.tree_model.specs.Rows.{Rows}
use Rattle.tree_model.specs.History.{Made, Entry, Origin, Tally, after, next, entry_at, rows_at, rows_after, tally_at, tally_of, AreCaused}
use Rattle.crash_laws.specs.Prefix.{BeginningRecovers}
use Rattle.crash_laws.proofs.Histories.{at_more, at_within, rows_all, rows_more}
use Rattle.live_tree.specs.Held.{HeldTree}
use Rattle.store_laws.specs.Store.{ArePlacedSince, IsSaidFrom, moment_of, shows_under}

-- ---- logs that go on

pub goes_later : (a b : Log) → LogGoesOn a b → moment a ≤ moment b
goes_later a b grown = omega (arith, ap length grown.later.1, length-append grown.later.0 a.calls)

-- what reads gave at an earlier moment
pub read_then : (a b : Log) (m : ℕ) → LogGoesOn a b → m ≤ moment a → now (log_at a m) ≡ now (log_at b m)
read_then a b m grown le = ap now (sym (at_since a b grown.later.0 m grown.start grown.later.1 le))

drop_none : (calls : List Call) → drop (length calls - length calls) calls ≡ calls
drop_none calls = let e : length calls - length calls ≡ 0 = omega arith in ap (λ (k : ℕ). drop k calls) e

pub at_its_end : (log : Log) → log_at log (moment log) ≡ log
at_its_end log = λ i. record { start = log.start; calls = drop_none log.calls i }

-- ---- beginnings of a history

moments_rise : (tally : Tally) (history : List Entry) (i : ℕ) → AreCaused tally history → (after tally (take i history)).moment ≤ (after tally history).moment
moments_rise tally [] zero caused = omega arith
moments_rise tally [] (suc i) caused = omega arith
moments_rise tally (y ∷ history) zero caused = omega (arith, caused.0.moment_since, moments_rise (next tally y) history zero caused.1)
moments_rise tally (y ∷ history) (suc i) caused = moments_rise (next tally y) history i caused.1

take_before : (history : List Entry) (e : Entry) (i : ℕ) → i ≤ length history → take i (history ++ e ∷ []) ≡ take i history
take_before history e zero le = refl
take_before [] e (suc i) le = absurd (omega arith)
take_before (y ∷ history) e (suc i) le = ap (λ (l : List Entry). y ∷ l) (take_before history e i (omega arith))

take_whole : (history : List Entry) → take (length history) history ≡ history
take_whole [] = refl
take_whole (y ∷ history) = ap (λ (l : List Entry). y ∷ l) (take_whole history)

-- ---- places

-- A place is named by each entry for which a condition holds of the commit that failed before it, if any, on the disk as it read at the end of the
-- entry before.
abbrev pub ArePlacedWhere : (Option ℕ → Type 0) → (Disk → Rows → Made → Type 0) → Rows → Origin → List Entry → Log → Type 0
ArePlacedWhere When Places rows origin history log = (i : ℕ) (entry : Entry) → entry_at history i ≡ Some entry → When (tally_of origin (take i history)).stopped
    → Places (now (log_at log (tally_of origin (take i history)).moment)) (rows_at rows history i) entry.made

module _ (When : Option ℕ → Type 0) (Places : Disk → Rows → Made → Type 0) (rows : Rows) (origin : Origin) (history : List Entry) where
  -- with an entry more
  module _ (entry : Entry) (a b : Log) (grown : LogGoesOn a b) (caused : AreCaused (tally_at origin) history) (at_end : (tally_of origin history).moment ≤ moment a) where
    abbrev longer : List Entry
    longer = history ++ entry ∷ []

    abbrev Here : List Entry → Rows → Log → Entry → Type 0
    Here before r log x = Places (now (log_at log (tally_of origin before).moment)) r x.made

    earlier : ArePlacedWhere When Places rows origin history a → (i : ℕ) (x : Entry) → entry_at history i ≡ Some x → When (tally_of origin (take i longer)).stopped → Here (take i longer) (rows_at rows longer i) b x
    earlier placed i x there when =
        let le : i ≤ length history = omega (arith, at_within history i x there) in
        let same : take i (history ++ entry ∷ []) ≡ take i history = take_before history entry i le in
        let was = placed i x there (subst (λ (l : List Entry). When (tally_of origin l).stopped) same when) in
        let low : (tally_of origin (take i history)).moment ≤ moment a = omega (arith, moments_rise (tally_at origin) history i caused, at_end) in
        let here : Here (take i history) (rows_at rows history i) b x =
        subst (λ (d : Disk). Places d (rows_at rows history i) x.made) (read_then a b (tally_of origin (take i history)).moment grown low) was in
        subst (λ (l : List Entry). Here l (rows_at rows longer i) b x) (sym same) (subst (λ (r : Rows). Here (take i history) r b x) (sym (rows_more rows history entry i le)) here)

    abbrev LastPlaced : Type 0
    LastPlaced = When (tally_of origin history).stopped → Places (now (log_at a (tally_of origin history).moment)) (rows_after rows history) entry.made

    last_one : LastPlaced → (i : ℕ) (x : Entry) → i ≡ length history → entry ≡ x
        → When (tally_of origin (take i longer)).stopped → Here (take i longer) (rows_at rows longer i) b x
    last_one last i x is same when =
        let le : i ≤ length history = omega (arith, is) in
        let before : take i (history ++ entry ∷ []) ≡ history = take_before history entry i le ∙ ap (λ (k : ℕ). take k history) is ∙ take_whole history in
        let was = last (subst (λ (l : List Entry). When (tally_of origin l).stopped) before when) in
        let here : Here history (rows_after rows history) b entry =
        subst (λ (d : Disk). Places d (rows_after rows history) entry.made) (read_then a b (tally_of origin history).moment grown at_end) was in
        let rows_are : rows_at rows (history ++ entry ∷ []) i ≡ rows_after rows history = rows_more rows history entry i le ∙ ap (rows_at rows history) is ∙ sym (rows_all rows history) in
        subst (λ (l : List Entry). Here l (rows_at rows longer i) b x) (sym before)
        (subst (λ (r : Rows). Here history r b x) (sym rows_are) (subst (λ (y : Entry). Here history (rows_after rows history) b y) same here))

    pub placed_more : ArePlacedWhere When Places rows origin history a → LastPlaced → ArePlacedWhere When Places rows origin longer b
    placed_more placed last i x there when = at_more history entry i x there (λ before. earlier placed i x before when) (λ is same. last_one last i x is same when)

  -- places stay named on a log that goes on
  pub places_go_on : (a b : Log) → LogGoesOn a b → AreCaused (tally_at origin) history → (tally_of origin history).moment ≤ moment a
      → ArePlacedWhere When Places rows origin history a → ArePlacedWhere When Places rows origin history b
  places_go_on a b grown caused at_end placed i x there when =
      let low : (tally_of origin (take i history)).moment ≤ moment a = omega (arith, moments_rise (tally_at origin) history i caused, at_end) in
      subst (λ (d : Disk). Places d (rows_at rows history i) x.made) (read_then a b (tally_of origin (take i history)).moment grown low) (placed i x there when)

-- ---- before any commit failed

none_before : (failed : Bool) (f : ℕ) (stopped : Option ℕ) → IsNone (cond failed (Some f) stopped) → IsNone stopped
none_before true f stopped none = let no : true ≡ false = none in absurd cc
none_before false f stopped none = none

none_at_first : (tally : Tally) (history : List Entry) → IsNone (after tally history).stopped → IsNone tally.stopped
none_at_first tally [] none = none
none_at_first tally (y ∷ history) none = none_before y.made.commit_failed tally.count tally.stopped (none_at_first (next tally y) history none)

none_so_far : (tally : Tally) (history : List Entry) (i : ℕ) → IsNone (after tally history).stopped → IsNone (after tally (take i history)).stopped
none_so_far tally [] zero none = none
none_so_far tally [] (suc i) none = none
none_so_far tally (y ∷ history) zero none = none_at_first tally (y ∷ history) none
none_so_far tally (y ∷ history) (suc i) none = none_so_far (next tally y) history i none

pub not_both : (o : Option ℕ) → IsNone o → IsSome o → ⊥
not_both None none some = true≢false (sym some)
not_both (Some f) none some = true≢false none

-- no entry is past one
pub none_past : (keys : KeyPair) (live : HeldTree) (origin : Origin) (history : List Entry) (log : Log) → IsNone (tally_of origin history).stopped → ArePlacedSince keys live origin history log
none_past keys live origin history log none i x there some = absurd (not_both (tally_of origin (take i history)).stopped (none_so_far (tally_at origin) history i none) some)

-- ---- before a history begins

abbrev pub HasBegun : Option Log → KeyPair → Rows → Origin → Log → Type 0
HasBegun found keys rows origin log = (opened : ℕ) → IsSaidFrom found origin opened → BeginningRecovers (shows_under found keys) opened origin.moment rows log

-- no history begins past its last entry
pub begins_low : (origin : Origin) (history : List Entry) (m : ℕ) → AreCaused (tally_at origin) history → (tally_of origin history).moment ≤ m → origin.moment ≤ m
begins_low origin history m caused le = omega (arith, moments_rise (tally_at origin) history 0 caused, le)

-- that the journal had been opened at a moment stays so on a log that goes on
pub opened_goes_on : (m : ℕ) (found old new : Option Log) → m ≤ moment_of old → Changes found old (λ a b. HasOpened a (log_at b m)) → Changes old new LogGoesOn → Changes found new (λ a b. HasOpened a (log_at b m))
opened_goes_on m None None None low so_far more = tt
opened_goes_on m None None (Some c) low so_far more = absurd more
opened_goes_on m None (Some b) new low so_far more = absurd so_far
opened_goes_on m (Some a) None new low so_far more = absurd so_far
opened_goes_on m (Some a) (Some b) None low so_far more = absurd more
opened_goes_on m (Some a) (Some b) (Some c) low so_far more = subst (λ (l : Log). HasOpened a l) (sym (at_since b c more.later.0 m more.start more.later.1 low)) so_far

-- it stays said on a log that goes on, since the moments up to then are what they were
pub begun_goes_on : (found : Option Log) (keys : KeyPair) (rows : Rows) (origin : Origin) (history : List Entry) (a b : Log) → LogGoesOn a b → AreCaused (tally_at origin) history → (tally_of origin history).moment ≤ moment a
    → HasBegun found keys rows origin a → HasBegun found keys rows origin b
begun_goes_on found keys rows origin history a b grown caused at_end begun opened from m since before within image is =
    let low : m ≤ moment a = omega (arith, before, begins_low origin history (moment a) caused at_end) in
    begun opened from m since before low image (subst (λ (l : Log). IsImage l image) (at_since a b grown.later.0 m grown.start grown.later.1 low) is)
