-- How the history of a store begins: the rows of what its folder recovers to.
use Rattle.std.proofs.Common.{◌≡◌, ◌↔◌, ℕ, suc, ◌≤◌, [], ◌∷◌, length, List, Option, Some, None, IsTrue, IsNone, refl, sym, ap, subst, ◌∙◌, inl, inr, arith, true≢false}
use Rattle.outside.specs.Calls.{Changes, Told}
use Rattle.outside.specs.Disk.{Disk, Node as Thing, IsTree}
use Rattle.outside.specs.Images.{Log, Synced, adds, log_at, now, moment}
use Rattle.outside.specs.Views.{FolderView}
use Rattle.outside.proofs.Moments.{moment_later}
use Rattle.vault_keys.specs.Keys.{KeyPair}
use Rattle.deeds.specs.Deeds.{PlainDeed, in_order, LogGoesOn}
use Rattle.deeds.proofs.Amid.{tree_run}
use Rattle.chunk_journal.specs.Journal.{IsAlike, IsQuiet, IsReopenable, RecoversTo, RecoversLike}
use Rattle.chunk_journal.specs.Opening.{HasOpened, IsOpening, StaysOpening}
use Rattle.chunk_journal.proofs.Found.{opening_keeps, stays_as_found, stays_found, stays_tidy, opened_alike}
use Rattle.chunk_journal.proofs.Tidy.{steady_tidy}
use Rattle.pending_files.specs.Laid.{CanWait, LookAlike, laid}
use Rattle.pending_files.proofs.Laying.{none_waits}
use Rattle.tree_model.specs.Rows.{Content, bad_size, Rows}
use Rattle.tree_model.specs.Step.{node_limit}
use Rattle.tree_model.specs.History.{Origin}
use Rattle.clear_tree.specs.Walk.{Sealing, Node}
use Rattle.clear_tree.specs.Places.{entry_at}
use Rattle.clear_tree.specs.Kept.{KeptNode, KeptTree, IsKept, TellsRows, is_absent, long_in, long_by, rows_from, tree_rows}
use Rattle.clear_tree.specs.Rows.{IsClear}
use Rattle.clear_tree.proofs.Keeping.{keeping_tells_rows}
use Rattle.tree_loading.specs.Format.{sealing_of}
use Rattle.tree_deed_laws.specs.Trees.{Tree, IsTreeOf}
use Rattle.tree_deed_laws.proofs.Beside.{stays_beside}
use Rattle.version_laws.specs.RowVersions.{wrapped}
use Rattle.live_tree.specs.Held.{HeldTree, live_rows}
use Rattle.live_tree.proofs.Rows.{rows_loaded}
use Rattle.live_tree_laws.specs.Holds.{Holds, AreHeldContents}
use Rattle.live_tree_laws.specs.Loading.{IsLoaded, loaded_tree}
use Rattle.live_tree_laws.proofs.Loading.{loading_holds}
use Rattle.name_places.specs.Claims.{AreClaimsOf}
use Rattle.node_changes.specs.Changed.{StandsOn}
use Rattle.node_changes.specs.Within.{AreWithin}
use Rattle.crash_laws.specs.Crash.{DiskShows}
use Rattle.crash_laws.specs.Stands.{IsRunning}
use Rattle.crash_laws.specs.Opening.{StaysFound, StaysAsFound, IsSoundlyFound}
use Rattle.crash_laws.specs.Prefix.{BeginningRecovers}
use Rattle.crash_laws.proofs.Openings.{begins_now}
use Rattle.crash_laws.proofs.Stops.{running_begins}
use Rattle.store_laws.specs.Store.{StoreView, moment_of, shows_under, HasRows, IsSaidFrom, IsStoredIn, IsStoreOf}
use Rattle.store_laws.specs.Ends.{IsFoundClear, IsOpened, HasBeenOpened, OpeningsStand}
use Rattle.live_tree_laws.specs.Strays.{KeepsStrays}
use Rattle.live_tree_laws.proofs.StrayTrees.{keeps_itself}
use Rattle.store_laws.proofs.Others.{keeps_opened}
use Rattle.store_laws.proofs.Shows.{shows_blind, stands_shows}
use Rattle.store_laws.proofs.Alike.{looks_itself}
use Rattle.store_laws.proofs.Placed.{at_its_end}
use Rattle.store_laws.proofs.Turns.{none_is}

-- ---- what a disk stands for is what one stands for that differs in the journal's two files

absent : (o : Option Thing) → IsTrue (is_absent o) ↔ (o ≡ None)
absent None = ((λ h. refl), (λ h. refl))
absent (Some x) = ((λ h. absurd (true≢false (sym h))), (λ h. absurd cc))

abbrev tree_of : (s : Sealing) (d : Disk) (unlocked : ℕ) (rows : Rows) → IsClear s d unlocked rows → Tree
tree_of s d unlocked rows clear = record { nodes = clear.nodes; marks = clear.marks; long = long_by s d clear.nodes }

is_tree_of : (s : Sealing) (d : Disk) (unlocked : ℕ) (rows : Rows) (clear : IsClear s d unlocked rows) → IsTree d → IsTreeOf s d (tree_of s d unlocked rows clear)
is_tree_of s d unlocked rows clear host = record {
  owner = clear.owner;
  host = host;
  there = clear.there;
  first = clear.first;
  exact = clear.exact;
  marked = clear.marked;
  placed = λ n p i x at there. subst (λ (o : Option Node). IsTrue (long_in s d o n) ↔ (entry_at s d (s.folder_of i) (s.seal i n) ≡ None)) (sym at) (absent _);
}

clear_beside : (s : Sealing) (d d' : Disk) (unlocked : ℕ) (rows : Rows) → IsClear s d unlocked rows → IsTree d → IsTree d' → IsAlike d d' → IsClear s d' unlocked rows
clear_beside s d d' unlocked rows clear host host' same =
    let is = stays_beside s d d' (tree_of s d unlocked rows clear) (is_tree_of s d unlocked rows clear host) host' same in
    record {
      owner = is.owner;
      nodes = clear.nodes;
      marks = clear.marks;
      there = is.there;
      first = is.first;
      exact = is.exact;
      marked = is.marked;
      rows_are = clear.rows_are;
    }

-- what a tree recovers to is one
recovered_tree : (disk found : Disk) → IsTree disk → RecoversTo disk found → IsTree found
recovered_tree disk found tree (inl shut) = subst IsTree (sym shut.1) tree
recovered_tree disk found tree (inr (deeds, held, run)) = tree_run (in_order deeds) disk found tree run

-- a row for each node that is kept
count_rows : (contents : ℕ → Content) (unlocked number : ℕ) (nodes : List KeptNode) → length (rows_from contents unlocked number nodes) ≡ length nodes
count_rows contents unlocked number [] = refl
count_rows contents unlocked number (node ∷ nodes) = ap suc (count_rows contents unlocked (suc number) nodes)

-- ---- what was loaded

reopenable : (disk : Disk) → IsSoundlyFound disk → IsReopenable disk
reopenable disk sound = record { repeatable = sound.repeatable; no_folder = λ is. sound.clear.no_folder (inr is) }

pub stays_applied : (old new : Log) → StaysOpening old new → IsSoundlyFound (now old) → StaysAsFound old new
stays_applied old new stays sound = stays_as_found old new stays (reopenable (now old) sound)

pub stays_soundly : (old new : Log) → StaysOpening old new → IsSoundlyFound (now old) → StaysFound old new
stays_soundly old new stays sound = stays_found old new stays (reopenable (now old) sound)

module _ (unlocked : ℕ) (kept : KeptTree) (store : StoreView) (live_is : store.live ≡ loaded_tree unlocked kept) (claimed : AreClaimsOf (sealing_of store.keys) store.live store.claims) (idle : store.waiting ≡ []) (few : length kept.nodes ≤ node_limit) where
  abbrev s : Sealing
  s = sealing_of store.keys

  abbrev Shows : Option Log → DiskShows
  Shows found = shows_under found store.keys

  abbrev rows_of : (ℕ → Content) → Rows
  rows_of contents = tree_rows contents unlocked kept

  current : (contents : ℕ → Content) → wrapped (rows_of contents) ≡ wrapped (live_rows contents store.live)
  current contents = ap wrapped (sym (rows_loaded contents unlocked kept.nodes (length kept.nodes) kept.twice)) ∙ ap (λ (t : HeldTree). wrapped (live_rows contents t)) (sym live_is)

  stands_loaded : (d : Disk) → IsKept s d kept → (tells : TellsRows s d kept) → IsTree d → StandsOn s d store.live store.claims tells.contents
  stands_loaded d is tells host =
      let loaded : IsLoaded s d kept unlocked = loading_holds s d kept unlocked is host in
      record {
        tree = loaded.tree;
        is = loaded.is;
        holds = subst (λ (t : HeldTree). Holds s loaded.tree t) (sym live_is) loaded.holds;
        claimed = claimed;
        are = subst (λ (t : HeldTree). AreHeldContents s loaded.tree t tells.contents) (sym live_is) ((loaded.contents tells.contents).0 tells.are);
      }

  has_rows : (d : Disk) → IsKept s d kept → (tells : TellsRows s d kept) → IsTree d → HasRows store d (rows_of tells.contents) []
  has_rows d is tells host = record { contents = tells.contents; stands = stands_loaded d is tells host; current = current tells.contents }

  -- ---- the log begins a history

  -- nothing is said of the moments before this one
  runs_now : (found : Option Log) (log : Log) (rows : Rows) → IsQuiet log → Shows found (now log) rows → IsRunning (Shows found) (moment log) rows [] [] log
  runs_now found log rows at_rest shows = record {
    since = omega arith;
    past = λ m since before image here. absurd (omega (arith, since, before));
    tidy = (steady_tidy log at_rest.steady).each;
    ended = λ i x at. absurd cc;
    at_rest = at_rest;
    base = 0;
    within = omega arith;
    holds = λ i x at. absurd cc;
    shows = shows;
    after = now log;
    does = refl;
    shows_after = shows;
  }

  record Begins (before after : Option Log) : Type 0 where
    rows : Rows
    clear : Told before (λ log. IsFoundClear store.keys (now log) unlocked rows)
    stands : (origin : Origin) → origin.moment ≡ moment_of after → Told after (IsStoredIn before store rows origin [])
    grown : Changes before after LogGoesOn

  opened_later : (old new : Log) → HasOpened old new → IsOpening old new → IsSoundlyFound (now old) → suc (moment old) ≤ moment new
  opened_later old new opened opening sound = moment_later (adds old Synced) new (RecoversLike opened.disk) (opening_keeps old new opened.disk opening (reopenable (now old) sound) opened.recovers)

  -- the store runs, and stands for no entries yet
  runs_on : (old new : Log) → HasOpened old new → IsOpening old new → (rows : Rows) → Shows (Some old) (now new) rows → (origin : Origin) → origin.moment ≡ moment new → (opened_at : ℕ) → IsSaidFrom (Some old) origin opened_at
      → IsRunning (Shows (Some old)) opened_at rows [] [] new
  runs_on old new opened opening rows shows origin at opened_at (inl here) = subst (λ (n : ℕ). IsRunning (Shows (Some old)) n rows [] [] new) (sym (here ∙ at)) (runs_now (Some old) new rows opened.at_rest shows)
  runs_on old new opened opening rows shows origin at opened_at (inr (sound, there)) =
      subst (λ (n : ℕ). IsRunning (Shows (Some old)) n rows [] [] new) (sym there)
      (begins_now (Shows (Some old)) (shows_blind (Some old) store.keys) rows opened.disk old new (stays_soundly old new (inr opening) sound)
      (record {
        at_rest = opened.at_rest;
        since = opened_later old new opened opening sound;
        found = λ other recovers. opened_alike old new other opened recovers;
        tidy = stays_tidy old new (inr opening) (reopenable (now old) sound);
      }) opened.recovers shows)

  begins_on : (old new : Log) → HasOpened old new → IsOpening old new → IsKept s (now new) kept → Begins (Some old) (Some new)
  begins_on old new opened opening is =
      let tells : TellsRows s (now new) kept = keeping_tells_rows s (now new) kept is in
      let host : IsTree (now new) = opened.at_rest.steady.tree in
      let has : HasRows store (now new) (rows_of tells.contents) [] = has_rows (now new) is tells host in
      let found : IsTree opened.disk = recovered_tree (now old) opened.disk opening.steady.tree opened.recovers in
      let shows : Shows (Some old) (now new) (rows_of tells.contents) = record {
        tree = stands_shows s (now new) store.live store.claims tells.contents (rows_of tells.contents) (stands_loaded (now new) is tells host) (current tells.contents);
        others = keeps_opened store.keys old new opened found;
      } in
      let running = λ (origin : Origin) (at : origin.moment ≡ moment new) (opened_at : ℕ) (from : IsSaidFrom (Some old) origin opened_at). runs_on old new opened opening (rows_of tells.contents) shows origin at opened_at from in
      record {
        rows = rows_of tells.contents;
        clear = record {
          found = opened.disk;
          recovers = opened.recovers;
          clear = clear_beside s (now new) opened.disk unlocked (rows_of tells.contents) (tells.clear unlocked) host found (λ q not_journal not_new. sym (opened.alike q not_journal not_new));
          few = subst (λ (n : ℕ). n ≤ node_limit) (sym (count_rows tells.contents unlocked 0 kept.nodes)) few;
        };
        stands = λ origin at. record {
          state = λ opened_at from. subst (λ (w : List PlainDeed). IsRunning (Shows (Some old)) opened_at (rows_of tells.contents) [] w new) (sym idle) (running origin at opened_at from);
          begun = λ opened_at from. subst (λ (n : ℕ). BeginningRecovers (Shows (Some old)) opened_at n (rows_of tells.contents) new) (sym at) (running_begins (Shows (Some old)) (rows_of tells.contents) opened_at [] new (running origin at opened_at from));
          waits = λ none. subst (λ (w : List PlainDeed). CanWait w (now new)) (sym idle) (none_waits (now new));
          within = λ none. subst AreWithin (sym idle) tt;
          strays = λ none. subst (λ (w : List PlainDeed). KeepsStrays s (now new) (laid w (now new))) (sym idle) (keeps_itself s (now new));
          others = λ none. keeps_opened store.keys old new opened found;
          since = λ none. subst (λ (d : Disk). LookAlike d (now new)) (sym (ap (λ (m : ℕ). now (log_at new m)) at ∙ ap now (at_its_end new))) (looks_itself (now new));
          tree = λ none. subst (λ (d : Disk). HasRows store d (rows_of tells.contents) []) (sym (ap (λ (w : List PlainDeed). laid w (now new)) idle)) has;
          answered = tt;
          placed = λ i x there. absurd cc;
          placed_since = λ i x there. absurd cc;
          left = λ some. absurd (true≢false (sym some));
          rests = λ some. absurd (true≢false (sym some));
        };
        grown = opening.grown;
      }

  begins_told : (before after : Option Log) → Changes before after HasOpened → Changes before after IsOpening → Told after (λ log. IsKept s (now log) kept) → Begins before after
  begins_told None None opened opening is = record { rows = rows_of (λ n. bad_size); clear = tt; stands = λ origin at. tt; grown = tt }
  begins_told None (Some new) opened opening is = absurd opened
  begins_told (Some old) None opened opening is = absurd opened
  begins_told (Some old) (Some new) opened opening is = begins_on old new opened opening is

  -- at the moment at which the history begins
  opened_at : (m : ℕ) (before after : Option Log) → m ≡ moment_of after → Changes before after HasOpened → Changes before after (λ a b. HasOpened a (log_at b m))
  opened_at m None None at opened = tt
  opened_at m None (Some b) at opened = absurd opened
  opened_at m (Some a) None at opened = absurd opened
  opened_at m (Some a) (Some b) at opened = subst (λ (l : Log). HasOpened a l) (sym (ap (λ (n : ℕ). log_at b n) at ∙ at_its_end b)) opened

  begins_store : (before after : FolderView) (begun : Begins before.log after.log) → Changes before.log after.log HasOpened → IsNone store.stopped → store.entries ≡ 0 → (origin : Origin) → origin.folder_faults ≤ after.faults → origin.moment ≡ moment_of after.log
      → IsStoreOf before.log store after begun.rows origin []
  begins_store before after begun opened running none origin faults at = record {
    stored = begun.stands origin at;
    grown = begun.grown;
    opened = opened_at origin.moment before.log after.log at opened;
    caused = tt;
    faults = faults;
    moment = omega (arith, at);
    stopped = none_is store.stopped running;
    count = omega (arith, none);
  }

opened_own : (before after : FolderView) (unlocked : ℕ) (kept : KeptTree) (store : StoreView) → HasBeenOpened before store.keys unlocked kept store after → IsOpened before store.keys unlocked store after
opened_own before after unlocked kept store is =
    let begun = begins_told unlocked kept store is.live is.claims is.idle is.few before.log after.log is.opened is.any_moment is.loaded in
    record {
      keys_are = refl;
      rows = begun.rows;
      clear = begun.clear;
      stands = λ origin faults at. begins_store unlocked kept store is.live is.claims is.idle is.few before after begun is.opened is.running is.none origin faults at;
    }

pub openings_stand : OpeningsStand
openings_stand before after keys unlocked kept store is =
    subst (λ (k : KeyPair). HasBeenOpened before k unlocked kept store after → IsOpened before k unlocked store after) is.keys_are (λ own. opened_own before after unlocked kept store own) is
