-- The turns of a store that stopped: nothing is done, and each answer is that it stopped.
use Rattle.std.proofs.Common.{◌≡◌, ℕ, suc, ◌≤◌, List, [], ◌∷◌, ◌++◌, length, Bool, false, cond, Option, Some, None, is_some, IsNone, IsSome, refl, sym, ap, subst, ◌∙◌, inl, inr, arith, true≢false, append-nil}
use Rattle.std.specs.Option.{option_map}
use Rattle.outside.specs.Calls.{Changes, Told}
use Rattle.outside.specs.Disk.{Disk}
use Rattle.outside.specs.Images.{Log, disk_in, log_at, now, moment}
use Rattle.outside.specs.Views.{FolderView, EntropyView}
use Rattle.outside.proofs.Told.{unchanged}
use Rattle.deeds.specs.Deeds.{LogGoesOn}
use Rattle.deeds.proofs.Growing.{goes_nowhere}
use Rattle.tree_model.specs.declared.refusal.Refusal.TheVariants as refusals
use Rattle.tree_model.specs.Rows.{Rows}
use Rattle.tree_model.specs.Asked.{PlainReply, refused}
use Rattle.tree_model.specs.Step.{step}
use Rattle.tree_model.specs.History.{Made, Entry, Origin, Tally, entry_of, tally_at, tally_of, is_refusal, is_stable, next, rows_after, IsCaused}
use Rattle.tree_model.proofs.Histories.{after_more, answered_more, rows_after_more}
use Rattle.tree_loading.specs.Format.{sealing_of}
use Rattle.version_laws.specs.RowVersions.{wrapped}
use Rattle.crash_laws.specs.Crash.{rows_stepped}
use Rattle.crash_laws.specs.Stable.{is_kept, stable_then}
use Rattle.crash_laws.proofs.Histories.{at_kept}
use Rattle.crash_laws.proofs.Moves.{stays_broken}
use Rattle.crash_laws.proofs.States.{state_broke, broken_state}
use Rattle.node_changes.specs.Placed.{IfDrawn, IsIdentifierOf, taken_for}
use Rattle.store_laws.specs.Store.{StoreView, bounded, moment_of, shows_under, HasRowsLeft, IsPlacedOn, IsStoredIn, IsStoreOf, IsTakenBy}
use Rattle.store_laws.specs.Turns.{Draws, IsMadeOf, AddsEntry, Turn, made_in, IsTakenFor, StoppedTurnsAdd}
use Rattle.store_laws.proofs.Placed.{at_its_end, placed_more}
use Rattle.store_laws.proofs.Turns.{and_false, none_not_some, counted, stable, adds_to}

some_back : (o : Option ℕ) (number : ℕ) → Some number ≡ option_map bounded o → (f : ℕ) × (o ≡ Some f) × (number ≡ bounded f)
some_back None number is = absurd cc
some_back (Some f) number is = (f, refl, cc)

one_some : (o : Option ℕ) (f g : ℕ) → o ≡ Some f → o ≡ Some g → f ≡ g
one_some o f g one other = let both : Some f ≡ Some g = sym one ∙ other in cc

module _ (old : StoreView) (before : FolderView) (source : EntropyView) (turn : Turn) (number : ℕ) (is : old.stopped ≡ Some number) (reply : turn.asked.reply ≡ refused (refusals.Stopped number)) (undrawn : turn.drawn ≡ None)
    (unflagged : turn.commit_failed ≡ false) (taken : IsTakenFor old before turn.asked.request turn.drawn turn.taken) where
  abbrev new : StoreView
  new = record old { entries = bounded (suc old.entries) }

  module _ (found : Option Log) (rows : Rows) (origin : Origin) (history : List Entry) (caller : ℕ) where
    abbrev tally : Tally
    tally = tally_of origin history

    abbrev made : Made
    made = made_in turn before.faults before source source (stable_then turn.asked.request turn.asked.reply tally.stable (suc (length history)))

    abbrev entry : Entry
    entry = entry_of caller made

    abbrev Before : Type 0
    Before = IsStoreOf found old before rows origin history

    abbrev Stored : Log → Type 0
    Stored log = IsStoredIn found old rows origin history log

    abbrev StoredNext : Log → Type 0
    StoredNext log = IsStoredIn found new rows origin (history ++ entry ∷ []) log

    -- if it stopped
    at : Before → (f : ℕ) × (tally.stopped ≡ Some f) × (number ≡ bounded f)
    at store = some_back tally.stopped number (sym is ∙ store.stopped)

    running_not : Before → IsNone tally.stopped → ⊥
    running_not store none = none_not_some tally.stopped (at store).0 none (at store).1

    same_stable : made.stable ≡ tally.stable
    same_stable =
        ap (λ (b : Bool). cond b (suc (length history)) tally.stable)
        (ap (λ (r : PlainReply). is_kept turn.asked.request r) reply ∙ and_false (is_stable turn.asked.request))

    caused : Before → tally.entropy_faults caller ≤ source.faults → IsCaused tally entry
    caused store drew =
        let next_stable = stable old new before.faults before before source source turn found rows origin history caller store in
        record {
          running = λ none. absurd (running_not store none);
          stopped = λ f there. reply ∙ ap (λ (n : ℕ). refused (refusals.Stopped n)) ((at store).2 ∙ ap bounded (one_some tally.stopped (at store).0 f (at store).1 there));
          flag = λ failed. absurd (true≢false (sym failed ∙ unflagged));
          drawn = λ some. absurd (true≢false (sym some ∙ ap is_some undrawn));
          folder_since = store.faults;
          folder = omega arith;
          entropy_since = drew;
          entropy = omega arith;
          stable_since = next_stable.since;
          stable_within = omega (arith, next_stable.within, counted old new before.faults before before source source turn found rows origin history caller);
          kept = λ stable_request accepted. next_stable.kept stable_request accepted ∙ ap suc (sym (counted old new before.faults before before source source turn found rows origin history caller));
          moment_since = store.moment;
        }

    still_stopped : (next tally entry).stopped ≡ tally.stopped
    still_stopped = ap (λ (b : Bool). cond b (Some tally.count) tally.stopped) unflagged

    abbrev TakenOn : Disk → Type 0
    TakenOn d = turn.taken ≡ taken_for (sealing_of old.keys) d old.live turn.asked.request turn.drawn

    -- since the end of the entry before no moment has gone by
    taken_then : (log : Log) → tally.moment ≡ moment log → TakenOn (now log) → TakenOn (now (log_at log tally.moment))
    taken_then log rests taken_now = subst TakenOn (sym (ap (λ (m : ℕ). now (log_at log m)) rests ∙ ap now (at_its_end log))) taken_now

    rows_stay : rows_after rows (history ++ entry ∷ []) ≡ rows_after rows history
    rows_stay =
        let so_far = rows_after rows history in
        rows_after_more rows history entry ∙ ap (λ (r : PlainReply). cond (is_refusal r) so_far (step so_far turn.asked.request turn.asked.second).rows) reply

    left_still : HasRowsLeft old rows history → HasRowsLeft new rows (history ++ entry ∷ [])
    left_still left = record {
      contents = left.contents;
      current = elim left.current [
        | inl same ↦ inl (ap wrapped rows_stay ∙ same)
        | inr change ↦
            inr (record {
              number = change.number;
              entry = change.entry;
              there = at_kept history entry change.number change.entry change.there;
              failed = change.failed;
              stepped = ap (λ (r : Rows). wrapped (rows_stepped r change.entry.made)) rows_stay ∙ change.stepped;
            })
      ];
    }

    stays_on : (log : Log) → Before → moment_of before.log ≡ moment log → made.moment ≡ moment log → Stored log → TakenOn (now log) → StoredNext log
    stays_on log store was here stored taken_now =
        let some : IsSome tally.stopped = ap is_some (at store).1 in
        let more : (tally_of origin (history ++ entry ∷ [])).stopped ≡ tally.stopped = ap (λ (t : Tally). t.stopped) (after_more (tally_at origin) history entry) ∙ still_stopped in
        record {
          placed = placed_more (λ (o : Option ℕ). IsNone o) (IsPlacedOn old.keys) rows origin history entry log log (goes_nowhere log) store.caused (omega (arith, store.moment, was)) stored.placed
              (λ none. absurd (running_not store none));
          placed_since = placed_more (λ (o : Option ℕ). IsSome o) (λ d r made. IsTakenBy old.keys old.live d made) rows origin history entry log log (goes_nowhere log) store.caused (omega (arith, store.moment, was))
              stored.placed_since (λ stopped. taken_then log (stored.rests stopped) taken_now);
          left = λ stopped. left_still (stored.left some);
          rests = λ stopped. ap (λ (t : Tally). t.moment) (after_more (tally_at origin) history entry) ∙ here;
          state = λ opened from. broken_state (shows_under found old.keys) opened rows origin history entry old.waiting log (inr some)
              (stays_broken (shows_under found old.keys) opened rows origin history log entry (state_broke (shows_under found old.keys) opened rows history old.waiting log tally.stopped some (stored.state opened from)) here same_stable);
          begun = stored.begun;
          waits = λ none. absurd (running_not store (subst (λ (o : Option ℕ). IsNone o) more none));
          within = λ none. absurd (running_not store (subst (λ (o : Option ℕ). IsNone o) more none));
          strays = λ none. absurd (running_not store (subst (λ (o : Option ℕ). IsNone o) more none));
          others = λ none. absurd (running_not store (subst (λ (o : Option ℕ). IsNone o) more none));
          since = λ none. absurd (running_not store (subst (λ (o : Option ℕ). IsNone o) more none));
          tree = λ none. absurd (running_not store (subst (λ (o : Option ℕ). IsNone o) more none));
          answered = answered_more rows (tally_at origin) history entry stored.answered (λ none. absurd (running_not store none));
        }

    stays_told : (log : Option Log) → Before → moment_of before.log ≡ moment_of log → made.moment ≡ moment_of log → Told log Stored → Told (disk_in log) TakenOn → Told log StoredNext
    stays_told None store was here stored taken_now = tt
    stays_told (Some log) store was here stored taken_now = stays_on log store was here stored taken_now

    drawn_none : (o : Option (List ℕ)) → Changes o o (Draws made)
    drawn_none None = tt
    drawn_none (Some bytes) = record {
      more = [];
      on = sym (append-nil bytes);
      identifier = subst (λ (d : Option (List ℕ)). IfDrawn d (λ identifier. IsIdentifierOf identifier bytes bytes)) (sym undrawn) tt;
      unspent = λ none may. refl;
    }

    made_so : IsMadeOf turn.asked old before.faults before before source source made
    made_so = record {
      same = refl;
      folder = (refl, refl);
      entropy = (refl, refl);
      drawn = drawn_none source.drawn;
      taken = taken;
      moment = refl;
    }

  stopped_adds : AddsEntry old new before before turn.asked source source
  stopped_adds found rows origin history caller store drew = (
    made found rows origin history caller,
    made_so found rows origin history caller,
    adds_to old new before.faults before before source source turn found rows origin history caller store (caused found rows origin history caller store drew) (unchanged before.log before.log LogGoesOn refl goes_nowhere)
        (stays_told found rows origin history caller before.log store refl refl store.stored taken)
        (store.stopped ∙ sym (ap (λ (o : Option ℕ). option_map bounded o) (still_stopped found rows origin history caller))) refl,
  )

pub stopped_turns_add : StoppedTurnsAdd
stopped_turns_add old new before after source source' turn is =
    subst (λ (n : StoreView). AddsEntry old n before after turn.asked source source') (sym is.new_is)
    (subst (λ (f : FolderView). AddsEntry old (record old { entries = bounded (suc old.entries) }) before f turn.asked source source') (sym is.folder_is)
    (subst (λ (e : EntropyView). AddsEntry old (record old { entries = bounded (suc old.entries) }) before before turn.asked source e) (sym is.source_is)
    (stopped_adds old before source turn is.number is.is is.reply is.undrawn is.unflagged is.taken)))
