-- Whether a history's store runs or is broken, by its tally.
use Rattle.std.proofs.Common.{◌≡◌, ◌⊎◌, ℕ, List, [], ◌∷◌, ◌++◌, Bool, true, false, cond, Option, Some, None, IsNone, IsSome, refl, sym, ap, subst, inl, inr}
use Rattle.outside.specs.Images.{Log}
use Rattle.deeds.specs.Deeds.{PlainDeed}
use Rattle.chunk_journal.specs.Journal.{TidySince}
use Rattle.tree_model.specs.Rows.{Rows}
use Rattle.tree_model.specs.History.{Entry, Tally, Origin, tally_at, tally_of}
use Rattle.tree_model.proofs.Histories.{after_more}
use Rattle.crash_laws.specs.Crash.{DiskShows}
use Rattle.crash_laws.specs.Stands.{IsRunning, IsBroken, IsInState}

-- an entry whose commit didn't fail stops no store
pub stopped_more : (origin : Origin) (history : List Entry) (entry : Entry)
    → (tally_of origin (history ++ entry ∷ [])).stopped ≡ cond entry.made.commit_failed (Some (tally_of origin history).count) (tally_of origin history).stopped
stopped_more origin history entry = ap (λ (t : Tally). t.stopped) (after_more (tally_at origin) history entry)

still_none : (failed : Bool) (count : ℕ) (stopped : Option ℕ) → failed ≡ false → IsNone stopped → IsNone (cond failed (Some count) stopped)
still_none true count stopped fine none = absurd cc
still_none false count stopped fine none = none

still_some : (failed : Bool) (count : ℕ) (stopped : Option ℕ) → (failed ≡ true) ⊎ IsSome stopped → IsSome (cond failed (Some count) stopped)
still_some true count stopped why = refl
still_some false count stopped (inl failed) = absurd cc
still_some false count stopped (inr some) = some

module _ (Shows : DiskShows) (opened : ℕ) (rows : Rows) where
  -- the two states by the tally

  pub state_runs : (history : List Entry) (pending : List PlainDeed) (log : Log) (stopped : Option ℕ) → IsNone stopped → IsInState Shows opened rows history pending log stopped → IsRunning Shows opened rows history pending log
  state_runs history pending log None none is = is
  state_runs history pending log (Some f) none is = let no : true ≡ false = none in absurd cc

  pub state_broke : (history : List Entry) (pending : List PlainDeed) (log : Log) (stopped : Option ℕ) → IsSome stopped → IsInState Shows opened rows history pending log stopped → IsBroken Shows opened rows history log
  state_broke history pending log None some is = let no : false ≡ true = some in absurd cc
  state_broke history pending log (Some f) some is = is

  runs_state : (history : List Entry) (pending : List PlainDeed) (log : Log) (stopped : Option ℕ) → IsNone stopped → IsRunning Shows opened rows history pending log → IsInState Shows opened rows history pending log stopped
  runs_state history pending log None none is = is
  runs_state history pending log (Some f) none is = let no : true ≡ false = none in absurd cc

  broke_state : (history : List Entry) (pending : List PlainDeed) (log : Log) (stopped : Option ℕ) → IsSome stopped → IsBroken Shows opened rows history log → IsInState Shows opened rows history pending log stopped
  broke_state history pending log None some is = let no : false ≡ true = some in absurd cc
  broke_state history pending log (Some f) some is = is

  pub state_tidy : (history : List Entry) (pending : List PlainDeed) (log : Log) (stopped : Option ℕ) → IsInState Shows opened rows history pending log stopped → TidySince opened log
  state_tidy history pending log None is = is.tidy
  state_tidy history pending log (Some f) is = is.tidy

  -- with one entry more

  pub running_state : (origin : Origin) (history : List Entry) (entry : Entry) (pending : List PlainDeed) (log : Log) → IsNone (tally_of origin history).stopped → entry.made.commit_failed ≡ false
      → IsRunning Shows opened rows (history ++ entry ∷ []) pending log → IsInState Shows opened rows (history ++ entry ∷ []) pending log (tally_of origin (history ++ entry ∷ [])).stopped
  running_state origin history entry pending log none fine is = runs_state (history ++ entry ∷ []) pending log (tally_of origin (history ++ entry ∷ [])).stopped
      (subst (λ (o : Option ℕ). IsNone o) (sym (stopped_more origin history entry)) (still_none entry.made.commit_failed (tally_of origin history).count (tally_of origin history).stopped fine none)) is

  pub broken_state : (origin : Origin) (history : List Entry) (entry : Entry) (pending : List PlainDeed) (log : Log) → (entry.made.commit_failed ≡ true) ⊎ IsSome (tally_of origin history).stopped
      → IsBroken Shows opened rows (history ++ entry ∷ []) log → IsInState Shows opened rows (history ++ entry ∷ []) pending log (tally_of origin (history ++ entry ∷ [])).stopped
  broken_state origin history entry pending log why is = broke_state (history ++ entry ∷ []) pending log (tally_of origin (history ++ entry ∷ [])).stopped
      (subst (λ (o : Option ℕ). IsSome o) (sym (stopped_more origin history entry)) (still_some entry.made.commit_failed (tally_of origin history).count (tally_of origin history).stopped why)) is
