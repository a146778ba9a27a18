-- A phase's deeds one by one, of logs that may be told.
use Rattle.std.proofs.Common.{◌≡◌, ℕ, suc, ◌+◌, ◌≤◌, List, [], ◌∷◌, take, drop, length, Option, refl, sym, subst, arith}
use Rattle.outside.specs.Calls.{Changes}
use Rattle.outside.specs.Images.{Log, now}
use Rattle.outside.proofs.Told.{both_changed, changed_by, through, unchanged}
use Rattle.deeds.specs.declared.phase.Phase.{Phase}
use Rattle.deeds.specs.Deeds.{PlainDeed, DoesAll, StaysAmid, GoesOnAt, named, of_phase}
use Rattle.deeds.specs.Applying.{StaysApplied, HasStopped}
use Rattle.deeds.proofs.Applying.{front_applied, front_stopped, whole_stays}
use Rattle.deeds.proofs.Doing.{all_still, stays_then}
use Rattle.deeds.proofs.Growing.{still_grown}
use Rattle.deeds.proofs.Named.{more_grown}
use Rattle.deeds.proofs.Phases.{done_more, front_step, part_more}

abbrev Front : Phase → List PlainDeed → Log → Log → Type 0
Front phase front old new = DoesAll (of_phase phase front) (now old) (now new)

-- the phase's deeds among the first ones were done, between two logs and two counts of faults
pub record IsDoneTo (phase : Phase) (ds : List PlainDeed) (i : ℕ) (a b : Option Log) (fa fb : ℕ) : Type 0 where
  pub done : Changes a b (Front phase (take i ds))
  pub front : Changes a b (StaysAmid (of_phase phase (take i ds)))
  pub amid : Changes a b (StaysAmid (of_phase phase ds))
  pub grown : Changes a b (GoesOnAt (named (of_phase phase ds)))
  pub later : fa ≤ fb

pub none_done : (phase : Phase) (ds : List PlainDeed) (a : Option Log) (fa : ℕ) → IsDoneTo phase ds 0 a a fa fa
none_done phase ds a fa = record {
  done = unchanged a a (Front phase (take 0 ds)) refl (λ l. refl);
  front = unchanged a a (StaysAmid (of_phase phase (take 0 ds))) refl (all_still []);
  amid = unchanged a a (StaysAmid (of_phase phase ds)) refl (all_still (of_phase phase ds));
  grown = still_grown (named (of_phase phase ds)) a a refl;
  later = omega arith;
}

module _ {phase : Phase} {ds : List PlainDeed} {i : ℕ} {a b : Option Log} {fa fb : ℕ} (so_far : IsDoneTo phase ds i a b fa fb) where
  both : Changes a b (λ old new. Front phase (take i ds) old new × StaysAmid (of_phase phase (take i ds)) old new)
  both = both_changed a b (Front phase (take i ds)) (StaysAmid (of_phase phase (take i ds))) so_far.done so_far.front

  -- all were done
  module _ (all : take i ds ≡ ds) where
    pub all_done : Changes a b (Front phase ds)
    all_done = subst (λ (l : List PlainDeed). Changes a b (Front phase l)) all so_far.done

    pub all_applied : Changes a b (StaysApplied (of_phase phase ds))
    all_applied = changed_by a b (λ old new. Front phase (take i ds) old new × StaysAmid (of_phase phase (take i ds)) old new) (StaysApplied (of_phase phase ds))
        (λ old new h. subst (λ (l : List PlainDeed). StaysApplied (of_phase phase l) old new) all (whole_stays (of_phase phase (take i ds)) old new h.0 h.1)) both

  -- the next one
  module _ {d : PlainDeed} (here : drop i ds ≡ d ∷ drop (suc i) ds) (c : Option Log) where
    abbrev one : List PlainDeed
    one = of_phase phase (d ∷ [])

    pub next_amid : Changes b c (StaysAmid one) → Changes a c (StaysAmid (of_phase phase ds))
    next_amid stays = through a b c (StaysAmid (of_phase phase ds)) (StaysAmid one) (StaysAmid (of_phase phase ds)) (part_more phase ds i d _ here) so_far.amid stays

    pub next_grown : Changes b c (GoesOnAt (named one)) → Changes a c (GoesOnAt (named (of_phase phase ds)))
    next_grown grown = more_grown phase ds i d _ here a b c so_far.grown grown

    pub next_applied : Changes b c (StaysAmid one) → Changes b c (StaysApplied one) → Changes a c (StaysApplied (of_phase phase ds))
    next_applied stays applied = front_applied phase ds i d here a b c both stays applied

    pub next_stopped : Changes b c (HasStopped one) → Changes a c (HasStopped (of_phase phase ds))
    next_stopped stopped = front_stopped phase ds i d here a b c so_far.done stopped

    pub next_done : (fc : ℕ) → Changes b c (Front phase (d ∷ [])) → Changes b c (StaysAmid one) → Changes b c (GoesOnAt (named one)) → fb ≤ fc → IsDoneTo phase ds (i + 1) a c fa fc
    next_done fc does stays grown later = record {
      done = through a b c (Front phase (take i ds)) (Front phase (d ∷ [])) (Front phase (take (i + 1) ds))
          (λ old mid new first second. done_more phase ds i d _ here (now old) (now mid) (now new) first second) so_far.done does;
      front = through a b c (StaysAmid (of_phase phase (take i ds))) (StaysAmid one) (StaysAmid (of_phase phase (take (i + 1) ds)))
          (λ old mid new first second. subst (λ (l : List PlainDeed). StaysAmid l old new) (sym (front_step phase ds i d _ here)) (stays_then _ _ old mid new first second)) so_far.front stays;
      amid = next_amid stays;
      grown = next_grown grown;
      later = omega (arith, so_far.later, later);
    }
