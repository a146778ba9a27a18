-- Deeds that are done, or left out.
use Rattle.std.proofs.Common.{◌≡◌, ◌++◌, List, [], ◌∷◌, ◌≤◌, ℕ, Option, refl, sym, ap, subst, ◌∙◌, inl, inr, arith}
use Rattle.outside.specs.Calls.{Changes, Told}
use Rattle.outside.specs.Disk.{Disk}
use Rattle.outside.specs.Images.{Log, Synced, adds, now}
use Rattle.outside.proofs.Told.{changed_by, changed_from, through, unchanged}
use Rattle.deeds.specs.Deeds.{PlainDeed, MakesDir, Puts, Renames, Removes, RemovesDir, Reshapes, CanDeed, Does, DoesAll, IsWithin, done_deed}
use Rattle.deeds.specs.Reshape.{Ranges}
use Rattle.deeds.specs.Applying.{IsDoneOf, HasBrokenOff}
use Rattle.deeds.specs.Plain.{plain, plains}
use Rattle.deeds.proofs.Phases.{plains_pushed}
use Rattle.deeds.specs.declared.deed.Deed.{Deed}
use Rattle.journal_mending.specs.declared.state.State.TheVariants.{Done, Unfit}
use Rattle.journal_mending.specs.declared.state.DeedState.{DeedState}
use Rattle.journal_mending.specs.Mending.{deeds_in, IsWhole, Skips, SkipsAll}

-- ---- one deed

pub whole_within : (d : PlainDeed) → IsWhole d → IsWithin d
whole_within (MakesDir path) whole = tt
whole_within (Puts path bytes) whole = tt
whole_within (Renames from to) whole = tt
whole_within (Removes path) whole = tt
whole_within (RemovesDir path) whole = tt
whole_within (Reshapes path len ranges) whole = absurd whole

none_done : (d : PlainDeed) → IsWhole d → (disk : Disk) (part : List PlainDeed) → IsDoneOf d disk part → part ≡ []
none_done (MakesDir path) whole disk part is = is
none_done (Puts path bytes) whole disk part is = is
none_done (Renames from to) whole disk part is = is
none_done (Removes path) whole disk part is = is
none_done (RemovesDir path) whole disk part is = is
none_done (Reshapes path len ranges) whole disk part is = absurd whole

-- what was refused is left out
pub left_out : (d : PlainDeed) → IsWhole d → (a b : Option Log) → Changes a b (HasBrokenOff d) → Changes a b (λ old new. Skips Unfit d (now old) (now new))
left_out d whole a b off = changed_by a b (HasBrokenOff d) (λ old new. Skips Unfit d (now old) (now new))
    (λ old new off. (off.off.0, subst (λ (l : List PlainDeed). DoesAll l (now old) (now new)) (none_done d whole (now old) off.part off.off.1) off.does)) off

-- what could be done wasn't refused
pub not_refused : (path : _) (len : ℕ) (rs : Ranges) (a b : Option Log) → Told a (λ l. CanDeed (Reshapes path len rs) (now l)) → Changes a b (HasBrokenOff (Reshapes path len rs)) → Changes a b (λ old new. Skips Unfit (Reshapes path len rs) (now old) (now new))
not_refused path len rs a b can off = changed_from a b (λ l. CanDeed (Reshapes path len rs) (now l)) (HasBrokenOff (Reshapes path len rs)) (λ old new. Skips Unfit (Reshapes path len rs) (now old) (now new))
    (λ old new can off. absurd (off.off.0 (done_deed (Reshapes path len rs) (now old)) (inr (can, refl)))) can off

-- what can't be done is left out
pub cannot_skip : (path : _) (len : ℕ) (rs : Ranges) (a b : Option Log) → b ≡ a → Told a (λ l. CanDeed (Reshapes path len rs) (now l) → ⊥) → Changes a b (λ old new. Skips Unfit (Reshapes path len rs) (now old) (now new))
cannot_skip path len rs a b same cannot = changed_from a b (λ l. CanDeed (Reshapes path len rs) (now l) → ⊥) (λ old new. new ≡ old) (λ old new. Skips Unfit (Reshapes path len rs) (now old) (now new))
    (λ old new cannot same. (λ after does. never old after cannot does, ap now same)) cannot (unchanged a b (λ old new. new ≡ old) same (λ x. refl))
  where
    never : (old : Log) (after : Disk) → (CanDeed (Reshapes path len rs) (now old) → ⊥) → Does (Reshapes path len rs) (now old) after → ⊥
    never old after cannot (inl already) = already.0
    never old after cannot (inr does) = cannot does.0

-- a sync after a deed leaves what the deed did
pub done_synced : (d : PlainDeed) (a b c : Option Log) → Changes a b (λ old new. Does d (now old) (now new)) → Changes b c (λ old new. new ≡ adds old Synced) → Changes a c (λ old new. Skips Done d (now old) (now new))
done_synced d a b c does synced = through a b c (λ old new. Does d (now old) (now new)) (λ old new. new ≡ adds old Synced) (λ old new. Skips Done d (now old) (now new))
    (λ x y z does is. subst (λ (e : Disk). Does d (now x) e) (sym (ap now is)) does) does synced

-- ---- deeds in order

pub skips_more : (ss : List DeedState) (s : DeedState) (a b c : Disk) → SkipsAll ss a b → Skips s.state (plain s.deed) b c → SkipsAll (ss ++ s ∷ []) a c
skips_more [] s a b c skips one = (c, subst (λ (e : Disk). Skips s.state (plain s.deed) e c) skips one, refl)
skips_more (x ∷ ss) s a b c skips one = (skips.0, skips.1, skips_more ss s skips.0 b c skips.2 one)

pub deeds_pushed : (ss : List DeedState) (s : DeedState) → deeds_in (ss ++ s ∷ []) ≡ deeds_in ss ++ plain s.deed ∷ []
deeds_pushed [] s = refl
deeds_pushed (x ∷ ss) s = ap (λ (l : List PlainDeed). plain x.deed ∷ l) (deeds_pushed ss s)

-- what was skipped so far: each deed that was taken, in order
pub record HasSkippedSoFar (taken : List Deed) (states : List DeedState) (a b : Option Log) (before by_now : ℕ) : Type 0 where
  pub deeds : deeds_in states ≡ plains taken
  pub skips : Changes a b (λ old new. SkipsAll states (now old) (now new))
  pub later : before ≤ by_now

pub none_skipped : (a : Option Log) (n : ℕ) → HasSkippedSoFar [] [] a a n n
none_skipped a n = record { deeds = refl; skips = unchanged a a (λ old new. now new ≡ now old) refl (λ x. refl); later = omega arith }

pub one_skipped : (taken : List Deed) (ss : List DeedState) (a b c : Option Log) (f g h : ℕ) (s : DeedState) → HasSkippedSoFar taken ss a b f g → Changes b c (λ old new. Skips s.state (plain s.deed) (now old) (now new)) → g ≤ h
    → HasSkippedSoFar (taken ++ s.deed ∷ []) (ss ++ s ∷ []) a c f h
one_skipped taken ss a b c f g h s so_far one le = record {
  deeds = deeds_pushed ss s ∙ ap (λ (l : List PlainDeed). l ++ plain s.deed ∷ []) so_far.deeds ∙ sym (plains_pushed taken s.deed);
  skips = through a b c (λ old new. SkipsAll ss (now old) (now new)) (λ old new. Skips s.state (plain s.deed) (now old) (now new)) (λ old new. SkipsAll (ss ++ s ∷ []) (now old) (now new))
      (λ x y z skips one. skips_more ss s (now x) (now y) (now z) skips one) so_far.skips one;
  later = omega (arith, so_far.later, le);
}
