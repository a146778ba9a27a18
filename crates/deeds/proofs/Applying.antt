-- Deeds that are applied up to the first call whose condition fails.
use Rattle.std.proofs.Common.{◌≡◌, ◌⊎◌, ⊎_elim, ℕ, suc, ◌≤◌, List, [], ◌∷◌, ◌++◌, Bool, true, false, cond, length, take, drop, Option, Some, None, refl, sym, ap, subst, ◌∙◌, inl, inr}
use Rattle.std.proofs.lemmas.List.{take-append-drop}
use Rattle.std.proofs.lemmas.List.Elements.{filter-append}
use Rattle.outside.specs.Calls.{Changes, IsUnfit}
use Rattle.outside.specs.Changes.{Change, CanDo, done}
use Rattle.outside.specs.Disk.{Disk, Path, file, node_at, IsTree}
use Rattle.outside.specs.Images.{Log, now, HasDone, HasBroken}
use Rattle.outside.proofs.Paths.{same_disk}
use Rattle.outside.proofs.Told.{both_changed, changed_by, through, unchanged}
use Rattle.deeds.specs.declared.phase.Phase.{Phase}
use Rattle.deeds.specs.declared.phase.DeedErr.{DeedErr}
use Rattle.deeds.specs.declared.phase.DeedErr.TheVariants as errors
use Rattle.deeds.specs.Reshape.{Ranges, written, CanWrite, IsReshaping}
use Rattle.deeds.specs.Deeds.{PlainDeed, MakesDir, Puts, Renames, Removes, RemovesDir, Reshapes, Does, DoesAll, names, NotIn, NoneIn, Unnamed, ApartFrom, AreApart, AllOnTheWay, OnTheWay, IsAmid, IsSameDisk, StaysAmid, IfUnfit, is_of, of_phase}
use Rattle.deeds.specs.Applying.{StopsBehind, IsDoneOf, BreaksOff, GoesAsFar, Applies, KeepsStill, StaysApplied, StaysRefused, HasBrokenOff, HasStopped}
use Rattle.deeds.proofs.Again.{again_amid, elsewhere, others_on_the_way}
use Rattle.deeds.proofs.Doing.{all_still, does_one, does_then, same_run, stays_front, stays_then}
use Rattle.deeds.proofs.Phases.{of_one}
use Rattle.deeds.proofs.Reshape.{reshaping_begun}
use Rattle.deeds.proofs.CutShort.{cut_again, stops_cannot, stops_one}

-- ---- deeds that can all be done

pub whole_far : (xs : List PlainDeed) (a b : Disk) → DoesAll xs a b → GoesAsFar xs a xs
whole_far [] a b run = refl
whole_far (x ∷ xs) a b run = inl (run.0, run.1, xs, whole_far xs run.0 b run.2, refl)

pub far_whole : (xs : List PlainDeed) (a b : Disk) (part : List PlainDeed) → DoesAll xs a b → GoesAsFar xs a part → part ≡ xs
far_whole [] a b part run far = far
far_whole (x ∷ xs) a b part run (inl far) =
    let same = does_one x a far.0 run.0 far.1 run.1 in
    far.4 ∙ ap (λ (l : List PlainDeed). x ∷ l) (far_whole xs far.0 b far.2 (subst (λ (d : Disk). DoesAll xs d b) (sym same) run.2) far.3)
far_whole (x ∷ xs) a b part run (inr off) = absurd (off.0 run.0 run.1)

pub applies_whole : (xs : List PlainDeed) (a b : Disk) → DoesAll xs a b → Applies xs a b
applies_whole xs a b run = record { part = xs; far = whole_far xs a b run; does = run }

-- ---- what is done is determined

done_of_one : (x : PlainDeed) (a : Disk) (p q : List PlainDeed) → IsDoneOf x a p → IsDoneOf x a q → p ≡ q
done_of_one (MakesDir path) a p q one two = one ∙ sym two
done_of_one (Puts path bytes) a p q one two = one ∙ sym two
done_of_one (Renames from to) a p q one two = one ∙ sym two
done_of_one (Removes path) a p q one two = one ∙ sym two
done_of_one (RemovesDir path) a p q one two = one ∙ sym two
done_of_one (Reshapes path len rs) a p q (inl one) (inl two) = one.1 ∙ sym two.1
done_of_one (Reshapes path len rs) a p q (inl one) (inr two) = absurd (one.0 (two.was, two.here))
done_of_one (Reshapes path len rs) a p q (inr one) (inl two) = absurd (two.0 (one.was, one.here))
done_of_one (Reshapes path len rs) a p q (inr one) (inr two) =
    let was : one.was ≡ two.was = (let f : Some (file one.was) ≡ Some (file two.was) = sym one.here ∙ two.here in cc) in
    let made : one.made ≡ two.made = stops_one len rs two.was one.made two.made (subst (λ (b : List ℕ). StopsBehind len rs b one.made) was one.stops) two.stops in
    one.is ∙ ap (λ (b : List ℕ). Reshapes path (length (written one.made b)) one.made ∷ []) was ∙ ap (λ (m : Ranges). Reshapes path (length (written m two.was)) m ∷ []) made ∙ sym two.is

pub far_one : (xs : List PlainDeed) (a : Disk) (p q : List PlainDeed) → GoesAsFar xs a p → GoesAsFar xs a q → p ≡ q
far_one [] a p q one two = one ∙ sym two
far_one (x ∷ xs) a p q (inl one) (inl two) =
    let same = does_one x a one.0 two.0 one.1 two.1 in
    one.4 ∙ ap (λ (l : List PlainDeed). x ∷ l) (far_one xs two.0 one.2 two.2 (subst (λ (d : Disk). GoesAsFar xs d one.2) same one.3) two.3) ∙ sym two.4
far_one (x ∷ xs) a p q (inl one) (inr two) = absurd (two.0 one.0 one.1)
far_one (x ∷ xs) a p q (inr one) (inl two) = absurd (one.0 two.0 two.1)
far_one (x ∷ xs) a p q (inr one) (inr two) = done_of_one x a p q one.1 two.1

pub applies_one : (xs : List PlainDeed) (a b c : Disk) → Applies xs a b → Applies xs a c → b ≡ c
applies_one xs a b c one two =
    same_run two.part a b c (subst (λ (l : List PlainDeed). DoesAll l a b) (far_one xs a one.part two.part one.far two.far) one.does) two.does

-- ---- some deeds and more

-- what is done goes on from some that can all be done
pub record GoesAfter (xs ys part : List PlainDeed) (b : Disk) : Type 0 where
  pub rest : List PlainDeed
  pub far : GoesAsFar ys b rest
  pub is : part ≡ xs ++ rest

pub goes_after : (xs ys part : List PlainDeed) (a b : Disk) → DoesAll xs a b → GoesAsFar (xs ++ ys) a part → GoesAfter xs ys part b
goes_after [] ys part a b run far = record { rest = part; far = subst (λ (d : Disk). GoesAsFar ys d part) (sym run) far; is = refl }
goes_after (x ∷ xs) ys part a b run (inl far) =
    let same = does_one x a far.0 run.0 far.1 run.1 in
    let more = goes_after xs ys far.2 far.0 b (subst (λ (d : Disk). DoesAll xs d b) (sym same) run.2) far.3 in
    record { rest = more.rest; far = more.far; is = far.4 ∙ ap (λ (l : List PlainDeed). x ∷ l) more.is }
goes_after (x ∷ xs) ys part a b run (inr off) = absurd (off.0 run.0 run.1)

-- it goes past them, or breaks off within them
pub goes_within : (xs ys part : List PlainDeed) (a : Disk) → GoesAsFar (xs ++ ys) a part → ((b : Disk) × GoesAfter xs ys part b) ⊎ GoesAsFar xs a part
goes_within [] ys part a far = inl (a, record { rest = part; far = far; is = refl })
goes_within (x ∷ xs) ys part a (inl far) =
    ⊎_elim (λ (past : (b : Disk) × GoesAfter xs ys far.2 b). inl (past.0, record { rest = past.1.rest; far = past.1.far; is = far.4 ∙ ap (λ (l : List PlainDeed). x ∷ l) past.1.is }))
    (λ (within : GoesAsFar xs far.0 far.2). inr (inl (far.0, far.1, far.2, within, far.4))) (goes_within xs ys far.2 far.0 far.3)
goes_within (x ∷ xs) ys part a (inr off) = inr (inr off)

pub far_then : (xs ys part : List PlainDeed) (a b : Disk) → DoesAll xs a b → GoesAsFar ys b part → GoesAsFar (xs ++ ys) a (xs ++ part)
far_then [] ys part a b run far = subst (λ (d : Disk). GoesAsFar ys d part) run far
far_then (x ∷ xs) ys part a b run far = inl (run.0, run.1, xs ++ part, far_then xs ys part run.0 b run.2 far, refl)

pub applied_then : (xs ys : List PlainDeed) (a b c : Disk) → DoesAll xs a b → Applies ys b c → Applies (xs ++ ys) a c
applied_then xs ys a b c run more = record { part = xs ++ more.part; far = far_then xs ys more.part a b run more.far; does = does_then xs more.part a b c run more.does }

-- what breaks off goes no further, whatever follows it
far_front : (xs ys part : List PlainDeed) (a c : Disk) → DoesAll part a c → GoesAsFar xs a part → (DoesAll xs a c → ⊥) → GoesAsFar (xs ++ ys) a part
far_front [] ys part a c run far never = absurd (never (subst (λ (l : List PlainDeed). DoesAll l a c) far run))
far_front (x ∷ xs) ys part a c run (inl far) never =
    let run' = subst (λ (l : List PlainDeed). DoesAll l a c) far.4 run in
    let same = does_one x a run'.0 far.0 run'.1 far.1 in
    let rest = subst (λ (d : Disk). DoesAll far.2 d c) same run'.2 in
    inl (far.0, far.1, far.2, far_front xs ys far.2 far.0 c rest far.3 (λ all. never (far.0, far.1, all)), far.4)
far_front (x ∷ xs) ys part a c run (inr off) never = inr off

-- what can be done can be done up to any of its deeds
pub split_run : (xs ys : List PlainDeed) (a c : Disk) → DoesAll (xs ++ ys) a c → (b : Disk) × DoesAll xs a b × DoesAll ys b c
split_run [] ys a c run = (a, refl, run)
split_run (x ∷ xs) ys a c run = let more = split_run xs ys run.0 c run.2 in (more.0, (run.0, run.1, more.1), more.2)

pub stopped_front : (xs ys : List PlainDeed) (a b : Log) → HasStopped xs a b → HasStopped (xs ++ ys) a b
stopped_front xs ys a b stopped = record {
  applied = record {
    part = stopped.applied.part;
    far = far_front xs ys stopped.applied.part (now a) (now b) stopped.applied.does stopped.applied.far (stopped.cannot (now b));
    does = stopped.applied.does;
  };
  cannot = λ after run. let split = split_run xs ys (now a) after run in stopped.cannot split.0 split.1;
}

pub stopped_then : (xs ys : List PlainDeed) (a b c : Log) → DoesAll xs (now a) (now b) → HasStopped ys b c → HasStopped (xs ++ ys) a c
stopped_then xs ys a b c run stopped = record {
  applied = applied_then xs ys (now a) (now b) (now c) run stopped.applied;
  cannot = λ after all.
      let split = split_run xs ys (now a) after all in
      stopped.cannot after (subst (λ (d : Disk). DoesAll ys d after) (same_run xs (now a) split.0 (now b) split.1 run) split.2);
}

-- nothing after one that breaks off is done
pub stopped_at : (x : PlainDeed) (ys : List PlainDeed) (a c : Log) → HasBrokenOff x a c → HasStopped (x ∷ ys) a c
stopped_at x ys a c off = record {
  applied = record { part = off.part; far = inr off.off; does = off.does };
  cannot = λ after run. off.off.0 run.0 run.1;
}

-- ---- paths that they name

done_apart : (y x : PlainDeed) (a : Disk) (part : List PlainDeed) → IsDoneOf x a part → NoneIn (names y) (names x) → NoneIn (names x) (names y) → ApartFrom y part
done_apart y (MakesDir path) a part is one two = subst (ApartFrom y) (sym is) tt
done_apart y (Puts path bytes) a part is one two = subst (ApartFrom y) (sym is) tt
done_apart y (Renames from to) a part is one two = subst (ApartFrom y) (sym is) tt
done_apart y (Removes path) a part is one two = subst (ApartFrom y) (sym is) tt
done_apart y (RemovesDir path) a part is one two = subst (ApartFrom y) (sym is) tt
done_apart y (Reshapes path len rs) a part (inl is) one two = subst (ApartFrom y) (sym is.1) tt
done_apart y (Reshapes path len rs) a part (inr cut) one two = subst (ApartFrom y) (sym cut.is) (one, two, tt)

from_part : (y : PlainDeed) (xs : List PlainDeed) (a : Disk) (part : List PlainDeed) → GoesAsFar xs a part → ApartFrom y xs → ApartFrom y part
from_part y [] a part far apart = subst (ApartFrom y) (sym far) tt
from_part y (x ∷ xs) a part (inl far) apart = subst (ApartFrom y) (sym far.4) (apart.0, apart.1, from_part y xs far.0 far.2 far.3 apart.2)
from_part y (x ∷ xs) a part (inr off) apart = done_apart y x a part off.1 apart.0 apart.1

done_alone : (x : PlainDeed) (a : Disk) (part : List PlainDeed) → IsDoneOf x a part → AreApart part
done_alone (MakesDir path) a part is = subst AreApart (sym is) tt
done_alone (Puts path bytes) a part is = subst AreApart (sym is) tt
done_alone (Renames from to) a part is = subst AreApart (sym is) tt
done_alone (Removes path) a part is = subst AreApart (sym is) tt
done_alone (RemovesDir path) a part is = subst AreApart (sym is) tt
done_alone (Reshapes path len rs) a part (inl is) = subst AreApart (sym is.1) tt
done_alone (Reshapes path len rs) a part (inr cut) = subst AreApart (sym cut.is) (tt, tt)

pub apart_part : (xs : List PlainDeed) (a : Disk) (part : List PlainDeed) → GoesAsFar xs a part → AreApart xs → AreApart part
apart_part [] a part far apart = subst AreApart (sym far) tt
apart_part (x ∷ xs) a part (inl far) apart = subst AreApart (sym far.4) (from_part x xs far.0 far.2 far.3 apart.0, apart_part xs far.0 far.2 far.3 apart.1)
apart_part (x ∷ xs) a part (inr off) apart = done_alone x a part off.1

done_unnamed : (q : Path) (x : PlainDeed) (a : Disk) (part : List PlainDeed) → IsDoneOf x a part → NotIn q (names x) → Unnamed q part
done_unnamed q (MakesDir path) a part is un = subst (Unnamed q) (sym is) tt
done_unnamed q (Puts path bytes) a part is un = subst (Unnamed q) (sym is) tt
done_unnamed q (Renames from to) a part is un = subst (Unnamed q) (sym is) tt
done_unnamed q (Removes path) a part is un = subst (Unnamed q) (sym is) tt
done_unnamed q (RemovesDir path) a part is un = subst (Unnamed q) (sym is) tt
done_unnamed q (Reshapes path len rs) a part (inl is) un = subst (Unnamed q) (sym is.1) tt
done_unnamed q (Reshapes path len rs) a part (inr cut) un = subst (Unnamed q) (sym cut.is) (un, tt)

pub unnamed_part : (q : Path) (xs : List PlainDeed) (a : Disk) (part : List PlainDeed) → GoesAsFar xs a part → Unnamed q xs → Unnamed q part
unnamed_part q [] a part far un = subst (Unnamed q) (sym far) tt
unnamed_part q (x ∷ xs) a part (inl far) un = subst (Unnamed q) (sym far.4) (un.0, unnamed_part q xs far.0 far.2 far.3 un.1)
unnamed_part q (x ∷ xs) a part (inr off) un = done_unnamed q x a part off.1 un.0

-- ---- what a stop leaves on the way

-- one of them breaks off, or its folder fails
pub stays_at : (front : List PlainDeed) (x : PlainDeed) (back : List PlainDeed) (a b c : Log) → DoesAll front (now a) (now b) → StaysAmid front a b → StaysAmid (x ∷ []) b c → StaysRefused x b c → StaysApplied (front ++ x ∷ back) a c
stays_at front x back a b c run first second off part far =
    let after = goes_after front (x ∷ back) part (now a) (now b) run far in
    subst (λ (l : List PlainDeed). StaysAmid l a c) (sym after.is) (stays_then front after.rest a b c first (rest after.rest after.far))
  where
    rest : (more : List PlainDeed) → GoesAsFar (x ∷ back) (now b) more → StaysAmid more b c
    rest more (inl did) = subst (λ (l : List PlainDeed). StaysAmid l b c) (sym did.4) (stays_front (x ∷ []) did.2 b c second)
    rest more (inr breaks) = off more breaks

pub applied_front : (xs ys : List PlainDeed) (a b : Log) → StaysAmid xs a b → StaysApplied xs a b → StaysApplied (xs ++ ys) a b
applied_front xs ys a b all stays part far =
    ⊎_elim (λ (past : (d : Disk) × GoesAfter xs ys part d). subst (λ (l : List PlainDeed). StaysAmid l a b) (sym past.1.is) (stays_front xs past.1.rest a b all))
    (λ (within : GoesAsFar xs (now a) part). stays part within) (goes_within xs ys part (now a) far)

pub applied_stays : (xs ys : List PlainDeed) (a b c : Log) → DoesAll xs (now a) (now b) → StaysAmid xs a b → StaysApplied ys b c → StaysApplied (xs ++ ys) a c
applied_stays xs ys a b c run first stays part far =
    let after = goes_after xs ys part (now a) (now b) run far in
    subst (λ (l : List PlainDeed). StaysAmid l a c) (sym after.is) (stays_then xs after.rest a b c first (stays after.rest after.far))

pub whole_stays : (xs : List PlainDeed) (a b : Log) → DoesAll xs (now a) (now b) → StaysAmid xs a b → StaysApplied xs a b
whole_stays xs a b run stays part far = subst (λ (l : List PlainDeed). StaysAmid l a b) (sym (far_whole xs (now a) (now b) part run far)) stays

-- ---- again

same_off : (x : PlainDeed) (s c e again : Disk) (part : List PlainDeed) → BreaksOff x s part → part ≡ [] → DoesAll part s e → DoesAll part c again → IsSameDisk again e → BreaksOff x c part
same_off x s c e again part off none first second same =
    let one : e ≡ s = subst (λ (l : List PlainDeed). DoesAll l s e) none first in
    let two : again ≡ c = subst (λ (l : List PlainDeed). DoesAll l c again) none second in
    let alike : again ≡ e = same_disk again e same in
    subst (λ (d : Disk). BreaksOff x d part) (sym one ∙ sym alike ∙ two) off

file_on_the_way : (p : Path) (len : ℕ) (rs : Ranges) (s c : Disk) (was : List ℕ) → node_at s p ≡ Some (file was) → OnTheWay (Reshapes p len rs) s c → (bytes : List ℕ) × (node_at c p ≡ Some (file bytes)) × IsReshaping len rs was bytes
file_on_the_way p len rs s c was here (inl same) = (was, same ∙ here, reshaping_begun len rs was)
file_on_the_way p len rs s c was here (inr way) =
    let e : way.0 ≡ was = (let f : Some (file way.0) ≡ Some (file was) = sym way.2 ∙ here in cc) in
    (way.1, way.3, subst (λ (b : List ℕ). IsReshaping len rs b way.1) e way.4)

pub cannot_reshape : (p : Path) (len : ℕ) (rs : Ranges) (d : Disk) (bytes : List ℕ) (made : Ranges) → node_at d p ≡ Some (file bytes) → StopsBehind len rs bytes made → (after : Disk) → Does (Reshapes p len rs) d after → ⊥
cannot_reshape p len rs d bytes made here stops after (inl never) = absurd never.0
cannot_reshape p len rs d bytes made here stops after (inr does) =
    let e : does.0.0 ≡ bytes = (let f : Some (file does.0.0) ≡ Some (file bytes) = sym does.0.1 ∙ here in cc) in
    stops_cannot len rs bytes made stops (subst (CanWrite rs) e does.0.3) (subst (λ (b : List ℕ). len ≤ length (written rs b)) e does.0.4)

off_again : (x : PlainDeed) (s c e again : Disk) (part : List PlainDeed) → BreaksOff x s part → DoesAll part s e → DoesAll part c again → IsSameDisk again e → AllOnTheWay part s c → BreaksOff x c part
off_again (MakesDir path) s c e again part off first second same way = same_off (MakesDir path) s c e again part off off.1 first second same
off_again (Puts path bytes) s c e again part off first second same way = same_off (Puts path bytes) s c e again part off off.1 first second same
off_again (Renames from to) s c e again part off first second same way = same_off (Renames from to) s c e again part off off.1 first second same
off_again (Removes path) s c e again part off first second same way = same_off (Removes path) s c e again part off off.1 first second same
off_again (RemovesDir path) s c e again part off first second same way = same_off (RemovesDir path) s c e again part off off.1 first second same
off_again (Reshapes path len rs) s c e again part off first second same way = by off.1
  where
    by : IsDoneOf (Reshapes path len rs) s part → BreaksOff (Reshapes path len rs) c part
    by (inl is) = same_off (Reshapes path len rs) s c e again part off is.1 first second same
    by (inr cut) =
        let x = Reshapes path (length (written cut.made cut.was)) cut.made in
        let here = file_on_the_way path (length (written cut.made cut.was)) cut.made s c cut.was cut.here (subst (λ (l : List PlainDeed). AllOnTheWay l s c) cut.is way).0 in
        let more = cut_again len rs cut.was here.0 cut.made cut.stops here.2 in (
          λ after does. cannot_reshape path len rs c here.0 cut.made here.1 more.stops after does,
          inr (record { was = here.0; here = here.1; made = cut.made; stops = more.stops; is = cut.is ∙ ap (λ (n : ℕ). Reshapes path n cut.made ∷ []) (sym more.long) }),
        )

again_far : (xs : List PlainDeed) (s e c again : Disk) (part : List PlainDeed) → GoesAsFar xs s part → DoesAll part s e → DoesAll part c again → IsSameDisk again e → AreApart part → AllOnTheWay part s c → GoesAsFar xs c part
again_far [] s e c again part far first second same apart way = far
again_far (x ∷ xs) s e c again part (inl far) first second same apart way =
    let one = subst (λ (l : List PlainDeed). DoesAll l s e) far.4 first in
    let two = subst (λ (l : List PlainDeed). DoesAll l c again) far.4 second in
    let apart' = subst AreApart far.4 apart in
    let way' = subst (λ (l : List PlainDeed). AllOnTheWay l s c) far.4 way in
    let between = does_one x s far.0 one.0 far.1 one.1 in
    inl (
      two.0,
      two.1,
      far.2,
      again_far xs one.0 e two.0 again far.2 (subst (λ (d : Disk). GoesAsFar xs d far.2) between far.3) one.2 two.2 same apart'.1
          (others_on_the_way x far.2 s one.0 c two.0 apart'.0 (λ q ne. elsewhere x s one.0 q one.1 ne) (λ q ne. elsewhere x c two.0 q two.1 ne) way'.1),
      far.4,
    )
again_far (x ∷ xs) s e c again part (inr off) first second same apart way = inr (off_again x s c e again part off first second same way)

-- applied again to an image amid what is done of them, they leave the same
pub applied_again : (xs part : List PlainDeed) (old new image : Disk) → GoesAsFar xs old part → DoesAll part old new → IsTree new → AreApart xs → IsAmid part old image
    → (again : Disk) × Applies xs image again × IsSameDisk again new
applied_again xs part old new image far does tree apart amid =
    let alone = apart_part xs old part far apart in
    let again = again_amid part old new image does tree alone amid in
    (again.0, record { part = part; far = again_far xs old new image again.0 part far does again.1 again.2 alone amid.each; does = again.1 }, again.2)

-- ---- one deed, if it is told

pub did_keeps : (x : PlainDeed) (change : Change) → ((d : Disk) → CanDo change d → Does x d (done change d)) → (a b : Option Log) → Changes a b (HasDone change) → Changes a b (KeepsStill x)
did_keeps x change does a b did = changed_by a b (HasDone change) (KeepsStill x) (λ old new h cannot. absurd (cannot (done change (now old)) (does (now old) h.0))) did

broke_still : (x : PlainDeed) (change : Change) → ((d : Disk) → CanDo change d → Does x d (done change d)) → (old new : Log) → HasBroken change old new → KeepsStill x old new
broke_still x change does old new (inl same) cannot = same
broke_still x change does old new (inr broke) cannot = absurd (cannot (done change (now old)) (does (now old) broke.1.can))

pub broke_keeps : (x : PlainDeed) (change : Change) → ((d : Disk) → CanDo change d → Does x d (done change d)) → (a b : Option Log) → Changes a b (HasBroken change) → Changes a b (KeepsStill x)
broke_keeps x change does a b broke = changed_by a b (HasBroken change) (KeepsStill x) (broke_still x change does) broke

pub same_keeps : (x : PlainDeed) (a b : Option Log) → b ≡ a → Changes a b (KeepsStill x)
same_keeps x a b same = unchanged a b (KeepsStill x) same (λ l cannot. refl)

-- of a deed of which nothing is done if it can't be done whole
pub still_refused : (x : PlainDeed) → ((d : Disk) (part : List PlainDeed) → IsDoneOf x d part → part ≡ []) → (a b : Option Log) → Changes a b (KeepsStill x) → Changes a b (StaysRefused x)
still_refused x none a b keeps = changed_by a b (KeepsStill x) (StaysRefused x)
    (λ old new still part off. subst (λ (l : List PlainDeed). StaysAmid l old new) (sym (none (now old) part off.1)) (subst (StaysAmid [] old) (sym (still off.0)) (all_still [] old))) keeps

pub still_left : (x : PlainDeed) → ((d : Disk) → IsDoneOf x d []) → (a b : Option Log) (fa fd : ℕ) → IsUnfit a fa fd (λ log. (after : Disk) × Does x (now log) after) → Changes a b (KeepsStill x) → Changes a b (HasBrokenOff x)
still_left x none None None fa fd unfit keeps = tt
still_left x none None (Some b) fa fd unfit keeps = absurd keeps
still_left x none (Some a) None fa fd unfit keeps = absurd keeps
still_left x none (Some a) (Some b) fa fd unfit keeps =
    let cannot = λ (after : Disk) (does : Does x (now a) after). unfit (after, does) in
    record { part = []; off = (cannot, none (now a)); does = ap now (keeps cannot) }

-- ---- one deed of a phase

changed_both : (a b : Option Log) (P Q R : Log → Log → Type 0) → ((x y : Log) → P x y → Q x y → R x y) → Changes a b P → Changes a b Q → Changes a b R
changed_both a b P Q R f p q = changed_by a b (λ x y. P x y × Q x y) R (λ x y h. f x y h.0 h.1) (both_changed a b P Q p q)

amid_one : (phase : Phase) (d : PlainDeed) (b : Bool) → is_of phase d ≡ b → (old new : Log) → StaysAmid (cond b (d ∷ []) []) old new → StaysRefused d old new → StaysApplied (cond b (d ∷ []) []) old new
amid_one phase d true is old new stays off part (inl did) = subst (λ (l : List PlainDeed). StaysAmid l old new) (sym (did.4 ∙ ap (λ (l : List PlainDeed). d ∷ l) did.3)) stays
amid_one phase d true is old new stays off part (inr breaks) = off part breaks
amid_one phase d false is old new stays off part far = subst (λ (l : List PlainDeed). StaysAmid l old new) (sym far) stays

pub one_applied : (phase : Phase) (d : PlainDeed) (a b : Option Log) → Changes a b (StaysAmid (of_phase phase (d ∷ []))) → Changes a b (StaysRefused d) → Changes a b (StaysApplied (of_phase phase (d ∷ [])))
one_applied phase d a b stays off =
    changed_both a b (StaysAmid (of_phase phase (d ∷ []))) (StaysRefused d) (StaysApplied (of_phase phase (d ∷ []))) (amid_one phase d (is_of phase d) refl) stays off

pub one_stopped : (phase : Phase) (d : PlainDeed) → is_of phase d ≡ true → (a b : Option Log) → Changes a b (HasBrokenOff d) → Changes a b (HasStopped (of_phase phase (d ∷ [])))
one_stopped phase d is a b off =
    changed_by a b (HasBrokenOff d) (HasStopped (of_phase phase (d ∷ []))) (λ old new h. subst (λ (l : List PlainDeed). HasStopped l old new) (sym (of_one phase d is)) (stopped_at d [] old new h)) off

-- ---- deeds of a phase

-- a deed between those before it and those after
pub around : (phase : Phase) (ds : List PlainDeed) (i : ℕ) (d : PlainDeed) → drop i ds ≡ d ∷ drop (suc i) ds
    → of_phase phase ds ≡ of_phase phase (take i ds) ++ (of_phase phase (d ∷ []) ++ of_phase phase (drop (suc i) ds))
around phase ds i d here =
    ap (of_phase phase) (sym (take-append-drop i ds)) ∙ filter-append (is_of phase) (take i ds) (drop i ds)
    ∙ ap (λ (l : List PlainDeed). of_phase phase (take i ds) ++ l) (ap (of_phase phase) here ∙ filter-append (is_of phase) (d ∷ []) (drop (suc i) ds))

module _ (phase : Phase) (ds : List PlainDeed) (i : ℕ) (d : PlainDeed) (here : drop i ds ≡ d ∷ drop (suc i) ds) where
  abbrev front : List PlainDeed
  front = of_phase phase (take i ds)

  abbrev one : List PlainDeed
  one = of_phase phase (d ∷ [])

  abbrev back : List PlainDeed
  back = of_phase phase (drop (suc i) ds)

  abbrev Front : Log → Log → Type 0
  Front old new = DoesAll front (now old) (now new) × StaysAmid front old new

  pub front_applied : (a b c : Option Log) → Changes a b Front → Changes b c (StaysAmid one) → Changes b c (StaysApplied one) → Changes a c (StaysApplied (of_phase phase ds))
  front_applied a b c first stays off =
      through a b c Front (StaysApplied (one ++ back)) (StaysApplied (of_phase phase ds))
      (λ x y z h k. subst (λ (l : List PlainDeed). StaysApplied l x z) (sym (around phase ds i d here)) (applied_stays front (one ++ back) x y z h.0 h.1 k))
      first (changed_both b c (StaysAmid one) (StaysApplied one) (StaysApplied (one ++ back)) (applied_front one back) stays off)

  pub front_stopped : (a b c : Option Log) → Changes a b (λ old new. DoesAll front (now old) (now new)) → Changes b c (HasStopped one) → Changes a c (HasStopped (of_phase phase ds))
  front_stopped a b c first stopped =
      through a b c (λ old new. DoesAll front (now old) (now new)) (HasStopped one) (HasStopped (of_phase phase ds))
      (λ x y z h k. subst (λ (l : List PlainDeed). HasStopped l x z) (sym (around phase ds i d here)) (stopped_then front (one ++ back) x y z h (stopped_front one back y z k)))
      first stopped

-- P of where a deed was refused, by what is known of that
pub unfit_by : (error : DeedErr) (P Q : ℕ → Type 0) → ((index : ℕ) → P index → Q index) → IfUnfit error P → IfUnfit error Q
unfit_by errors.Failed P Q f h = tt
unfit_by (errors.Unfit index) P Q f h = f index h
