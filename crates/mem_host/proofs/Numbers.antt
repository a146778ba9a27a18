-- Which numbers the files have that have a name, or had one.
use Rattle.std.proofs.Common.{◌≡◌, ◌≢◌, ◌⊎◌, ◌+◌, ◌<◌, ◌≤◌, ℕ, List, [], ◌∷◌, Option, Some, None, map as each_of, refl, sym, ap, subst, ◌∙◌, inl, inr, arith}
use Rattle.std.specs.FinMap as map
use Rattle.outside.specs.Disk.{Path}
use Rattle.host_calls.specs.declared.found.Inode.{Inode}
use Rattle.host_calls.specs.Volume.{Names, Entry, Folder, File, entry_at}
use Rattle.host_calls.specs.Names.{NameStep, MadeFolder, MadeFile, Moved, Dropped, Pending, begun, before_step, after_step, named, instead, MayName, IsTaken, AreFitting}
use Rattle.host_calls.specs.Bytes.{Filed}
use Rattle.host_calls.specs.Story.{Story, Files, IsNew, AreApart, names_now}
use Rattle.host_calls.proofs.Steps.{relabelled}
use Rattle.host_calls.proofs.Sound.{where_file, no_file, not_file, apart_moved, named_before}
use Rattle.mem_host.specs.Filing.{Filing, numbered, IsBelow, IsFiling}
use Rattle.mem_host.specs.Holding.{IsMadeBelow, number_before, AreBelow, IsNameStep}
use Rattle.mem_host.proofs.Trees.{now_may_be}

-- ---- more numbers

pub below_more : (n m : ℕ) (i : Inode) → n ≤ m → IsBelow n i → IsBelow m i
below_more n m i few b = (b.0, omega (arith, few, b.1), b.2)

same_number : (k n : ℕ) (i : Inode) → i ≡ numbered k → k < n → i.ino ≤ n
same_number k n i is h = let e : i.ino ≡ k = ap (λ (j : Inode). j.ino) is in omega (arith, e, h)

number_falls : (n : ℕ) (step : NameStep) → IsMadeBelow n step → number_before n step ≤ n
number_falls n (MadeFolder p) made = omega arith
number_falls n (MadeFile p i) made = same_number made.0 n i made.2 made.1
number_falls n (Moved from to) made = omega arith
number_falls n (Dropped p) made = omega arith

step_below_more : (n m : ℕ) (base : Names) (older : List Pending) (step : NameStep) → n ≤ m → IsMadeBelow n step → AreBelow (number_before n step) base older → (AreBelow n base older → AreBelow m base older)
    → IsMadeBelow m step × AreBelow (number_before m step) base older
step_below_more n m base older (MadeFolder p) few made rest again = (tt, again rest)
step_below_more n m base older (MadeFile p i) few made rest again = (below_more n m i few made, rest)
step_below_more n m base older (Moved from to) few made rest again = (tt, again rest)
step_below_more n m base older (Dropped p) few made rest again = (tt, again rest)

pub are_below_more : (n m : ℕ) (base : Names) (naming : List Pending) → n ≤ m → AreBelow n base naming → AreBelow m base naming
are_below_more n m base [] few all = λ p i is. below_more n m i few (all p i is)
are_below_more n m base (last ∷ older) few all = step_below_more n m base older last.step few all.0 all.1 (λ rest. are_below_more n m base older few rest)

-- ---- steps

pub below_relabelled : (n : ℕ) (base : Names) (f : List Path → List Path) (naming : List Pending) → AreBelow n base naming → AreBelow n base (each_of (relabelled f) naming)
below_relabelled n base f [] all = all
below_relabelled n base f (last ∷ older) all = (all.0, below_relabelled (number_before n last.step) base f older all.1)

below_before : (n : ℕ) (base : Names) (step : NameStep) (naming : List Pending) → AreBelow n base naming → AreBelow n base (before_step step naming)
below_before n base (MadeFolder p) naming all = all
below_before n base (MadeFile p i) naming all = all
below_before n base (Moved from to) naming all = all
below_before n base (Dropped p) naming all = below_relabelled n base (each_of (instead p)) naming all

-- a step that makes no file
pub below_taken : (n : ℕ) (base : Names) (step : NameStep) (naming : List Pending) → IsNameStep step → AreBelow n base naming → AreBelow n base (begun step ∷ before_step step naming)
below_taken n base (MadeFolder p) naming is all = (tt, below_before n base (MadeFolder p) naming all)
below_taken n base (MadeFile p i) naming is all = absurd is
below_taken n base (Moved from to) naming is all = (tt, below_before n base (Moved from to) naming all)
below_taken n base (Dropped p) naming is all = (tt, below_before n base (Dropped p) naming all)

-- one that makes the next file
pub below_created : (n : ℕ) (base : Names) (p : Path) (naming : List Pending) → AreBelow n base naming → AreBelow (n + 1) base (begun (MadeFile p (numbered n)) ∷ before_step (MadeFile p (numbered n)) naming)
below_created n base p naming all = ((n, omega arith, refl), all)

-- ---- what is left

made_below : (n : ℕ) (step : NameStep) (q : Path) (i : Inode) → IsMadeBelow n step → step ≡ MadeFile q i → IsBelow n i
made_below n step q i below e = subst (IsMadeBelow n) e below

named_below : (n : ℕ) (last : Pending) (before names : Names) (p : Path) (i : Inode) → IsMadeBelow n last.step → ((q : Path) → entry_at before q ≡ Some (File i) → IsBelow (number_before n last.step) i)
    → IsTaken last before names → entry_at names p ≡ Some (File i) → IsBelow n i
named_below n last before names p i made rest taken is = one taken
  where
    older : (q : Path) → entry_at before q ≡ Some (File i) → IsBelow n i
    older q there = below_more (number_before n last.step) n i (number_falls n last.step made) (rest q there)

    either : ((q : Path) × (entry_at before q ≡ Some (File i))) ⊎ ((q : Path) × (last.step ≡ MadeFile q i)) → IsBelow n i
    either (inl (q, there)) = older q there
    either (inr (q, e)) = made_below n last.step q i made e

    one : IsTaken last before names → IsBelow n i
    one (inl fit) = either (named_before last.step before p i (ap (λ (m : Names). entry_at m p) (sym fit.1) ∙ is))
    one (inr left) = older p (ap (λ (m : Names). entry_at m p) (sym left.0) ∙ is)

-- each file that has a name is one of those
pub below_left : (n : ℕ) (base : Names) (naming : List Pending) (names : Names) → MayName base naming names → AreBelow n base naming
    → (p : Path) (i : Inode) → entry_at names p ≡ Some (File i) → IsBelow n i
below_left n base [] names may all p i is = all p i (ap (λ (m : Names). entry_at m p) (sym may) ∙ is)
below_left n base (last ∷ older) names may all p i is =
    named_below n last may.0 names p i all.0 (λ q there. below_left (number_before n last.step) base older may.0 may.1 all.1 q i there) may.2 is

not_below : (n : ℕ) → IsBelow n (numbered n) → ⊥
not_below n b = let e : n ≡ b.0 = ap (λ (j : Inode). j.ino) b.2 in absurd (omega (arith, e, b.1))

apart_named : (names : Names) (p : Path) (entry : Option Entry) → AreApart names
    → ((q : Path) (i : Inode) → entry ≡ Some (File i) → entry_at names q ≡ Some (File i) → q ≡ p) → AreApart (named names p entry)
apart_named names p entry apart new q r i at_q at_r = both (where_file names p entry q i at_q) (where_file names p entry r i at_r)
  where
    both : ((q ≡ p) × (entry ≡ Some (File i))) ⊎ ((q ≢ p) × (entry_at names q ≡ Some (File i)))
        → ((r ≡ p) × (entry ≡ Some (File i))) ⊎ ((r ≢ p) × (entry_at names r ≡ Some (File i))) → q ≡ r
    both (inl (a, x)) (inl (b, y)) = a ∙ sym b
    both (inl (a, x)) (inr (b, y)) = a ∙ sym (new r i x y)
    both (inr (a, x)) (inl (b, y)) = new q i y x ∙ sym b
    both (inr (a, x)) (inr (b, y)) = apart q r i x y

same_file : (i j : Inode) → Some (File i) ≡ Some (File j) → i ≡ j
same_file i j h = cc

apart_stepped : (n : ℕ) (step : NameStep) (names : Names) → IsMadeBelow n step → ((p : Path) (i : Inode) → entry_at names p ≡ Some (File i) → IsBelow (number_before n step) i)
    → AreApart names → AreApart (after_step step names)
apart_stepped n (MadeFolder p) names made below apart = apart_named names p (Some Folder) apart (λ q i h there. absurd (no_file i h))
apart_stepped n (MadeFile p j) names made below apart = apart_named names p (Some (File j)) apart (λ q i h there.
    absurd (not_below (j.ino) (subst (IsBelow j.ino) (sym (same_file j i h) ∙ made.2 ∙ ap numbered (sym (ap (λ (k : Inode). k.ino) made.2))) (below q i there))))
apart_stepped n (Moved from to) names made below apart = apart_moved names from to apart
apart_stepped n (Dropped p) names made below apart = apart_named names p None apart (λ q i h there. absurd (not_file i h))

-- no file has two names
pub apart_left : (n : ℕ) (base : Names) (naming : List Pending) (names : Names) → MayName base naming names → AreBelow n base naming → AreApart base → AreApart names
apart_left n base [] names may all apart = subst AreApart (sym may) apart
apart_left n base (last ∷ older) names may all apart = one (apart_left (number_before n last.step) base older may.0 may.1 all.1 apart) may.2
  where
    one : AreApart may.0 → IsTaken last may.0 names → AreApart names
    one before (inl taken) = subst AreApart (sym taken.1) (apart_stepped n last.step may.0 all.0 (below_left (number_before n last.step) base older may.0 may.1 all.1) before)
    one before (inr left) = subst AreApart (sym left.0) before

-- ---- the next file

-- the next number is no file's yet
pub next_unknown : (filing : Filing) → IsFiling filing → map.get filing.held (numbered filing.count) ≡ None
next_unknown filing files = at (map.get filing.held (numbered filing.count)) refl
  where
    at : (o : Option Filed) → map.get filing.held (numbered filing.count) ≡ o → map.get filing.held (numbered filing.count) ≡ None
    at None e = e
    at (Some filed) e = absurd (not_below filing.count (files.below (numbered filing.count) filed e))

pub next_new : (filing : Filing) (story : Story) → story.files ≡ filing.held → IsFiling filing → AreBelow filing.count story.base story.naming → AreFitting story.base story.naming → IsNew story (numbered filing.count)
next_new filing story held files below fitting = record {
  unknown = ap (λ (f : Files). map.get f (numbered filing.count)) held ∙ next_unknown filing files;
  unnamed = λ p is. not_below filing.count (below_left filing.count story.base story.naming (names_now story) (now_may_be story.base story.naming fitting) below p (numbered filing.count) is);
  unleft = λ v left p is. not_below filing.count (below_left filing.count story.base story.naming v.names left.names below p (numbered filing.count) is);
}
