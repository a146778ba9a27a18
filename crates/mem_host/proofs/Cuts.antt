-- What a power cut leaves, step by step and file by file.
use Rattle.std.proofs.Common.{◌≡◌, ◌+◌, ◌<◌, ◌≤◌, ℕ, suc, List, [], ◌∷◌, ◌++◌, length, take, get_or, reverse, Option, Some, None, option_map, refl, sym, ap, subst, ◌∙◌, inr, arith, length-take}
use Rattle.std.specs.FinMap as map
use Rattle.std.proofs.lemmas.List.{take_more}
use Rattle.outside.specs.Changes.{overwritten, IsTorn}
use Rattle.outside.proofs.Steady.{written_torn}
use Rattle.host_calls.specs.declared.found.Inode.{Inode}
use Rattle.host_calls.specs.Volume.{Names, inode_cmp}
use Rattle.host_calls.specs.Names.{Pending, MayName, IsTaken}
use Rattle.host_calls.specs.Bytes.{Filed, FileStep, Wrote, Cut, MayHold}
use Rattle.host_calls.specs.Story.{Files, MayBe, bytes_of}
use Rattle.host_calls.proofs.Volumes.{by_inode, filed_here, filed_there}
use Rattle.mem_host.specs.Filing.{numbered, files_from}
use Rattle.mem_host.specs.Steps.{file_step_of, file_steps_of}
use Rattle.mem_host.specs.Cuts.{IsLeftOrNot, AreLeft, AreSettled}
use Rattle.mem_host.specs.declared.file.MemFileStep.{MemFileStep}
use Rattle.mem_host.proofs.Reversed.{one_more, file_one_more}

-- ---- names

-- a step more that was taken, or not
pub name_more : (base : Names) (steps : List Pending) (k : ℕ) (d : Pending) (before after : Names) → k < length steps
    → MayName base (reverse (take k steps)) before → IsTaken (get_or steps k d) before after → MayName base (reverse (take (k + 1) steps)) after
name_more base steps k d before after h may taken = subst (λ (l : List Pending). MayName base l after) (sym (one_more steps k d h)) (before, may, taken)

-- ---- bytes

pub bytes_left_more : (lasting : List ℕ) (steps : List MemFileStep) (k : ℕ) (d : MemFileStep) (before after : List ℕ) → k < length steps
    → MayHold lasting (file_steps_of (take k steps)) before → IsLeftOrNot (file_step_of (get_or steps k d)) before after → MayHold lasting (file_steps_of (take (k + 1) steps)) after
bytes_left_more lasting steps k d before after h may left = subst (λ (l : List FileStep). MayHold lasting l after) (sym (file_one_more steps k d h)) (before, may, left)

-- bytes of the same number or fewer in place of a write's
pub wrote_left : (at : ℕ) (bytes others old new : List ℕ) → at ≤ length old → length others ≤ length bytes → new ≡ overwritten old at others → IsLeftOrNot (Wrote at bytes) old new
wrote_left at bytes others old new within few is = inr (subst (IsTorn at (length bytes) old) (sym is) (written_torn at (length bytes) old others within few))

-- a cut that leaves more
pub cut_left : (n m : ℕ) (old new : List ℕ) → n ≤ m → m ≤ length old → new ≡ take m old → IsLeftOrNot (Cut n) old new
cut_left n m old new least most is =
    let long : length new ≡ m = ap length is ∙ omega (arith, length-take m old) in
    inr (record {
      no_shorter = omega (arith, long);
      front = is ∙ ap (λ (k : ℕ). take k old) (sym long);
    })

-- ---- files

-- each file of a list, and what is left of it
abbrev pub AreEachLeft : List Filed → List Filed → Type 0
AreEachLeft [] [] = Unit {0}
AreEachLeft (old ∷ olds) (new ∷ news) = (MayHold old.lasting old.steps (bytes_of new) × (new.steps ≡ [])) × AreEachLeft olds news
AreEachLeft [] (new ∷ news) = ⊥
AreEachLeft (old ∷ olds) [] = ⊥

pushed_left : (olds news : List Filed) (old new : Filed) → AreEachLeft olds news → MayHold old.lasting old.steps (bytes_of new) → new.steps ≡ [] → AreEachLeft (olds ++ old ∷ []) (news ++ new ∷ [])
pushed_left [] [] old new all may none = ((may, none), tt)
pushed_left [] (n ∷ news) old new all may none = absurd all
pushed_left (o ∷ olds) [] old new all may none = absurd all
pushed_left (o ∷ olds) (n ∷ news) old new all may none = (all.0, pushed_left olds news old new all.1 may none)

pub file_more : (olds news more : List Filed) (k : ℕ) (old new : Filed) → k < length olds → old ≡ get_or olds k old → more ≡ news ++ new ∷ []
    → AreEachLeft (take k olds) news → MayHold old.lasting old.steps (bytes_of new) → new.steps ≡ [] → AreEachLeft (take (k + 1) olds) more
file_more olds news more k old new h at is all may none =
    subst (AreEachLeft (take (k + 1) olds)) (sym is)
    (subst (λ (l : List Filed). AreEachLeft l (news ++ new ∷ [])) (sym (take_more olds k old h ∙ ap (λ (f : Filed). take k olds ++ f ∷ []) (sym at)))
    (pushed_left (take k olds) news old new all may none))

one_left : (old new : Filed) (m o : Files) (n : ℕ) → MayHold old.lasting old.steps (bytes_of new)
    → ((i : Inode) → MayBe (map.get m i) (option_map bytes_of (map.get o i)))
    → (i : Inode) → MayBe (map.get (map.insert m (numbered n) old) i) (option_map bytes_of (map.get (map.insert o (numbered n) new) i))
one_left old new m o n may rest i = by_inode i (numbered n)
    (λ e. subst (λ (j : Inode). MayBe (map.get (map.insert m (numbered n) old) j) (option_map bytes_of (map.get (map.insert o (numbered n) new) j))) (sym e)
    (subst (λ (x : Option Filed). MayBe x (option_map bytes_of (map.get (map.insert o (numbered n) new) (numbered n)))) (sym (filed_here m (numbered n) old))
    (subst (λ (x : Option Filed). MayBe (Some old) (option_map bytes_of x)) (sym (filed_here o (numbered n) new)) may)))
    (λ ne. subst (λ (x : Option Filed). MayBe x (option_map bytes_of (map.get (map.insert o (numbered n) new) i))) (sym (filed_there m (numbered n) old i ne))
    (subst (λ (x : Option Filed). MayBe (map.get m i) (option_map bytes_of x)) (sym (filed_there o (numbered n) new i ne)) (rest i)))

abbrev no_files : Files
no_files = map.empty

none_left : (i : Inode) → MayBe (map.get no_files i) (option_map bytes_of (map.get no_files i))
none_left i =
    subst (λ (x : Option Filed). MayBe x (option_map bytes_of (map.get no_files i))) (sym (map.get-empty inode_cmp i))
    (subst (λ (x : Option Filed). MayBe None (option_map bytes_of x)) (sym (map.get-empty inode_cmp i)) tt)

pub all_left : (n : ℕ) (olds news : List Filed) → AreEachLeft olds news → AreLeft (files_from n olds) (files_from n news)
all_left n [] [] all i = none_left i
all_left n [] (new ∷ news) all i = absurd all
all_left n (old ∷ olds) [] all i = absurd all
all_left n (old ∷ olds) (new ∷ news) all i = one_left old new (files_from (suc n) olds) (files_from (suc n) news) n all.0.0 (all_left (suc n) olds news all.1) i

pub all_settled : (n : ℕ) (olds news : List Filed) → AreEachLeft olds news → AreSettled (files_from n news)
all_settled n [] [] all i filed h = absurd (let e : None ≡ Some filed = sym (map.get-empty inode_cmp i) ∙ h in cc)
all_settled n [] (new ∷ news) all i filed h = absurd all
all_settled n (old ∷ olds) [] all i filed h = absurd all
all_settled n (old ∷ olds) (new ∷ news) all i filed h = by_inode i (numbered n)
    (λ e. let is : Some new ≡ Some filed = sym (ap (map.get (files_from n (new ∷ news))) e ∙ filed_here (files_from (suc n) news) (numbered n) new) ∙ h in
    let same : new ≡ filed = cc in subst (λ (f : Filed). f.steps ≡ []) same all.0.1)
    (λ ne. all_settled (suc n) olds news all.1 i filed (sym (filed_there (files_from (suc n) news) (numbered n) new i ne) ∙ h))

pub as_many : (olds news : List Filed) → AreEachLeft olds news → length news ≡ length olds
as_many [] [] all = refl
as_many [] (new ∷ news) all = absurd all
as_many (old ∷ olds) [] all = absurd all
as_many (old ∷ olds) (new ∷ news) all = ap suc (as_many olds news all.1)
