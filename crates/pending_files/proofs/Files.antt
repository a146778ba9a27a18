-- What waits, file by file.
use Rattle.std.proofs.Common.{◌≡◌, ◌⊎◌, ⊎_elim, ℕ, zero, suc, ◌+◌, ◌≤◌, ◌<◌, List, [], ◌∷◌, ◌++◌, length, drop, Option, Some, None, Bool, true, false, refl, sym, ap, subst, ◌∙◌, inl, inr, arith, length-append}
use Rattle.std.specs.Prelude.{remove, if◌then◌else◌}
use Rattle.std.specs.List.{AllByRecursion}
use Rattle.std.specs.Cmp.Lexicographic.{pointwise}
use Rattle.std.specs.Str.{bytes_eq}
use Rattle.std.specs.Bool.{Decides}
use Rattle.std.proofs.lemmas.Bool.{false≢true}
use Rattle.std.proofs.lemmas.Slice.Eq.{slice_eq-Decides, bytes_eq-Decides}
use Rattle.outside.specs.Disk.{Path}
use Rattle.deeds.specs.declared.deed.Deed.{Deed}
use Rattle.deeds.specs.Reshape.{Ranges}
use Rattle.deeds.specs.Plain.{plain, plains}
use Rattle.deeds.specs.Deeds.{PlainDeed, MakesDir, Puts, Renames, Removes, RemovesDir, Reshapes, NoneIn, names, NotIn, Unnamed, ApartFrom, AreApart}
use Rattle.deeds.proofs.Again.{not_named}
use Rattle.pending_files.specs.Pending.{is_at, its_len, its_ranges, file_of, without, ranges_or_none, ranges_of, chunk_count, IsWaiting, IsContent, AreChunks, ArePending}
use Rattle.pending_files.specs.Kept.{IsIndexOf}

pub same_path : (a b : Path) → Decides (pointwise bytes_eq a b) (a ≡ b)
same_path a b = slice_eq-Decides bytes_eq-Decides a b (pointwise bytes_eq a b) refl

abbrev Found : Bool → PlainDeed → Option (ℕ × Ranges) → Option (ℕ × Ranges)
Found b x more = if b then Some (its_len x, its_ranges x) else more

abbrev Kept : Bool → PlainDeed → List PlainDeed → List PlainDeed → List PlainDeed
Kept b x all more = if b then all else x ∷ more

pub file_here : (path : Path) (x : PlainDeed) (xs : List PlainDeed) → is_at path x ≡ true → file_of path (x ∷ xs) ≡ Some (its_len x, its_ranges x)
file_here path x xs is = ap (λ (b : Bool). Found b x (file_of path xs)) is

pub file_there : (path : Path) (x : PlainDeed) (xs : List PlainDeed) → is_at path x ≡ false → file_of path (x ∷ xs) ≡ file_of path xs
file_there path x xs is = ap (λ (b : Bool). Found b x (file_of path xs)) is

pub without_here : (path : Path) (x : PlainDeed) (xs : List PlainDeed) → is_at path x ≡ true → without path (x ∷ xs) ≡ xs
without_here path x xs is = ap (λ (b : Bool). Kept b x xs (without path xs)) is

pub without_there : (path : Path) (x : PlainDeed) (xs : List PlainDeed) → is_at path x ≡ false → without path (x ∷ xs) ≡ x ∷ without path xs
without_there path x xs is = ap (λ (b : Bool). Kept b x xs (without path xs)) is

-- either the first deed is the file's, or it isn't
pub by_first : {C : Type 0} (path : Path) (x : PlainDeed) → (is_at path x ≡ true → C) → (is_at path x ≡ false → C) → C
by_first {C} path x here there = step (is_at path x) refl
  where
    step : (b : Bool) → is_at path x ≡ b → C
    step true is = here is
    step false is = there is

cc_none : {A : Type 0} {x : A} → Some x ≡ None → ⊥
cc_none e = cc

abbrev first_of : PlainDeed → List PlainDeed → PlainDeed
first_of other [] = other
first_of other (x ∷ xs) = x

long_pushed : (xs : List PlainDeed) (x : PlainDeed) → length (xs ++ x ∷ []) ≡ length xs + 1
long_pushed xs x = length-append xs (x ∷ [])

pub index_without : (path : Path) (xs : List PlainDeed) (i : ℕ) → IsIndexOf path xs i → remove xs i ≡ without path xs
index_without path [] i is = absurd is
index_without path (x ∷ xs) zero is = sym (without_here path x xs is)
index_without path (x ∷ xs) (suc i) is = ap (λ (l : List PlainDeed). x ∷ l) (index_without path xs i is.1) ∙ sym (without_there path x xs is.0)

pub index_file : (path : Path) (xs : List PlainDeed) (i : ℕ) (x : PlainDeed) (rest : List PlainDeed) → IsIndexOf path xs i → drop i xs ≡ x ∷ rest → file_of path xs ≡ Some (its_len x, its_ranges x)
index_file path [] i x rest is here = absurd is
index_file path (y ∷ xs) zero x rest is here = file_here path y xs is ∙ ap (λ (l : List PlainDeed). Found true (first_of y l) None) here
index_file path (y ∷ xs) (suc i) x rest is here = file_there path y xs is.0 ∙ index_file path xs i x rest is.1 here

pub index_within : (path : Path) (xs : List PlainDeed) (i : ℕ) → IsIndexOf path xs i → i < length xs
index_within path [] i is = absurd is
index_within path (x ∷ xs) zero is = omega arith
index_within path (x ∷ xs) (suc i) is = omega (arith, index_within path xs i is.1)

pub none_without : (path : Path) (xs : List PlainDeed) → file_of path xs ≡ None → without path xs ≡ xs
none_without path [] none = refl
none_without path (x ∷ xs) none = by_first path x
    (λ here. absurd (cc_none (sym (file_here path x xs here) ∙ none)))
    (λ there. without_there path x xs there ∙ ap (λ (l : List PlainDeed). x ∷ l) (none_without path xs (sym (file_there path x xs there) ∙ none)))

pub plains_removed : (s : List Deed) (i : ℕ) → plains (remove s i) ≡ remove (plains s) i
plains_removed [] zero = refl
plains_removed (y ∷ s) zero = refl
plains_removed [] (suc i) = refl
plains_removed (y ∷ s) (suc i) = ap (λ (l : List PlainDeed). plain y ∷ l) (plains_removed s i)

-- ---- counts

pub count_pushed : (xs : List PlainDeed) (x : PlainDeed) → chunk_count (xs ++ x ∷ []) ≡ chunk_count xs + length (its_ranges x)
count_pushed [] x = omega arith
count_pushed (y ∷ xs) x = omega (arith, count_pushed xs x)

pub count_without : (path : Path) (xs : List PlainDeed) → chunk_count (without path xs) + length (ranges_of path xs) ≡ chunk_count xs
count_without path [] = refl
count_without path (x ∷ xs) = by_first path x
    (λ here. let a = ap chunk_count (without_here path x xs here) in let b = ap (λ (o : Option (ℕ × Ranges)). length (ranges_or_none o)) (file_here path x xs here) in omega (arith, a, b))
    (λ there. let a = ap chunk_count (without_there path x xs there) in let b = ap (λ (o : Option (ℕ × Ranges)). length (ranges_or_none o)) (file_there path x xs there) in omega (arith, a, b, count_without path xs))

-- ---- what is kept of them

pub each_without : (P : PlainDeed → Type 0) (path : Path) (xs : List PlainDeed) → AllByRecursion P xs → AllByRecursion P (without path xs)
each_without P path [] each = tt
each_without P path (x ∷ xs) each = by_first path x
    (λ here. subst (AllByRecursion P) (sym (without_here path x xs here)) each.1)
    (λ there. subst (AllByRecursion P) (sym (without_there path x xs there)) (each.0, each_without P path xs each.1))

pub each_pushed : {X : Type 0} (P : X → Type 0) (xs : List X) (x : X) → AllByRecursion P xs → P x → AllByRecursion P (xs ++ x ∷ [])
each_pushed P [] x each one = (one, tt)
each_pushed P (y ∷ xs) x each one = (each.0, each_pushed P xs x each.1 one)

pub each_front : {X : Type 0} (P : X → Type 0) (xs : List X) (x : X) → AllByRecursion P (xs ++ x ∷ []) → AllByRecursion P xs
each_front P [] x each = tt
each_front P (y ∷ xs) x each = (each.0, each_front P xs x each.1)

pub each_last : {X : Type 0} (P : X → Type 0) (xs : List X) (x : X) → AllByRecursion P (xs ++ x ∷ []) → P x
each_last P [] x each = each.0
each_last P (y ∷ xs) x each = each_last P xs x each.1

apart_from_without : (path : Path) (x : PlainDeed) (xs : List PlainDeed) → ApartFrom x xs → ApartFrom x (without path xs)
apart_from_without path x [] apart = tt
apart_from_without path x (y ∷ xs) apart = by_first path y
    (λ here. subst (ApartFrom x) (sym (without_here path y xs here)) apart.2)
    (λ there. subst (ApartFrom x) (sym (without_there path y xs there)) (apart.0, apart.1, apart_from_without path x xs apart.2))

pub apart_without : (path : Path) (xs : List PlainDeed) → AreApart xs → AreApart (without path xs)
apart_without path [] apart = tt
apart_without path (x ∷ xs) apart = by_first path x
    (λ here. subst AreApart (sym (without_here path x xs here)) apart.1)
    (λ there. subst AreApart (sym (without_there path x xs there)) (apart_from_without path x xs apart.0, apart_without path xs apart.1))

-- a file's own deed names it alone
pub named_here : (path : Path) (x : PlainDeed) → is_at path x ≡ true → (ps : List Path) → NoneIn (names x) ps → NotIn path ps
named_here path (Reshapes named len ranges) is ps none = subst (λ (p : Path). NotIn p ps) ((same_path named path).0 is) none.0
named_here path (MakesDir named) is ps none = absurd (false≢true is)
named_here path (Puts named bytes) is ps none = absurd (false≢true is)
named_here path (Renames from to) is ps none = absurd (false≢true is)
named_here path (Removes named) is ps none = absurd (false≢true is)
named_here path (RemovesDir named) is ps none = absurd (false≢true is)

pub not_here : (path : Path) (x : PlainDeed) → IsWaiting x → is_at path x ≡ false → NotIn path (names x)
not_here path (Reshapes named len ranges) waits is = (λ e. false≢true (sym is ∙ (same_path named path).1 (sym e)), tt)
not_here path (MakesDir named) waits is = absurd waits
not_here path (Puts named bytes) waits is = absurd waits
not_here path (Renames from to) waits is = absurd waits
not_here path (Removes named) waits is = absurd waits
not_here path (RemovesDir named) waits is = absurd waits

pub unnamed_without : (path : Path) (xs : List PlainDeed) → AllByRecursion IsWaiting xs → AreApart xs → Unnamed path (without path xs)
unnamed_without path [] each apart = tt
unnamed_without path (x ∷ xs) each apart = by_first path x
    (λ here. subst (Unnamed path) (sym (without_here path x xs here)) (not_named x xs path (named_here path x here) apart.0))
    (λ there. subst (Unnamed path) (sym (without_there path x xs there)) (not_here path x each.0 there, unnamed_without path xs each.1 apart.1))

pub unnamed_none : (path : Path) (xs : List PlainDeed) → AllByRecursion IsWaiting xs → file_of path xs ≡ None → Unnamed path xs
unnamed_none path [] each none = tt
unnamed_none path (x ∷ xs) each none = by_first path x
    (λ here. absurd (cc_none (sym (file_here path x xs here) ∙ none)))
    (λ there. (not_here path x each.0 there, unnamed_none path xs each.1 (sym (file_there path x xs there) ∙ none)))

-- a file's deed after deeds that don't name it
other_way : (path : Path) (x : PlainDeed) → IsWaiting x → NotIn path (names x) → NoneIn (names x) (path ∷ [])
other_way path (Reshapes named len ranges) waits apart = ((λ e. apart.0 (sym e), tt), tt)
other_way path (MakesDir named) waits apart = absurd waits
other_way path (Puts named bytes) waits apart = absurd waits
other_way path (Renames from to) waits apart = absurd waits
other_way path (Removes named) waits apart = absurd waits
other_way path (RemovesDir named) waits apart = absurd waits

apart_from_pushed : (x : PlainDeed) (xs : List PlainDeed) (y : PlainDeed) → ApartFrom x xs → NoneIn (names x) (names y) → NoneIn (names y) (names x) → ApartFrom x (xs ++ y ∷ [])
apart_from_pushed x [] y apart one other = (one, other, tt)
apart_from_pushed x (z ∷ xs) y apart one other = (apart.0, apart.1, apart_from_pushed x xs y apart.2 one other)

pub apart_pushed : (path : Path) (len : ℕ) (ranges : Ranges) (xs : List PlainDeed) → AllByRecursion IsWaiting xs → AreApart xs → Unnamed path xs → AreApart (xs ++ Reshapes path len ranges ∷ [])
apart_pushed path len ranges [] each apart un = (tt, tt)
apart_pushed path len ranges (x ∷ xs) each apart un =
    (apart_from_pushed x xs (Reshapes path len ranges) apart.0 (other_way path x each.0 un.0) (un.0, tt), apart_pushed path len ranges xs each.1 apart.1 un.1)

-- ---- a file's ranges

its_chunks : (x : PlainDeed) → IsWaiting x → (most : ℕ) × AreChunks 0 most (its_ranges x)
its_chunks (Reshapes named len ranges) waits = (len, waits.chunks)
its_chunks (MakesDir named) waits = absurd waits
its_chunks (Puts named bytes) waits = absurd waits
its_chunks (Renames from to) waits = absurd waits
its_chunks (Removes named) waits = absurd waits
its_chunks (RemovesDir named) waits = absurd waits

pub ranges_are : (path : Path) (xs : List PlainDeed) → AllByRecursion IsWaiting xs → (most : ℕ) × AreChunks 0 most (ranges_of path xs)
ranges_are path [] each = (0, tt)
ranges_are path (x ∷ xs) each = by_first path x
    (λ here. subst (λ (o : Option (ℕ × Ranges)). (most : ℕ) × AreChunks 0 most (ranges_or_none o)) (sym (file_here path x xs here)) (its_chunks x each.0))
    (λ there. subst (λ (o : Option (ℕ × Ranges)). (most : ℕ) × AreChunks 0 most (ranges_or_none o)) (sym (file_there path x xs there)) (ranges_are path xs each.1))

-- what waits with a file's new deed in place of its earlier one
pub pending_with : (path : Path) (len : ℕ) (ranges : Ranges) (xs : List PlainDeed) → ArePending xs → IsContent path len ranges
    → length (without path xs) < 64 → chunk_count (without path xs) + length ranges ≤ 64 → ArePending (without path xs ++ Reshapes path len ranges ∷ [])
pending_with path len ranges xs are is few_files few_chunks = record {
  each = each_pushed IsWaiting (without path xs) (Reshapes path len ranges) (each_without IsWaiting path xs are.each) is;
  apart = apart_pushed path len ranges (without path xs) (each_without IsWaiting path xs are.each) (apart_without path xs are.apart) (unnamed_without path xs are.each are.apart);
  few_files = omega (arith, few_files, long_pushed (without path xs) (Reshapes path len ranges));
  few_chunks = omega (arith, few_chunks, count_pushed (without path xs) (Reshapes path len ranges));
}

shorter : (path : Path) (xs : List PlainDeed) → (file_of path xs ≡ None) ⊎ (length (without path xs) < length xs)
shorter path [] = inl refl
shorter path (x ∷ xs) = by_first path x
    (λ here. inr (omega (arith, ap length (without_here path x xs here))))
    (λ there. ⊎_elim
    (λ (none : file_of path xs ≡ None). inl (file_there path x xs there ∙ none))
    (λ (less : length (without path xs) < length xs). inr (omega (arith, less, ap length (without_there path x xs there))))
    (shorter path xs))

-- there is room for a file's new deed
pub few_without : (path : Path) (xs : List PlainDeed) → length xs ≤ 64 → (file_of path xs ≡ None → length xs < 64) → length (without path xs) < 64
few_without path xs few room = ⊎_elim
    (λ (none : file_of path xs ≡ None). let e = ap length (none_without path xs none) in omega (arith, e, room none))
    (λ (less : length (without path xs) < length xs). omega (arith, less, few))
    (shorter path xs)

-- ---- without a file

short_without : (path : Path) (xs : List PlainDeed) → length (without path xs) ≤ length xs
short_without path xs = ⊎_elim
    (λ (none : file_of path xs ≡ None). omega (arith, ap length (none_without path xs none)))
    (λ (less : length (without path xs) < length xs). omega (arith, less))
    (shorter path xs)

pub pending_without : (path : Path) (xs : List PlainDeed) → ArePending xs → ArePending (without path xs)
pending_without path xs are = record {
  each = each_without IsWaiting path xs are.each;
  apart = apart_without path xs are.apart;
  few_files = omega (arith, short_without path xs, are.few_files);
  few_chunks = omega (arith, count_without path xs, are.few_chunks);
}

-- one of them, and the others
pub each_at : {X : Type 0} (P : X → Type 0) (xs : List X) (i : ℕ) (x : X) (rest : List X) → drop i xs ≡ x ∷ rest → AllByRecursion P xs → P x
each_at P [] zero x rest at each = absurd cc
each_at P (y ∷ xs) zero x rest at each = let same : y ≡ x = cc in subst P same each.0
each_at P [] (suc i) x rest at each = absurd cc
each_at P (y ∷ xs) (suc i) x rest at each = each_at P xs i x rest at each.1

pub each_removed : {X : Type 0} (P : X → Type 0) (xs : List X) (i : ℕ) → AllByRecursion P xs → AllByRecursion P (remove xs i)
each_removed P [] zero each = each
each_removed P (y ∷ xs) zero each = each.1
each_removed P [] (suc i) each = each
each_removed P (y ∷ xs) (suc i) each = (each.0, each_removed P xs i each.1)
