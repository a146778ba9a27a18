-- What waits with a change more, done on a disk.
use Rattle.std.proofs.Common.{◌≡◌, ◌≢◌, ℕ, ◌+◌, ◌≤◌, max, List, [], ◌∷◌, ◌++◌, length, take, Option, Some, None, Bool, true, false, refl, sym, ap, subst, ◌∙◌, inl, inr, arith, length-take}
use Rattle.std.specs.List.{AllByRecursion}
use Rattle.std.proofs.lemmas.Bool.{false≢true}
use Rattle.std.proofs.lemmas.List.{take_all, take-take}
use Rattle.outside.specs.Disk.{Disk, Path, file, node_at}
use Rattle.outside.specs.Changes.{overwritten, bytes_or_none}
use Rattle.outside.proofs.Paths.{by_path}
use Rattle.deeds.specs.Reshape.{Ranges, written, CanWrite, EndWithin}
use Rattle.deeds.specs.Deeds.{PlainDeed, MakesDir, Puts, Renames, Removes, RemovesDir, Reshapes, reshaped, done_deed, Does, DoesAll, in_order, NotIn, names, Unnamed, AreApart}
use Rattle.deeds.proofs.Again.{elsewhere, not_named}
use Rattle.pending_files.specs.Pending.{is_at, its_len, its_ranges, file_of, without, ranges_or_none, ranges_of, cut_to, with_chunk, cut_in, put_in, IsPlace, IsWaiting, AreChunks, ArePending}
use Rattle.pending_files.specs.Later.{CanReshape, IsChangedTo, IsWhole}
use Rattle.pending_files.proofs.Files.{same_path, by_first, file_here, file_there, without_here, without_there, named_here, unnamed_without, each_without, ranges_are}
use Rattle.pending_files.proofs.Doing.{order_is, later_file, later_other}
use Rattle.pending_files.proofs.Ranges.{cut_chunks}
use Rattle.pending_files.proofs.Written.{cut_written, with_written, put_bytes}

-- ---- what waits for a file

pub none_some : {A : Type 0} {x : A} → None ≡ Some x → ⊥
none_some e = cc

at_other : (q path : Path) (x : PlainDeed) → q ≢ path → is_at path x ≡ true → is_at q x ≡ false
at_other q path (Reshapes p len rs) ne is = step (is_at q (Reshapes p len rs)) refl
  where
    step : (b : Bool) → is_at q (Reshapes p len rs) ≡ b → is_at q (Reshapes p len rs) ≡ false
    step true here = absurd (ne (sym ((same_path p q).0 here) ∙ (same_path p path).0 is))
    step false here = here
at_other q path (MakesDir p) ne is = absurd (false≢true is)
at_other q path (Puts p bytes) ne is = absurd (false≢true is)
at_other q path (Renames p p') ne is = absurd (false≢true is)
at_other q path (Removes p) ne is = absurd (false≢true is)
at_other q path (RemovesDir p) ne is = absurd (false≢true is)

at_its : (path : Path) (len : ℕ) (rs : Ranges) → is_at path (Reshapes path len rs) ≡ true
at_its path len rs = (same_path path path).1 refl

named_none : (path : Path) (x : PlainDeed) → IsWaiting x → NotIn path (names x) → is_at path x ≡ false
named_none path (Reshapes p len rs) waits apart = step (is_at path (Reshapes p len rs)) refl
  where
    step : (b : Bool) → is_at path (Reshapes p len rs) ≡ b → is_at path (Reshapes p len rs) ≡ false
    step true here = absurd (apart.0 (sym ((same_path p path).0 here)))
    step false here = here
named_none path (MakesDir p) waits apart = absurd waits
named_none path (Puts p bytes) waits apart = absurd waits
named_none path (Renames p p') waits apart = absurd waits
named_none path (Removes p) waits apart = absurd waits
named_none path (RemovesDir p) waits apart = absurd waits

none_unnamed : (path : Path) (xs : List PlainDeed) → AllByRecursion IsWaiting xs → Unnamed path xs → file_of path xs ≡ None
none_unnamed path [] each un = refl
none_unnamed path (x ∷ xs) each un = file_there path x xs (named_none path x each.0 un.0) ∙ none_unnamed path xs each.1 un.1

file_behind : (path : Path) (xs : List PlainDeed) (y : PlainDeed) → file_of path xs ≡ None → is_at path y ≡ true → file_of path (xs ++ y ∷ []) ≡ Some (its_len y, its_ranges y)
file_behind path [] y none is = file_here path y [] is
file_behind path (x ∷ xs) y none is = by_first path x
    (λ here. absurd (none_some (sym none ∙ file_here path x xs here)))
    (λ there. file_there path x (xs ++ y ∷ []) there ∙ file_behind path xs y (sym (file_there path x xs there) ∙ none) is)

file_beside : (path : Path) (xs : List PlainDeed) (y : PlainDeed) → is_at path y ≡ false → file_of path (xs ++ y ∷ []) ≡ file_of path xs
file_beside path [] y is = file_there path y [] is
file_beside path (x ∷ xs) y is = by_first path x
    (λ here. file_here path x (xs ++ y ∷ []) here ∙ sym (file_here path x xs here))
    (λ there. file_there path x (xs ++ y ∷ []) there ∙ file_beside path xs y is ∙ sym (file_there path x xs there))

file_without : (q path : Path) (xs : List PlainDeed) → q ≢ path → file_of q (without path xs) ≡ file_of q xs
file_without q path [] ne = refl
file_without q path (x ∷ xs) ne = by_first path x
    (λ here. ap (file_of q) (without_here path x xs here) ∙ sym (file_there q x xs (at_other q path x ne here)))
    (λ there. ap (file_of q) (without_there path x xs there) ∙ by_first q x
    (λ is. file_here q x (without path xs) is ∙ sym (file_here q x xs is))
    (λ is. file_there q x (without path xs) is ∙ file_without q path xs ne ∙ sym (file_there q x xs is)))

pub file_changed : (path : Path) (len : ℕ) (rs : Ranges) (ds : List PlainDeed) → ArePending ds → file_of path (without path ds ++ Reshapes path len rs ∷ []) ≡ Some (len, rs)
file_changed path len rs ds are = file_behind path (without path ds) (Reshapes path len rs)
    (none_unnamed path (without path ds) (each_without IsWaiting path ds are.each) (unnamed_without path ds are.each are.apart)) (at_its path len rs)

-- ---- it can be done

ends_within : (from len : ℕ) (rs : Ranges) → AreChunks from len rs → EndWithin len rs
ends_within from len [] are = tt
ends_within from len (r ∷ rs) are = (are.3, ends_within (r.0 + 32796) len rs are.4)

abbrev pub CanEach : List PlainDeed → Disk → Type 0
CanEach ds old = (path : Path) (len : ℕ) (ranges : Ranges) → file_of path ds ≡ Some (len, ranges) → CanReshape path len ranges old

can_in_order : (ds : List PlainDeed) (old : Disk) → AllByRecursion IsWaiting ds → AreApart ds → CanEach ds old → (later : Disk) × DoesAll ds old later
can_in_order [] old each apart can = (old, refl)
can_in_order (Reshapes p len rs ∷ ds) old each apart can =
    let x = Reshapes p len rs in
    let one = can p len rs (file_here p x ds (at_its p len rs)) in
    let next = done_deed x old in
    let does : Does x old next = inr ((one.was, one.there, ends_within 0 len rs each.0.chunks, one.can, one.long), refl) in
    let none = none_unnamed p ds each.1 (not_named x ds p (named_here p x (at_its p len rs)) apart.0) in
    let more = can_in_order ds next each.1 apart.1 (λ q n l is.
    let ne : q ≢ p = λ e. none_some (sym none ∙ ap (λ (t : Path). file_of t ds) (sym e) ∙ is) in
    let same = elsewhere x old next q does (ne, tt) in
    let found = can q n l (file_there q x ds (at_other q p x ne (at_its p len rs)) ∙ is) in
    record { was = found.was; there = same ∙ found.there; can = found.can; long = found.long }) in
    (more.0, (next, does, more.1))
can_in_order (MakesDir p ∷ ds) old each apart can = absurd each.0
can_in_order (Puts p bytes ∷ ds) old each apart can = absurd each.0
can_in_order (Renames p q ∷ ds) old each apart can = absurd each.0
can_in_order (Removes p ∷ ds) old each apart can = absurd each.0
can_in_order (RemovesDir p ∷ ds) old each apart can = absurd each.0

pub can_later : (ds : List PlainDeed) (old : Disk) → ArePending ds → CanEach ds old → (later : Disk) × DoesAll (in_order ds) old later
can_later ds old are can =
    let does = can_in_order ds old are.each are.apart can in
    (does.0, subst (λ (l : List PlainDeed). DoesAll l old does.0) (sym (order_is ds are.each)) does.1)

-- ---- a change more

-- the file that was to be, as its ranges make it
record IsToBe (path : Path) (ds : List PlainDeed) (bytes : List ℕ) (old : Disk) : Type 0 where
  was : List ℕ
  there : node_at old path ≡ Some (file was)
  can : CanWrite (ranges_of path ds) was
  long : length bytes ≤ length (written (ranges_of path ds) was)
  is : bytes ≡ take (length bytes) (written (ranges_of path ds) was)

to_be : (path : Path) (ds : List PlainDeed) (bytes : List ℕ) (old later : Disk) → ArePending ds → DoesAll (in_order ds) old later → node_at later path ≡ Some (file bytes) → IsToBe path ds bytes old
to_be path ds bytes old later are does there = step (file_of path ds) refl
  where
    step : (found : Option (ℕ × Ranges)) → file_of path ds ≡ found → IsToBe path ds bytes old
    step None none =
        let same = later_other path ds old later are.each none does in
        let no_ranges = ap ranges_or_none none in
        record {
          was = bytes;
          there = sym same ∙ there;
          can = subst (λ (l : Ranges). CanWrite l bytes) (sym no_ranges) tt;
          long = subst (λ (l : Ranges). length bytes ≤ length (written l bytes)) (sym no_ranges) (omega arith);
          is = subst (λ (l : Ranges). bytes ≡ take (length bytes) (written l bytes)) (sym no_ranges) (sym (take_all (length bytes) bytes (omega arith)));
        }
    step (Some found) some =
        let re = later_file path ds found.0 found.1 old later are.each are.apart some does in
        let rs = ap ranges_or_none some in
        let bytes_are : bytes ≡ reshaped found.0 found.1 re.was = ap bytes_or_none (sym there ∙ re.is) in
        let long : length bytes ≡ found.0 = ap length bytes_are ∙ omega (arith, length-take found.0 (written found.1 re.was), re.long) in
        record {
          was = re.was;
          there = re.there;
          can = subst (λ (l : Ranges). CanWrite l re.was) (sym rs) re.can;
          long = subst (λ (l : Ranges). length bytes ≤ length (written l re.was)) (sym rs) (omega (arith, long, re.long));
          is = subst (λ (l : Ranges). bytes ≡ take (length bytes) (written l re.was)) (sym rs) (bytes_are ∙ ap (λ (k : ℕ). take k (written found.1 re.was)) (sym long));
        }

abbrev len_in : Option (ℕ × Ranges) → ℕ
len_in None = 0
len_in (Some f) = f.0

same_reshape : (path : Path) (len n : ℕ) (rs l : Ranges) (old : Disk) → ◌≡◌ {A = Option (ℕ × Ranges)} (Some (len, rs)) (Some (n, l)) → CanReshape path len rs old → CanReshape path n l old
same_reshape path len n rs l old same can =
    subst (λ (m : ℕ). CanReshape path m l old) (ap len_in same) (subst (λ (k : Ranges). CanReshape path len k old) (ap ranges_or_none same) can)

-- what waits for a file is the same in both, so it is to be the same
same_later : (q : Path) (ds new : List PlainDeed) (old later next : Disk) → ArePending ds → ArePending new → DoesAll (in_order ds) old later → DoesAll (in_order new) old next
    → file_of q new ≡ file_of q ds → node_at next q ≡ node_at later q
same_later q ds new old later next are are_new does does_new same = step (file_of q ds) refl
  where
    step : (found : Option (ℕ × Ranges)) → file_of q ds ≡ found → node_at next q ≡ node_at later q
    step None none = later_other q new old next are_new.each (same ∙ none) does_new ∙ sym (later_other q ds old later are.each none does)
    step (Some found) some =
        let one = later_file q ds found.0 found.1 old later are.each are.apart some does in
        let two = later_file q new found.0 found.1 old next are_new.each are_new.apart (same ∙ some) does_new in
        let was : two.was ≡ one.was = ap bytes_or_none (sym two.there ∙ one.there) in
        two.is ∙ ap (λ (l : List ℕ). Some (file (reshaped found.0 found.1 l))) was ∙ sym one.is

-- with a file's new deed in place of its earlier one the others are to be as before
changed : (path : Path) (len : ℕ) (rs : Ranges) (ds : List PlainDeed) (bytes : List ℕ) (old later : Disk) → ArePending ds → ArePending (without path ds ++ Reshapes path len rs ∷ [])
    → DoesAll (in_order ds) old later → (can : CanReshape path len rs old) → bytes ≡ reshaped len rs can.was
    → (next : Disk) × DoesAll (in_order (without path ds ++ Reshapes path len rs ∷ [])) old next × IsChangedTo path bytes later next
changed path len rs ds bytes old later are are_new does can is =
    let new = without path ds ++ Reshapes path len rs ∷ [] in
    let x = Reshapes path len rs in
    let here : file_of path new ≡ Some (len, rs) = file_behind path (without path ds) x
    (none_unnamed path (without path ds) (each_without IsWaiting path ds are.each) (unnamed_without path ds are.each are.apart)) (at_its path len rs) in
    let there : (q : Path) → q ≢ path → file_of q new ≡ file_of q ds = λ q ne.
    file_beside q (without path ds) x (at_other q path x ne (at_its path len rs)) ∙ file_without q path ds ne in
    let next = can_later new old are_new (λ q n l found. by_path q path
    (λ e. let both = sym here ∙ ap (λ (t : Path). file_of t new) (sym e) ∙ found in
    subst (λ (t : Path). CanReshape t n l old) (sym e) (same_reshape path len n rs l old both can))
    (λ ne. let re = later_file q ds n l old later are.each are.apart (sym (there q ne) ∙ found) does in
    record { was = re.was; there = re.there; can = re.can; long = re.long })) in (
      next.0,
      next.1,
      record {
        here = let re = later_file path new len rs old next.0 are_new.each are_new.apart here next.1 in
            let was : re.was ≡ can.was = ap bytes_or_none (sym re.there ∙ can.there) in
            re.is ∙ ap (λ (l : List ℕ). Some (file (reshaped len rs l))) was ∙ ap (λ (l : List ℕ). Some (file l)) (sym is);
        others = λ q ne. same_later q ds new old later next.0 are are_new does next.1 (there q ne);
      },
    )

pub cut_later : (ds : List PlainDeed) (old later : Disk) (path : Path) (bytes : List ℕ) (len : ℕ) → ArePending ds → ArePending (cut_in path len ds) → DoesAll (in_order ds) old later → node_at later path ≡ Some (file bytes)
    → len ≤ length bytes → (next : Disk) × DoesAll (in_order (cut_in path len ds)) old next × IsChangedTo path (take len bytes) later next
cut_later ds old later path bytes len are are_new does there short =
    let rs = ranges_of path ds in
    let to = to_be path ds bytes old later are does there in
    let chunks = ranges_are path ds are.each in
    let cut = cut_written len 0 chunks.0 rs to.was chunks.1 to.can in
    changed path len (cut_to len rs) ds (take len bytes) old later are are_new does
    (record { was = to.was; there = to.there; can = cut.can; long = cut.long (omega (arith, short, to.long)) })
    (ap (take len) to.is ∙ take-take len (length bytes) (written rs to.was) short ∙ sym cut.same)

pub put_later : (ds : List PlainDeed) (old later : Disk) (path : Path) (bytes : List ℕ) (size at : ℕ) (sealed : List ℕ) → ArePending ds → ArePending (put_in path size at sealed ds) → DoesAll (in_order ds) old later
    → node_at later path ≡ Some (file bytes) → IsPlace at → length sealed ≤ 32796 → at ≤ length bytes → at + length sealed ≤ size → size ≤ max (length bytes) (at + length sealed) → IsWhole size at sealed
    → (next : Disk) × DoesAll (in_order (put_in path size at sealed ds)) old next × IsChangedTo path (take size (overwritten bytes at sealed)) later next
put_later ds old later path bytes size at sealed are are_new does there place short here ends no_gap whole =
    let rs = ranges_of path ds in
    let to = to_be path ds bytes old later are does there in
    let chunks = ranges_are path ds are.each in
    let cut = cut_written size 0 chunks.0 rs to.was chunks.1 to.can in
    let bytes_are = put_bytes size at (length bytes) sealed (written (cut_to size rs) to.was) (written rs to.was) cut.same to.long here ends no_gap cut.long in
    let with = with_written 0 size at sealed (cut_to size rs) to.was (cut_chunks 0 chunks.0 size rs chunks.1) place cut.can bytes_are.0 short (over whole) in
    changed path size (with_chunk at sealed (cut_to size rs)) ds (take size (overwritten bytes at sealed)) old later are are_new does
    (record { was = to.was; there = to.there; can = with.can; long = subst (λ (l : List ℕ). size ≤ length l) (sym with.is) bytes_are.1 })
    (ap (λ (l : List ℕ). take size (overwritten l at sealed)) to.is ∙ sym bytes_are.2 ∙ ap (take size) (sym with.is))
  where
    over : IsWhole size at sealed → (n : ℕ) → n ≤ 32796 → at + n ≤ size → n ≤ length sealed
    over (inl full) n few within = omega (arith, full, few)
    over (inr last) n few within = omega (arith, last, within)
