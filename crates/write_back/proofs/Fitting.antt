-- A file for which changes wait, by what a look at it gives.
use Rattle.std.proofs.Common.{◌≡◌, ℕ, zero, suc, ◌≤◌, ◌<◌, ◌-◌, min, List, [], ◌∷◌, ◌++◌, length, take, drop, Bool, true, false, Option, Some, None, refl, sym, ap, subst, ◌∙◌, inl, inr, arith, length-take}
use Rattle.std.specs.Prelude.{◌↔◌, IsTrue, IsFalse, IfSome, MatchOption, slice_get, slice_index_or, if◌then◌else◌}
use Rattle.std.specs.Cmp.Lexicographic.{pointwise}
use Rattle.std.specs.Str.{bytes_eq}
use Rattle.std.specs.Option.{option_map}
use Rattle.std.specs.List.{AllByRecursion}
use Rattle.std.proofs.lemmas.Bool.{false≢true}
use Rattle.std.proofs.lemmas.List.{take_all}
use Rattle.outside.specs.Calls.{Told}
use Rattle.outside.specs.Disk.{Disk, Path, Node, folder, file, node_at, kind_at, kind_of}
use Rattle.outside.specs.Changes.{overwritten, bytes_or_none}
use Rattle.outside.specs.Images.{Log, now, disk_in}
use Rattle.outside.specs.declared.folder.Kind.{Kind}
use Rattle.outside.specs.declared.folder.Kind.TheVariants.{File}
use Rattle.deeds.specs.declared.deed.Deed.{Deed}
use Rattle.deeds.specs.Plain.{plain, plains}
use Rattle.deeds.specs.Reshape.{Ranges, written, CanWrite, EndWithin}
use Rattle.deeds.specs.Deeds.{PlainDeed, MakesDir, Puts, Renames, Removes, RemovesDir, Reshapes, CanDeed, Does, DoesAll, ApartFrom, AreApart}
use Rattle.deeds.proofs.Again.{elsewhere}
use Rattle.deeds.proofs.Overwritten.{long_over}
use Rattle.pending_files.specs.Pending.{IsWaiting}
use Rattle.pending_files.specs.Laid.{laid, CanWait}
use Rattle.pending_files.proofs.Doing.{order_is}
use Rattle.pending_files.proofs.Files.{same_path}
use Rattle.write_back.specs.declared.headers.Kept.{Kept}
use Rattle.write_back.specs.Headers.{plain_headers, header_of, BeginsWith, AreHeaders, CanHold, Fits}

-- ---- whether it can be written and cut, by its length

pub holds : (len : ℕ) (rs : Ranges) (was : List ℕ) → CanHold len (length was) rs → EndWithin len rs × CanWrite rs was × (len ≤ length (written rs was))
holds len [] was can = (tt, tt, can)
holds len (r ∷ rs) was can =
    let more = holds len rs (overwritten was r.0 r.1) (subst (λ (n : ℕ). CanHold len n rs) (sym (long_over was r.0 r.1 can.0)) can.2) in
    ((can.1, more.0), (can.0, more.1), more.2)

pub held_by : (len : ℕ) (rs : Ranges) (was : List ℕ) → EndWithin len rs → CanWrite rs was → len ≤ length (written rs was) → CanHold len (length was) rs
held_by len [] was within can long = long
held_by len (r ∷ rs) was within can long =
    (can.0, within.0, subst (λ (n : ℕ). CanHold len n rs) (long_over was r.0 r.1 can.0) (held_by len rs (overwritten was r.0 r.1) within.1 can.1 long))

file_there : (o : Option Node) (held : ℕ) → option_map kind_of o ≡ Some (File held) → (bytes : List ℕ) × (o ≡ Some (file bytes)) × (length bytes ≡ held)
file_there None held is = absurd cc
file_there (Some folder) held is = absurd cc
file_there (Some (file bytes)) held is = (bytes, refl, cc)

can_kind : (path : Path) (len : ℕ) (rs : Ranges) (d : Disk) (can : CanDeed (Reshapes path len rs) d) → kind_at d path ≡ Some (File (length can.0))
can_kind path len rs d can = ap (option_map kind_of) can.1

deed_of : (path : Path) (len held : ℕ) (rs : Ranges) (d : Disk) → Some (File held) ≡ kind_at d path → CanHold len held rs → CanDeed (Reshapes path len rs) d
deed_of path len held rs d is can =
    let f = file_there (node_at d path) held (sym is) in
    let more = holds len rs f.0 (subst (λ (n : ℕ). CanHold len n rs) (sym f.2) can) in
    (f.0, f.1, more.0, more.1, more.2)

hold_of : (path : Path) (len held : ℕ) (rs : Ranges) (d : Disk) → Some (File held) ≡ kind_at d path → CanDeed (Reshapes path len rs) d → CanHold len held rs
hold_of path len held rs d is can =
    let same : Some (File (length can.0)) ≡ Some (File held) = sym (can_kind path len rs d can) ∙ sym is in
    let long : length can.0 ≡ held = cc in
    subst (λ (n : ℕ). CanHold len n rs) long (held_by len rs can.0 can.2 can.3 can.4)

-- ---- what a look says, if the log is told

-- it can't be written and cut
pub not_held : (log : Option Log) (path : Path) (len held : ℕ) (rs : Ranges) (header : Option (List ℕ)) (kind : Option Kind) → kind ≡ Some (File held) → (CanHold len held rs → ⊥)
    → Told (disk_in log) (λ d. kind ≡ kind_at d path) → Told log (λ l. IsTrue false ↔ Fits (Reshapes path len rs) header (now l))
not_held None path len held rs header kind is cannot told = tt
not_held (Some l) path len held rs header kind is cannot told =
    (λ so. absurd (false≢true so), λ fits. absurd (cannot (hold_of path len held rs (now l) (sym is ∙ told) fits.0)))

-- it can be; what is left is its header
pub but_header : (log : Option Log) (path : Path) (len held : ℕ) (rs : Ranges) (header : Option (List ℕ)) (kind : Option Kind) (begins : Bool) → kind ≡ Some (File held) → CanHold len held rs
    → Told (disk_in log) (λ d. kind ≡ kind_at d path) → Told log (λ l. IsTrue begins ↔ IfSome header (λ bytes. BeginsWith bytes path (now l)))
    → Told log (λ l. IsTrue begins ↔ Fits (Reshapes path len rs) header (now l))
but_header None path len held rs header kind begins is can told head = tt
but_header (Some l) path len held rs header kind begins is can told head =
    (λ so. (deed_of path len held rs (now l) (sym is ∙ told) can, head.0 so), λ fits. head.1 fits.1)

-- ---- its first bytes

begins_if : (bytes out header : List ℕ) (n : ℕ) → length out ≡ 68 → length header ≡ 68 → n ≡ min 68 (length bytes - 0) → take n out ≡ take n (drop 0 bytes)
    → (b : Bool) → (IsTrue b ↔ ((n ≡ 68) × (out ≡ header))) → IsTrue b ↔ (take 68 bytes ≡ header)
begins_if bytes out header n out_long head_long is front b says = (
  λ so. let both = says.0 so in whole both.0 ∙ both.1,
  λ same.
      let all : n ≡ 68 = omega (arith, is, length-take 68 bytes, ap length same, head_long) in
      says.1 (all, sym (whole all) ∙ same),
)
  where
    whole : n ≡ 68 → take 68 bytes ≡ out
    whole all =
        sym (ap (λ (k : ℕ). take k bytes) all) ∙ sym front ∙ take_all n out (omega (arith, out_long, all))

pub told_begins : (log : Option Log) (path : Path) (out header : List ℕ) (n : ℕ) → length out ≡ 68 → length header ≡ 68
    → Told (disk_in log) (λ d. (bytes : List ℕ) × (node_at d path ≡ Some (file bytes)) × (n ≡ min 68 (length bytes - 0)) × (take n out ≡ take n (drop 0 bytes)))
    → (b : Bool) → (IsTrue b ↔ ((n ≡ 68) × (out ≡ header))) → Told log (λ l. IsTrue b ↔ BeginsWith header path (now l))
told_begins None path out header n out_long head_long read b says = tt
told_begins (Some l) path out header n out_long head_long read b says =
    let is = begins_if read.0 out header n out_long head_long read.2 read.3 b says in (
      λ so bytes here. let same : read.0 ≡ bytes = ap bytes_or_none (sym read.1 ∙ here) in subst (λ (l : List ℕ). take 68 l ≡ header) same (is.0 so),
      λ begins. is.1 (begins read.0 read.1),
    )

-- ---- headers that are kept

pub headers_long : (kept : List Kept) → length (plain_headers kept) ≡ length kept
headers_long [] = refl
headers_long (x ∷ kept) = ap suc (headers_long kept)

pub headers_pushed : (kept : List Kept) (x : Kept) → plain_headers (kept ++ x ∷ []) ≡ plain_headers kept ++ (x.path, x.header) ∷ []
headers_pushed [] x = refl
headers_pushed (y ∷ kept) x = ap (λ (l : List (Path × List ℕ)). (y.path, y.header) ∷ l) (headers_pushed kept x)

first_is : (path : Path) (kept : Path × List ℕ) (more : List (Path × List ℕ)) (header : List ℕ) (d : Disk) (b : Bool) → pointwise bytes_eq kept.0 path ≡ b
    → (if b then Some kept.1 else header_of path more) ≡ Some header → BeginsWith kept.1 kept.0 d → (header_of path more ≡ Some header → BeginsWith header path d) → BeginsWith header path d
first_is path kept more header d true same is begins others =
    let here : kept.1 ≡ header = cc in
    subst (λ (q : Path). BeginsWith header q d) ((same_path kept.0 path).0 same) (subst (λ (h : List ℕ). BeginsWith h kept.0 d) here begins)
first_is path kept more header d false same is begins others = others is

pub header_begins : (headers : List (Path × List ℕ)) (path : Path) (header : List ℕ) (d : Disk) → header_of path headers ≡ Some header → AreHeaders headers d → BeginsWith header path d
header_begins [] path header d is are = absurd cc
header_begins (kept ∷ more) path header d is are =
    first_is path kept more header d (pointwise bytes_eq kept.0 path) refl is are.0 (λ is. header_begins more path header d is are.1)

-- what was found of a path
pub known : {X : Type 0} (of : X → List ℕ) (found : Option X) (A : Type 0) (headers : List (Path × List ℕ)) (path : Path) (d : Disk)
    → MatchOption found A (λ x. header_of path headers ≡ Some (of x)) → AreHeaders headers d → IfSome (option_map of found) (λ bytes. BeginsWith bytes path d)
known of None A headers path d is are = tt
known of (Some x) A headers path d is are = header_begins headers path (of x) d is are

-- a file that can be changed and doesn't fit has another header
pub unfit_changed : {X Y : Type 0} (of : X → List ℕ) (found : Option X) (A : Type 0) (log : Option Log) (deed : PlainDeed) (path : Path) (len : ℕ) (rs : Ranges) (headers : List (Path × List ℕ)) (fits : Bool) (y : Y)
    → deed ≡ Reshapes path len rs → MatchOption found A (λ x. header_of path headers ≡ Some (of x)) → Told log (λ l. IsTrue fits ↔ Fits deed (option_map of found) (now l)) → fits ≡ false
    → Told log (λ l. CanDeed deed (now l) → AreHeaders headers (now l) → Some y ≡ None)
unfit_changed of found A None deed path len rs headers fits y is has told unfit = tt
unfit_changed of found A (Some l) deed path len rs headers fits y is has told unfit = λ can are.
    absurd (false≢true (sym unfit ∙ told.1 (subst (λ (x : PlainDeed). Fits x (option_map of found) (now l)) (sym is)
    (subst (λ (x : PlainDeed). CanDeed x (now l)) is can, known of found A headers path (now l) has are))))

-- ---- what waits can be done deed by deed, each on the disk as it is before all of them

first_can : (x : PlainDeed) (d between : Disk) → IsWaiting x → Does x d between → CanDeed x d
first_can (Reshapes p len rs) d between waits (inl never) = absurd never.0
first_can (Reshapes p len rs) d between waits (inr does) = does.0
first_can (MakesDir p) d between waits does = absurd waits
first_can (Puts p bytes) d between waits does = absurd waits
first_can (Renames p q) d between waits does = absurd waits
first_can (Removes p) d between waits does = absurd waits
first_can (RemovesDir p) d between waits does = absurd waits

-- a deed before it that names no path of its own changes nothing of that
before_it : (x y : PlainDeed) (d between : Disk) → IsWaiting x → IsWaiting y → ApartFrom x (y ∷ []) → Does x d between → CanDeed y between → CanDeed y d
before_it x (Reshapes p len rs) d between waits is apart does can =
    (can.0, sym (elsewhere x d between p does (apart.1.0)) ∙ can.1, can.2, can.3, can.4)
before_it x (MakesDir p) d between waits is apart does can = absurd is
before_it x (Puts p bytes) d between waits is apart does can = absurd is
before_it x (Renames p q) d between waits is apart does can = absurd is
before_it x (Removes p) d between waits is apart does can = absurd is
before_it x (RemovesDir p) d between waits is apart does can = absurd is

apart_at : (x : PlainDeed) (ds : List PlainDeed) (i : ℕ) (y : PlainDeed) → slice_get ds i ≡ Some y → ApartFrom x ds → ApartFrom x (y ∷ [])
apart_at x [] i y at apart = absurd cc
apart_at x (z ∷ ds) zero y at apart = let same : z ≡ y = cc in subst (λ (w : PlainDeed). ApartFrom x (w ∷ [])) same (apart.0, apart.1, tt)
apart_at x (z ∷ ds) (suc i) y at apart = apart_at x ds i y at apart.2

waits_at : (ds : List PlainDeed) (i : ℕ) (y : PlainDeed) → slice_get ds i ≡ Some y → AllByRecursion IsWaiting ds → IsWaiting y
waits_at [] i y at each = absurd cc
waits_at (z ∷ ds) zero y at each = let same : z ≡ y = cc in subst IsWaiting same each.0
waits_at (z ∷ ds) (suc i) y at each = waits_at ds i y at each.1

can_at : (ds : List PlainDeed) (i : ℕ) (y : PlainDeed) (d later : Disk) → slice_get ds i ≡ Some y → AllByRecursion IsWaiting ds → AreApart ds → DoesAll ds d later → CanDeed y d
can_at [] i y d later at each apart does = absurd cc
can_at (x ∷ ds) zero y d later at each apart does = let same : x ≡ y = cc in subst (λ (w : PlainDeed). CanDeed w d) same (first_can x d does.0 each.0 does.1)
can_at (x ∷ ds) (suc i) y d later at each apart does =
    before_it x y d does.0 each.0 (waits_at ds i y at each.1) (apart_at x ds i y at apart.0) does.1
    (can_at ds i y does.0 later at each.1 apart.1 does.2)

plain_at : (s : List Deed) (i : ℕ) (x : Deed) → slice_get s i ≡ Some x → slice_get (plains s) i ≡ Some (plain x)
plain_at [] i x at = absurd cc
plain_at (y ∷ s) zero x at = let same : y ≡ x = cc in ap (λ (d : Deed). Some (plain d)) same
plain_at (y ∷ s) (suc i) x at = plain_at s i x at

pub deed_can : (ds : List PlainDeed) (s : List Deed) (i : ℕ) (x : Deed) (d : Disk) → plains s ≡ ds → slice_get s i ≡ Some x → CanWait ds d → CanDeed (plain x) d
deed_can ds s i x d are at can =
    can_at ds i (plain x) d (laid ds d) (subst (λ (l : List PlainDeed). slice_get l i ≡ Some (plain x)) are (plain_at s i x at))
    can.pending.each can.pending.apart (subst (λ (l : List PlainDeed). DoesAll l d (laid ds d)) (order_is ds can.pending.each) can.does)

slice_at : {X : Type 0} (xs : List X) (i : ℕ) (x : X) → i < length xs → x ≡ slice_index_or xs i x → slice_get xs i ≡ Some x
slice_at [] i x lt is = absurd (omega arith)
slice_at (y ∷ xs) zero x lt is = ap Some (sym is)
slice_at (y ∷ xs) (suc i) x lt is = slice_at xs i x (omega arith) is

-- so in a folder that tells, while nothing was dropped, no file that is looked at was changed
pub never_changed : {X : Type 0} (log mid : Option Log) → mid ≡ log → (all left : List PlainDeed) (s : List Deed) (i : ℕ) (x : Deed) (dropped : Bool) (headers : List (Path × List ℕ)) (changed : Option X) (path : X)
    → Told log (λ _. IsFalse dropped) → (IsFalse dropped → left ≡ all) → Told log (λ l. CanWait all (now l)) → Told log (λ l. AreHeaders headers (now l))
    → plains s ≡ left → i < length s → x ≡ slice_index_or s i x → Told mid (λ l. CanDeed (plain x) (now l) → AreHeaders headers (now l) → changed ≡ None) → changed ≡ Some path
    → Told log (λ _. IsFalse true)
never_changed None mid same all left s i x dropped headers changed path untold kept can are is lt at look found = tt
never_changed (Some l) mid same all left s i x dropped headers changed path untold kept can are is lt at look found =
    let none : changed ≡ None = subst (λ (o : Option Log). Told o (λ l. CanDeed (plain x) (now l) → AreHeaders headers (now l) → changed ≡ None)) same look
    (deed_can all s i x (now l) (is ∙ kept untold) (slice_at s i x lt at) can) are in
    let both : None ≡ Some path = sym none ∙ found in
    absurd cc
