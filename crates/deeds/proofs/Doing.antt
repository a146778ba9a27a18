-- Deeds, call by call.
use Rattle.std.proofs.Common.{◌≡◌, ℕ, ◌+◌, ◌≤◌, ◌<◌, List, [], ◌∷◌, ◌++◌, true, false, is_some, length, take, drop, get_or, drop-cons, add-one, Option, Some, None, refl, sym, ap, subst, ◌∙◌, inl, inr}
use Rattle.std.specs.Prelude.{IsTrue, ◌↔◌}
use Rattle.std.specs.Option.{option_map}
use Rattle.outside.specs.Disk.{Disk, Path, Node, file, node_at, kind_at, kind_of, IsTree}
use Rattle.outside.specs.declared.folder.Kind.{Kind}
use Rattle.outside.specs.Changes.{Change, Write, SetLen, IsPartOf, done, set_at, in_file, overwritten}
use Rattle.outside.specs.Calls.{Told, Changes}
use Rattle.outside.specs.Images.{Did, Broke, Synced, Log, now, disk_in, IsImage, adds, HasDone, HasBroken, IsSteady}
use Rattle.outside.proofs.Paths.{by_path, set_here, set_there, same_disk}
use Rattle.outside.proofs.Moments.{started, goes_to, ends, joined}
use Rattle.outside.proofs.Steady.{whole_part}
use Rattle.outside.proofs.Told.{through}
use Rattle.deeds.specs.Reshape.{Ranges, written, CanWrite, EndWithin, IsRangeOf}
use Rattle.deeds.specs.Deeds.{PlainDeed, MakesDir, Puts, Renames, Removes, RemovesDir, Reshapes, IsDoneAlready, Does, DoesAll, reshaped, IsPartOfDeed, IsOneOf, IsAmid, StaysAmid, IsLeft}
use Rattle.outside.specs.Unsynced.{IsSynced, unsynced}
use Rattle.deeds.proofs.Amid.{amid_part, tree_run}

-- one call of a deed, whatever it is
pub did_amid : (x : PlainDeed) (change : Change) (old mid new : Log) → ((b c : Disk) → IsPartOf change b c → IsPartOfDeed x b c) → StaysAmid (x ∷ []) old mid → HasDone change mid new → StaysAmid (x ∷ []) old new
did_amid x change old mid new its stays did = λ deeds base apart within at images.
    let so_far = stays deeds base apart within at images in
    let one = within x (inl refl) in (
      subst (λ (l : Log). IsAmid deeds base (now l)) (sym did.1) (amid_part deeds x base (now mid) (done change (now mid)) apart one (its (now mid) (done change (now mid)) (whole_part change (now mid) did.0)) so_far.0),
      goes_to old mid new (Did change) (IsAmid deeds base) so_far.1 did.1 (λ c image.
          let i = subst (λ (l : Log). IsImage l c) did.1 image in
          amid_part deeds x base i.0 c apart one (its i.0 c i.2) (ends old mid (IsAmid deeds base) so_far.1 i.0 i.1)),
    )

pub broke_amid : (x : PlainDeed) (change : Change) (old mid new : Log) → ((b c : Disk) → IsPartOf change b c → IsPartOfDeed x b c) → StaysAmid (x ∷ []) old mid → HasBroken change mid new → StaysAmid (x ∷ []) old new
broke_amid x change old mid new its stays (inl same) = subst (StaysAmid (x ∷ []) old) (sym same) stays
broke_amid x change old mid new its stays (inr broke) = λ deeds base apart within at images.
    let so_far = stays deeds base apart within at images in
    let one = within x (inl refl) in (
      subst (λ (l : Log). IsAmid deeds base (now l)) (sym broke.2) (amid_part deeds x base (now mid) broke.0 apart one (its (now mid) broke.0 broke.1.part) so_far.0),
      goes_to old mid new (Broke change broke.0) (IsAmid deeds base) so_far.1 broke.2 (λ c image.
          let i = subst (λ (l : Log). IsImage l c) broke.2 image in
          amid_part deeds x base i.0 c apart one (its i.0 c i.2) (ends old mid (IsAmid deeds base) so_far.1 i.0 i.1)),
    )

-- the same of logs that may be told
pub did_more : (x : PlainDeed) (change : Change) → ((s t : Disk) → IsPartOf change s t → IsPartOfDeed x s t) → (a b c : Option Log)
    → Changes a b (StaysAmid (x ∷ [])) → Changes b c (HasDone change) → Changes a c (StaysAmid (x ∷ []))
did_more x change its a b c stays did = through a b c (StaysAmid (x ∷ [])) (HasDone change) (StaysAmid (x ∷ [])) (λ old mid new first second. did_amid x change old mid new its first second) stays did

pub broke_more : (x : PlainDeed) (change : Change) → ((s t : Disk) → IsPartOf change s t → IsPartOfDeed x s t) → (a b c : Option Log)
    → Changes a b (StaysAmid (x ∷ [])) → Changes b c (HasBroken change) → Changes a c (StaysAmid (x ∷ []))
broke_more x change its a b c stays broke = through a b c (StaysAmid (x ∷ [])) (HasBroken change) (StaysAmid (x ∷ [])) (λ old mid new first second. broke_amid x change old mid new its first second) stays broke

pub still_amid : (x : PlainDeed) (log : Log) → StaysAmid (x ∷ []) log log
still_amid x log = λ deeds base apart within at images. (at, started log (IsAmid deeds base) images)

-- the calls of a reshaping are its parts
pub write_of : (p : Path) (len : ℕ) (rs : Ranges) (r : ℕ × List ℕ) → IsRangeOf r rs → EndWithin len rs → (b c : Disk) → IsPartOf (Write p r.0 r.1) b c → IsPartOfDeed (Reshapes p len rs) b c
write_of p len rs r one within b c part = inl (r, one, within, part)

pub cut_of : (p : Path) (len : ℕ) (rs : Ranges) (b c : Disk) → IsPartOf (SetLen p len) b c → IsPartOfDeed (Reshapes p len rs) b c
cut_of p len rs b c part = inr part

-- ---- what they leave together

pub set_twice : (d : Disk) (p : Path) (v w : Option Node) → set_at (set_at d p v) p w ≡ set_at d p w
set_twice d p v w = same_disk (set_at (set_at d p v) p w) (set_at d p w) (λ q. by_path q p
    (λ at. set_here (set_at d p v) p w q at ∙ sym (set_here d p w q at))
    (λ ne. set_there (set_at d p v) p w q ne ∙ set_there d p v q ne ∙ sym (set_there d p w q ne)))

record IsLeftBytes (p : Path) (len : ℕ) (rs : Ranges) (d e : Disk) : Type 0 where
  was : List ℕ
  here : node_at d p ≡ Some (file was)
  can : CanWrite rs was
  long : len ≤ length (written rs was)
  is : e ≡ set_at d p (Some (file (take len (written rs was))))

left_bytes : (p : Path) (len : ℕ) (rs : Ranges) (d e : Disk) → IsLeft p len rs d e → IsLeftBytes p len rs d e
left_bytes p len [] d e left = record {
  was = left.0.0;
  here = left.0.1;
  can = tt;
  long = left.0.2;
  is = left.1 ∙ ap (λ (o : Option Node). set_at d p (in_file (take len) o)) left.0.1;
}
left_bytes p len (r ∷ rs) d e left =
    let f = λ (old : List ℕ). overwritten old r.0 r.1 in
    let d' = done (Write p r.0 r.1) d in
    let more = left_bytes p len rs d' e left.1 in
    let there : node_at d' p ≡ Some (file (overwritten left.0.0 r.0 r.1)) = set_here d p (in_file f (node_at d p)) p refl ∙ ap (in_file f) left.0.1 in
    let same : more.was ≡ overwritten left.0.0 r.0 r.1 = (let g : Some (file more.was) ≡ Some (file (overwritten left.0.0 r.0 r.1)) = sym more.here ∙ there in cc) in
    record {
      was = left.0.0;
      here = left.0.1;
      can = (left.0.2, subst (CanWrite rs) same more.can);
      long = subst (λ (l : List ℕ). len ≤ length (written rs l)) same more.long;
      is = more.is ∙ ap (λ (l : List ℕ). set_at d' p (Some (file (take len (written rs l))))) same ∙ set_twice d p (in_file f (node_at d p)) (Some (file (take len (written rs (overwritten left.0.0 r.0 r.1)))));
    }

pub left_does : (p : Path) (len : ℕ) (rs : Ranges) (d e : Disk) → EndWithin len rs → IsLeft p len rs d e → Does (Reshapes p len rs) d e
left_does p len rs d e within left =
    let l = left_bytes p len rs d e left in
    inr ((l.was, l.here, within, l.can, l.long), l.is ∙ sym (ap (λ (o : Option Node). set_at d p (in_file (reshaped len rs) o)) l.here))

pub split_at : {A : Type 0} (s : List A) (i : ℕ) (x : A) → i < length s → x ≡ get_or s i x → drop i s ≡ x ∷ drop (i + 1) s
split_at s i x lt is = drop-cons s i x lt ∙ (λ k. sym is k ∷ drop (sym (add-one i) k) s)

-- a sync leaves what reads give
pub synced_amid : (some : List PlainDeed) (old mid new : Log) → StaysAmid some old mid → new ≡ adds mid Synced → StaysAmid some old new
synced_amid some old mid new stays is = λ deeds base apart within at images.
    let so_far = stays deeds base apart within at images in (
      subst (λ (l : Log). IsAmid deeds base (now l)) (sym is) so_far.0,
      goes_to old mid new Synced (IsAmid deeds base) so_far.1 is (λ c image.
          let i = subst (λ (l : Log). IsImage l c) is image in
          subst (IsAmid deeds base) (sym i) so_far.0),
    )

pub all_still : (some : List PlainDeed) (log : Log) → StaysAmid some log log
all_still some log = λ deeds base apart within at images. (at, started log (IsAmid deeds base) images)

-- a deed more of them
pub one_more : (x : PlainDeed) (some : List PlainDeed) (old mid new : Log) → IsOneOf x some → StaysAmid some old mid → StaysAmid (x ∷ []) mid new → StaysAmid some old new
one_more x some old mid new one first second = λ deeds base apart within at images.
    let a = first deeds base apart within at images in
    let b = second deeds base apart (λ y is. within y (only y is)) a.0 (λ image is. ends old mid (IsAmid deeds base) a.1 image is) in
    (b.0, joined old mid new (IsAmid deeds base) a.1 b.1)
  where
    only : (y : PlainDeed) → IsOneOf y (x ∷ []) → IsOneOf y some
    only y (inl is) = subst (λ (t : PlainDeed). IsOneOf t some) (sym is) one
    only y (inr none) = absurd none

-- the whole that can be done can be done call by call
pub does_left : (p : Path) (len : ℕ) (rs : Ranges) (d : Disk) (was : List ℕ) → node_at d p ≡ Some (file was) → CanWrite rs was → len ≤ length (written rs was) → (e : Disk) × IsLeft p len rs d e
does_left p len [] d was here can long = (done (SetLen p len) d, ((was, here, long), refl))
does_left p len (r ∷ rs) d was here can long =
    let f = λ (old : List ℕ). overwritten old r.0 r.1 in
    let d' = done (Write p r.0 r.1) d in
    let there : node_at d' p ≡ Some (file (overwritten was r.0 r.1)) = set_here d p (in_file f (node_at d p)) p refl ∙ ap (in_file f) here in
    let more = does_left p len rs d' (overwritten was r.0 r.1) there can.1 long in
    (more.0, ((was, here, can.0), more.1))

pub reshape_left : (p : Path) (len : ℕ) (rs : Ranges) (d after : Disk) → Does (Reshapes p len rs) d after → (e : Disk) × IsLeft p len rs d e
reshape_left p len rs d after (inl never) = absurd never.0
reshape_left p len rs d after (inr does) = does_left p len rs d does.0.0 does.0.1 does.0.3 does.0.4

-- no deed more
pub none_more : (some : List PlainDeed) (old mid new : Log) → StaysAmid some old mid → StaysAmid [] mid new → StaysAmid some old new
none_more some old mid new first second = λ deeds base apart within at images.
    let a = first deeds base apart within at images in
    let b = second deeds base apart (λ y is. absurd is) a.0 (λ image is. ends old mid (IsAmid deeds base) a.1 image is) in
    (b.0, joined old mid new (IsAmid deeds base) a.1 b.1)

-- ---- phases

one_left : (x : PlainDeed) (xs ys : List PlainDeed) → IsOneOf x xs → IsOneOf x (xs ++ ys)
one_left x [] ys one = absurd one
one_left x (z ∷ zs) ys (inl is) = inl is
one_left x (z ∷ zs) ys (inr more) = inr (one_left x zs ys more)

one_right : (x : PlainDeed) (xs ys : List PlainDeed) → IsOneOf x ys → IsOneOf x (xs ++ ys)
one_right x [] ys one = one
one_right x (z ∷ zs) ys one = inr (one_right x zs ys one)

pub does_then : (xs ys : List PlainDeed) (a b c : Disk) → DoesAll xs a b → DoesAll ys b c → DoesAll (xs ++ ys) a c
does_then [] ys a b c first second = subst (λ (d : Disk). DoesAll ys d c) first second
does_then (x ∷ xs) ys a b c first second = (first.0, first.1, does_then xs ys first.0 b c first.2 second)

pub stays_front : (xs ys : List PlainDeed) (a b : Log) → StaysAmid xs a b → StaysAmid (xs ++ ys) a b
stays_front xs ys a b stays = λ deeds base apart within at images. stays deeds base apart (λ x one. within x (one_left x xs ys one)) at images

pub stays_then : (xs ys : List PlainDeed) (a b c : Log) → StaysAmid xs a b → StaysAmid ys b c → StaysAmid (xs ++ ys) a c
stays_then xs ys a b c first second = λ deeds base apart within at images.
    let one = first deeds base apart (λ x one. within x (one_left x xs ys one)) at images in
    let two = second deeds base apart (λ x one. within x (one_right x xs ys one)) one.0 (λ image is. ends a b (IsAmid deeds base) one.1 image is) in
    (two.0, joined a b c (IsAmid deeds base) one.1 two.1)

pub phase_done : (xs : List PlainDeed) (old mid new : Log) → IsSteady old → DoesAll xs (now old) (now mid) → new ≡ adds mid Synced → IsSynced new × DoesAll xs (now old) (now new)
phase_done xs old mid new steady does is = (
  record {
    durable = λ c image. subst (λ (l : Log). IsImage l c) is image ∙ sym (ap now is);
    tree = subst IsTree (sym (ap now is)) (tree_run xs (now old) (now mid) steady.tree does);
    none = ap (λ (l : Log). unsynced l.calls) is;
  },
  subst (λ (d : Disk). DoesAll xs (now old) d) (sym (ap now is)) does,
)

-- ---- what deeds leave is determined

pub does_one : (x : PlainDeed) (s a b : Disk) → Does x s a → Does x s b → a ≡ b
does_one x s a b (inl p) (inl q) = p.1 ∙ sym q.1
does_one x s a b (inr p) (inr q) = p.1 ∙ sym q.1
does_one (Renames from to) s a b (inl p) (inr q) = absurd (let e : Some (file q.0.0.there.0) ≡ None = sym q.0.0.there.1 ∙ p.0.0 in cc)
does_one (Renames from to) s a b (inr p) (inl q) = absurd (let e : Some (file p.0.0.there.0) ≡ None = sym p.0.0.there.1 ∙ q.0.0 in cc)
does_one (MakesDir path) s a b (inl p) (inr q) = absurd p.0
does_one (MakesDir path) s a b (inr p) (inl q) = absurd q.0
does_one (Puts path bytes) s a b (inl p) (inr q) = absurd p.0
does_one (Puts path bytes) s a b (inr p) (inl q) = absurd q.0
does_one (Removes path) s a b (inl p) (inr q) = absurd p.0
does_one (Removes path) s a b (inr p) (inl q) = absurd q.0
does_one (RemovesDir path) s a b (inl p) (inr q) = absurd p.0
does_one (RemovesDir path) s a b (inr p) (inl q) = absurd q.0
does_one (Reshapes path len rs) s a b (inl p) (inr q) = absurd p.0
does_one (Reshapes path len rs) s a b (inr p) (inl q) = absurd q.0

pub same_run : (xs : List PlainDeed) (s a b : Disk) → DoesAll xs s a → DoesAll xs s b → a ≡ b
same_run [] s a b p q = p ∙ sym q
same_run (x ∷ xs) s a b p q = same_run xs q.0 a b (subst (λ (d : Disk). DoesAll xs d a) (does_one x s p.0 q.0 p.1 q.1) p.2) q.2

no_node : (o : Option Node) → is_some (option_map kind_of o) ≡ false → o ≡ None
no_node None e = refl
no_node (Some node) e = absurd (let f : true ≡ false = e in cc)

some_node : (o : Option Node) → is_some (option_map kind_of o) ≡ true → (node : Node) × (o ≡ Some node)
some_node None e = absurd (let f : false ≡ true = e in cc)
some_node (Some node) e = (node, refl)

pub moved_already : (from to : Path) (disk : Disk) (a b : Option Kind) → a ≡ kind_at disk from → b ≡ kind_at disk to → is_some a ≡ false → is_some b ≡ true → IsDoneAlready (Renames from to) disk
moved_already from to disk a b ea eb none some =
    let there = some_node (node_at disk to) (sym (ap is_some eb) ∙ some) in
    (no_node (node_at disk from) (sym (ap is_some ea) ∙ none), there.0, there.1)

-- a move was done already if and only if nothing is left and something has arrived
pub moved_exactly : (from to : Path) (disk : Disk) (a b : Option Kind) → a ≡ kind_at disk from → b ≡ kind_at disk to → is_some a ≡ false → IsTrue (is_some b) ↔ IsDoneAlready (Renames from to) disk
moved_exactly from to disk a b ea eb none = (λ some. moved_already from to disk a b ea eb none some, λ already. ap is_some eb ∙ ap (λ (o : Option Node). is_some (option_map kind_of o)) already.2)

pub not_moved : (from to : Path) (disk : Disk) (a : Option Kind) → a ≡ kind_at disk from → is_some a ≡ true → IsTrue false ↔ IsDoneAlready (Renames from to) disk
not_moved from to disk a ea some = (λ never. absurd (let f : false ≡ true = never in cc), λ already. absurd (let f : true ≡ false = sym some ∙ ap is_some ea ∙ ap (λ (o : Option Node). is_some (option_map kind_of o)) already.0 in cc))

-- what is told of the disk is told of what the log's calls have left
pub told_disk : (log : Option Log) (P : Disk → Type 0) → Told (disk_in log) P → Told log (λ l. P (now l))
told_disk None P told = tt
told_disk (Some l) P told = told
