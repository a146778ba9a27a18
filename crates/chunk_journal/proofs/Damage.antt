-- What is read of a journal, and where it is damaged.
use Rattle.std.proofs.Common.{◌≡◌, ◌⊎◌, ⊎_elim, IsTrue, IsFalse, Bool, true, false, ℕ, zero, suc, ◌+◌, ◌-◌, ◌<◌, ◌≤◌, min, max, List, [], ◌∷◌, ◌++◌, length, take, drop, get_or, Option, Some, None, refl, sym, ap, subst, ◌∙◌, inl, inr, arith, length-append, length-drop, length-take, append_assoc}
use Rattle.std.specs.Int.{w64, to_be_bytes, from_be_bytes}
use Rattle.std.specs.List.{AllByRecursion}
use Rattle.std.specs.Option.{option_map}
use Rattle.std.proofs.lemmas.Nat.{be_bytes_8, from_be_bytes-to_be_bytes_4, from_be_bytes-to_be_bytes_8}
use Rattle.std.proofs.lemmas.List.{take-append-drop, take-append-le, take_at, get_or-take, get_or_past, take_all, take-take, drop_at}
use Rattle.std.proofs.lemmas.Bool.{cases_lt}
use Rattle.sha2.specs.Sha256.{sha256}
use Rattle.sha2.proofs.Facts256.{length-sha256}
use Rattle.deeds.proofs.BatchBytes.{one_batch}
use Rattle.outside.specs.Disk.{Disk, Path, Node, folder, file, node_at, kind_of, IsFolder}
use Rattle.outside.specs.declared.folder.Kind.TheVariants.{File}
use Rattle.deeds.specs.Deeds.{PlainDeed, DoesAll, IsRefusedAt, in_order}
use Rattle.deeds.specs.Grammar.{spelled, spelled_deed, spelled_deeds, behind_gate, IsDeed, IsBatch, IsBadAt, count_of}
use Rattle.deeds.specs.Reading.{deed_at}
use Rattle.deeds.proofs.Fields.{some_is}
use Rattle.deeds.proofs.DeedBytes.{deed_again}
use Rattle.deeds.proofs.Batches.{refused_cannot}
use Rattle.chunk_journal.specs.Journal.{journal_file, new_file, sum_mark, IsSummed, HoldsBatch, IsClosed, RecoversTo, IsUnheld}
use Rattle.chunk_journal.specs.Opening.{said_len, batch_bytes, whole_batch, behind_batch, IsShort, HasFolder, Says, Follows, IsSummedOrNot, IsCutAt, IsUnreadAt, IsUnfitAt, IsBadBehindGate, IsDamagedAt}
use Rattle.chunk_journal.proofs.Gate.{one_held}

-- ---- what is at a path, by its kind

file_of : (o : Option Node) (len : ℕ) → option_map kind_of o ≡ Some (File len) → (bytes : List ℕ) × (o ≡ Some (file bytes)) × (length bytes ≡ len)
file_of None len is = absurd cc
file_of (Some folder) len is = absurd cc
file_of (Some (file bytes)) len is = (bytes, refl, cc)

none_of : (o : Option Node) → option_map kind_of o ≡ None → o ≡ None
none_of None is = refl
none_of (Some node) is = absurd (let e : Some (kind_of node) ≡ None = is in cc)

-- ---- a batch that is whole is nowhere outside of the grammar

front_deed : (d f : PlainDeed) (x y : List ℕ) → IsDeed d → IsDeed f → spelled_deed d ++ x ≡ spelled_deed f ++ y → (d ≡ f) × (x ≡ y)
front_deed d f x y good_d good_f e =
    let same = some_is (d, x) (f, y) (sym (deed_again d x good_d) ∙ ap deed_at e ∙ deed_again f y good_f) in
    (ap (λ (p : PlainDeed × List ℕ). p.0) same, ap (λ (p : PlainDeed × List ℕ). p.1) same)

-- what is left after deeds that begin the bytes of others
pub record IsFrontOf (front ds : List PlainDeed) (rest : List ℕ) : Type 0 where
  pub others : List PlainDeed
  pub long : length front + length others ≡ length ds
  pub good : AllByRecursion IsDeed others
  pub rest_is : rest ≡ spelled_deeds others

one_more : (f d : PlainDeed) (front ds : List PlainDeed) (rest : List ℕ) → IsFrontOf front ds rest → IsFrontOf (f ∷ front) (d ∷ ds) rest
one_more f d front ds rest is = record { others = is.others; long = omega (arith, is.long); good = is.good; rest_is = is.rest_is }

front_of : (front ds : List PlainDeed) (rest : List ℕ) → AllByRecursion IsDeed front → AllByRecursion IsDeed ds → length front ≤ length ds → spelled_deeds ds ≡ spelled_deeds front ++ rest → IsFrontOf front ds rest
front_of [] ds rest good_front good le e = record { others = ds; long = omega arith; good = good; rest_is = sym e }
front_of (f ∷ front) [] rest good_front good le e = absurd (omega (arith, le))
front_of (f ∷ front) (d ∷ ds) rest good_front good le e =
    let same = front_deed d f (spelled_deeds ds) (spelled_deeds front ++ rest) good.0 good_front.0 (e ∙ append_assoc (spelled_deed f) (spelled_deeds front) rest) in
    one_more f d front ds rest (front_of front ds rest good_front.1 good.1 (omega (arith, le)) same.1)

no_more : (others : List PlainDeed) → length others ≡ 0 → spelled_deeds others ≡ []
no_more [] is = refl
no_more (d ∷ others) is = absurd (omega (arith, is))

first_of_them : (others : List PlainDeed) (rest : List ℕ) → 0 < length others → AllByRecursion IsDeed others → rest ≡ spelled_deeds others
    → ((deed : PlainDeed) (tail : List ℕ) → IsDeed deed → rest ≡ spelled_deed deed ++ tail → ⊥) → ⊥
first_of_them [] rest some good is bad = absurd (omega (arith, some))
first_of_them (d ∷ others) rest some good is bad = bad d (spelled_deeds others) good.0 is

counted : (ds : List PlainDeed) → IsBatch ds → count_of (spelled ds) ≡ length ds
counted ds batch = from_be_bytes-to_be_bytes_4 (length ds) batch.few

pub whole_not_bad : (ds : List PlainDeed) (at : ℕ) → IsBatch ds → IsBadAt (spelled ds) at → ⊥
whole_not_bad ds at batch (inl few) = omega (arith, few.0)
whole_not_bad ds at batch (inr (inl bad)) =
    let same = counted ds batch in
    let f = front_of bad.front ds bad.rest bad.good batch.each (omega (arith, bad.fewer, same)) bad.parts in
    first_of_them f.others bad.rest (omega (arith, f.long, bad.fewer, same)) f.good f.rest_is bad.bad
whole_not_bad ds at batch (inr (inr over)) =
    let same = counted ds batch in
    let f = front_of over.front ds over.rest over.good batch.each (omega (arith, over.all, same)) over.parts in
    let none = f.rest_is ∙ no_more f.others (omega (arith, f.long, over.all, same)) in
    omega (arith, over.left, ap (λ (l : List ℕ). length l) none)

-- ---- the bytes of a journal that holds a batch

abbrev pub held_bytes : List PlainDeed → List ℕ → List ℕ
held_bytes ds rest = 1 ∷ behind_gate ds ++ rest

held_len : (ds : List PlainDeed) (rest : List ℕ) → IsBatch ds → said_len (held_bytes ds rest) ≡ length (spelled ds)
held_len ds rest batch = from_be_bytes-to_be_bytes_8 (length (spelled ds)) (omega (arith, batch.short))

held_batch_is : (ds : List PlainDeed) (rest : List ℕ) → IsBatch ds → batch_bytes (held_bytes ds rest) ≡ spelled ds
held_batch_is ds rest batch =
    ap (λ (n : ℕ). take n (spelled ds ++ rest)) (held_len ds rest batch) ∙ take_at (spelled ds) rest (length (spelled ds)) refl

held_whole : (ds : List PlainDeed) (rest : List ℕ) → IsBatch ds → IsShort (held_bytes ds rest) → ⊥
held_whole ds rest batch short =
    let long : length (held_bytes ds rest) ≡ 9 + (length (spelled ds) + length rest) = omega (arith, length-append (spelled ds) rest) in
    ⊎_elim (λ (few : length (held_bytes ds rest) < 9). omega (arith, few, long)) (λ (few : length (held_bytes ds rest) < 9 + said_len (held_bytes ds rest)). omega (arith, few, long, held_len ds rest batch)) short

pub one_file : (o : Option Node) (a b : List ℕ) → o ≡ Some (file a) → o ≡ Some (file b) → a ≡ b
one_file o a b ea eb = let e : Some (file a) ≡ Some (file b) = sym ea ∙ eb in cc

-- up to its end, and what follows
held_front : (ds : List PlainDeed) (rest : List ℕ) → IsBatch ds → whole_batch (held_bytes ds rest) ≡ 1 ∷ behind_gate ds
held_front ds rest batch = take_at (1 ∷ behind_gate ds) rest (9 + said_len (held_bytes ds rest)) (omega (arith, held_len ds rest batch))

held_behind : (ds : List PlainDeed) (rest : List ℕ) → IsBatch ds → behind_batch (held_bytes ds rest) ≡ rest
held_behind ds rest batch = drop_at (1 ∷ behind_gate ds) rest (9 + said_len (held_bytes ds rest)) (omega (arith, held_len ds rest batch))

-- a sum that isn't another's is none of another
summed_there : (ds : List PlainDeed) (rest : List ℕ) → IsBatch ds → IsSummed (1 ∷ behind_gate ds) rest → IsSummed (whole_batch (held_bytes ds rest)) (behind_batch (held_bytes ds rest))
summed_there ds rest batch sum =
    subst (λ (l : List ℕ). IsSummed l (behind_batch (held_bytes ds rest))) (sym (held_front ds rest batch)) (subst (λ (l : List ℕ). IsSummed (1 ∷ behind_gate ds) l) (sym (held_behind ds rest batch)) sum)

pub summed_here : (ds : List PlainDeed) (rest : List ℕ) → IsBatch ds → IsSummed (whole_batch (held_bytes ds rest)) (behind_batch (held_bytes ds rest)) → IsSummed (1 ∷ behind_gate ds) rest
summed_here ds rest batch sum =
    subst (λ (l : List ℕ). IsSummed (1 ∷ behind_gate ds) l) (held_behind ds rest batch) (subst (λ (l : List ℕ). IsSummed l (behind_batch (held_bytes ds rest))) (held_front ds rest batch) sum)

pub held_not_bad : (disk after : Disk) (ds : List PlainDeed) (at : ℕ) → HoldsBatch disk ds → DoesAll (in_order ds) disk after → IsBadBehindGate disk at → ⊥
held_not_bad disk after ds at held run bad =
    let same : bad.bytes ≡ held_bytes ds held.rest = one_file (node_at disk journal_file) bad.bytes (held_bytes ds held.rest) bad.here held.here in
    elim bad.damage [
      | inl cut ↦ held_whole ds held.rest held.batch (subst IsShort same cut.short)
      | inr (inl unread) ↦ whole_not_bad ds unread.fault held.batch (subst (λ (l : List ℕ). IsBadAt l unread.fault) (ap batch_bytes same ∙ held_batch_is ds held.rest held.batch) unread.bad)
      | inr (inr (inl missummed)) ↦ missummed.other (subst (λ (l : List ℕ). IsSummed (whole_batch l) (behind_batch l)) (sym same) (summed_there ds held.rest held.batch held.sum))
      | inr (inr (inr unfit)) ↦ refused_cannot ds unfit.index disk after (subst (λ (l : List PlainDeed). IsRefusedAt l unfit.index disk) (one_held disk unfit.deeds ds unfit.held held) unfit.refused) run
    ]

pub closed_not_bad : (disk : Disk) (at : ℕ) → IsClosed disk → IsBadBehindGate disk at → ⊥
closed_not_bad disk at (inl none) bad = let e : None ≡ Some (file bad.bytes) = sym none ∙ bad.here in cc
closed_not_bad disk at (inr f) bad = f.2 (ap (λ (l : List ℕ). get_or l 0 0) (one_file (node_at disk journal_file) f.0 bad.bytes f.1 bad.here) ∙ bad.gate)

no_folder_here : (o : Option Node) (bytes : List ℕ) → o ≡ Some (file bytes) → o ≡ Some folder → ⊥
no_folder_here o bytes f is = let e : Some (file bytes) ≡ Some folder = sym f ∙ is in cc

pub no_journal_folder : (disk to : Disk) → RecoversTo disk to → IsFolder disk journal_file → ⊥
no_journal_folder disk to (inl (inl none, same)) is = let e : None ≡ Some folder = sym none ∙ is in cc
no_journal_folder disk to (inl (inr f, same)) is = no_folder_here _ f.0 f.1 is
no_journal_folder disk to (inr (ds, held, run)) is = no_folder_here _ (held_bytes ds held.rest) held.here is

not_bad : (disk to : Disk) (at : ℕ) → RecoversTo disk to → IsBadBehindGate disk at → ⊥
not_bad disk to at (inl (closed, same)) bad = closed_not_bad disk at closed bad
not_bad disk to at (inr (ds, held, run)) bad = held_not_bad disk to ds at held run bad

-- what recovers to a disk isn't damaged, if no folder is where the first journal is made
pub recovers_undamaged : (disk to : Disk) (at : ℕ) → RecoversTo disk to → (IsFolder disk new_file → ⊥) → IsDamagedAt disk at → ⊥
recovers_undamaged disk to at recovers none (inl (inl journal, place)) = no_journal_folder disk to recovers journal
recovers_undamaged disk to at recovers none (inl (inr beside, place)) = none beside
recovers_undamaged disk to at recovers none (inr bad) = not_bad disk to at recovers bad

-- ---- what is read of its front

-- the head of the file that was read
pub record IsHead (head bytes : List ℕ) (n : ℕ) : Type 0 where
  pub count : n ≡ min 9 (length bytes)
  pub same : take n head ≡ take n bytes
  pub long : length head ≡ 9

first_same : (k : ℕ) (a b : List ℕ) → 0 < k → take k a ≡ take k b → get_or a 0 0 ≡ get_or b 0 0
first_same zero a b some e = absurd (omega (arith, some))
first_same (suc k) [] [] some e = refl
first_same (suc k) [] (y ∷ b) some e = absurd cc
first_same (suc k) (x ∷ a) [] some e = absurd cc
first_same (suc k) (x ∷ a) (y ∷ b) some e = cc

no_gate : (bytes : List ℕ) (n : ℕ) → n ≡ min 9 (length bytes) → n ≡ 0 → get_or bytes 0 0 ≡ 1 → ⊥
no_gate [] n count none open_gate = let e : 0 ≡ 1 = open_gate in omega (arith, e)
no_gate (b ∷ bytes) n count none open_gate = omega (arith, count, none)

pub empty_closed : (disk : Disk) (head bytes : List ℕ) (n : ℕ) → node_at disk journal_file ≡ Some (file bytes) → IsHead head bytes n → n ≡ 0 → IsClosed disk
empty_closed disk head bytes n here is none = inr (bytes, here, no_gate bytes n is.count none)

pub shut_closed : (disk : Disk) (head bytes : List ℕ) (n : ℕ) → node_at disk journal_file ≡ Some (file bytes) → IsHead head bytes n → (n ≡ 0 → ⊥) → (get_or head 0 0 ≡ 1 → ⊥) → IsClosed disk
shut_closed disk head bytes n here is some shut = inr (bytes, here, λ open_gate. shut (first_same n head bytes (some_left n some) is.same ∙ open_gate))
  where
    some_left : (n : ℕ) → (n ≡ 0 → ⊥) → 0 < n
    some_left zero some = absurd (some refl)
    some_left (suc n) some = omega arith

behind_first : (a b : List ℕ) → take 9 a ≡ take 9 b → take 8 (drop 1 a) ≡ take 8 (drop 1 b)
behind_first a b e = sym (front a) ∙ ap (λ (l : List ℕ). drop 1 l) e ∙ front b
  where
    front : (l : List ℕ) → drop 1 (take 9 l) ≡ take 8 (drop 1 l)
    front [] = refl
    front (x ∷ l) = refl

pub same_len : (head bytes : List ℕ) (n : ℕ) → IsHead head bytes n → 9 ≤ n → said_len head ≡ said_len bytes
same_len head bytes n is full =
    let nine : n ≡ 9 = omega (arith, is.count) in
    ap (from_be_bytes w64) (behind_first head bytes (subst (λ (k : ℕ). take k head ≡ take k bytes) nine is.same))

-- what a reading of n bytes from the front says
abbrev pub HasRead : Path → List ℕ → ℕ → Disk → Type 0
HasRead path head n d = (was : List ℕ) × (node_at d path ≡ Some (file was)) × (n ≡ min 9 (length was - 0)) × (take n head ≡ take n (drop 0 was))

-- what the reading of a head says of it
pub read_head : (d : Disk) (path : Path) (head bytes : List ℕ) (n : ℕ) → path ≡ journal_file → length head ≡ 9 → node_at d journal_file ≡ Some (file bytes)
    → HasRead path head n d → IsHead head bytes n
read_head d path head bytes n at long here read =
    let same : read.0 ≡ bytes = one_file (node_at d journal_file) read.0 bytes (subst (λ (p : Path). node_at d p ≡ Some (file read.0)) at read.1) here in
    record {
      count = omega (arith, read.2, ap (λ (l : List ℕ). length l) same);
      same = read.3 ∙ ap (λ (l : List ℕ). take n l) same;
      long = long;
    }

pub take_fits : (k : ℕ) (bytes : List ℕ) → ((i : ℕ) → get_or bytes i 0 < 256) → (i : ℕ) → get_or (take k bytes) i 0 < 256
take_fits k bytes fits i =
    elim (cases_lt i k) [
      | inl lt ↦ rw (get_or-take k bytes i 0 lt) (fits i)
      | inr le ↦ rw (get_or_past (take k bytes) i 0 (omega (arith, length-take k bytes))) (omega arith)
    ]

nine_of : (head bytes : List ℕ) (n : ℕ) → IsHead head bytes n → 9 ≤ n → take 9 head ≡ take 9 bytes
nine_of head bytes n is full = let nine : n ≡ 9 = omega (arith, is.count) in subst (λ (k : ℕ). take k head ≡ take k bytes) nine is.same

whole_of : (bytes : List ℕ) (len : ℕ) → 9 ≤ length bytes → len ≤ length bytes - 9 → len ≡ said_len bytes → IsShort bytes → ⊥
whole_of bytes len full room is (inl few) = omega (arith, few, full)
whole_of bytes len full room is (inr few) = omega (arith, few, room, is, full)

-- an open gate before a length that the file has
pub says : (d : Disk) (head bytes : List ℕ) (n len said : ℕ) → node_at d journal_file ≡ Some (file bytes) → length bytes ≡ len → IsHead head bytes n → ((i : ℕ) → get_or head i 0 < 256)
    → 9 ≤ n → get_or head 0 0 ≡ 1 → said ≡ said_len head → said ≤ len - 9 → Says said d
says d head bytes n len said here long is fits full open_gate said_is room = record {
  bytes = bytes;
  here = here;
  gate = sym (first_same n head bytes (omega (arith, full)) is.same) ∙ open_gate;
  whole = whole_of bytes said (omega (arith, is.count, full)) (omega (arith, room, long)) (said_is ∙ same_len head bytes n is full);
  is = said_is ∙ same_len head bytes n is full;
  fits = λ i. subst (λ (l : List ℕ). get_or l i 0 < 256) (nine_of head bytes n is full) (take_fits 9 head fits i);
}

-- an open gate in a file that ends too early
pub cut_is : (d : Disk) (head bytes : List ℕ) (n len said : ℕ) → length bytes ≡ len → IsHead head bytes n → said ≡ said_len head → (n < 9) ⊎ ((9 ≤ n) × (len - 9 < said)) → IsCutAt bytes len
cut_is d head bytes n len said long is said_is few = record { short = short few; place = sym long }
  where
    short : (n < 9) ⊎ ((9 ≤ n) × (len - 9 < said)) → IsShort bytes
    short (inl few) = inl (omega (arith, few, is.count))
    short (inr few) = inr (omega (arith, few.1, said_is, same_len head bytes n is few.0, long))

pub cut_short : (d : Disk) (head bytes : List ℕ) (n len said : ℕ) → (HasFolder d → ⊥) → node_at d journal_file ≡ Some (file bytes) → length bytes ≡ len → IsHead head bytes n
    → (n ≡ 0 → ⊥) → get_or head 0 0 ≡ 1 → said ≡ said_len head → (n < 9) ⊎ ((9 ≤ n) × (len - 9 < said)) → IsBadBehindGate d len
cut_short d head bytes n len said none here long is some open_gate said_is few = record {
  no_folder = none;
  bytes = bytes;
  here = here;
  gate = sym (first_same n head bytes (some_left n some) is.same) ∙ open_gate;
  damage = inl (cut_is d head bytes n len said long is said_is few);
}
  where
    some_left : (n : ℕ) → (n ≡ 0 → ⊥) → 0 < n
    some_left zero some = absurd (some refl)
    some_left (suc n) some = omega arith

-- it holds no batch
pub cut_unheld : (d : Disk) (bytes : List ℕ) (at : ℕ) → node_at d journal_file ≡ Some (file bytes) → IsCutAt bytes at → IsUnheld d
cut_unheld d bytes at here cut deeds held =
    held_whole deeds held.rest held.batch (subst IsShort (one_file (node_at d journal_file) bytes (held_bytes deeds held.rest) here held.here) cut.short)

-- ---- what is read after it

gate_front : (bytes : List ℕ) → get_or bytes 0 0 ≡ 1 → (tail : List ℕ) × (bytes ≡ 1 ∷ tail)
gate_front [] open_gate = absurd (let e : 0 ≡ 1 = open_gate in omega (arith, e))
gate_front (b ∷ bytes) open_gate = (bytes, let e : b ≡ 1 = open_gate in λ i. e i ∷ bytes)

long_of : (bytes : List ℕ) (len : ℕ) → (IsShort bytes → ⊥) → len ≡ said_len bytes → 9 + len ≤ length bytes
long_of bytes len whole is = elim (cases_lt (length bytes) (9 + said_len bytes)) [
  | inl few ↦ absurd (whole (inr few))
  | inr le ↦ omega (arith, le, is)
]

-- the batch that was read follows the gate
pub follows : (d : Disk) (len : ℕ) (text : List ℕ) (ds : List PlainDeed) (s : Says len d) → IsBatch ds → text ≡ spelled ds → text ≡ take len (drop 9 s.bytes) → length text ≡ len → Follows ds d
follows d len text ds s batch is read count =
    let front = gate_front s.bytes s.gate in
    let tail = front.0 in
    let same : s.bytes ≡ 1 ∷ tail = front.1 in
    let long = long_of s.bytes len s.whole s.is in
    let eight : to_be_bytes w64 (length (spelled ds)) ≡ take 8 tail = be_bytes_8 (take 8 tail) (length (spelled ds))
    (omega (arith, length-take 8 tail, ap (λ (l : List ℕ). length l) same, long))
    (λ i. subst (λ (l : List ℕ). get_or (take 8 (drop 1 l)) i 0 < 256) same (fits_behind s.bytes s.fits i))
    (ap (λ (l : List ℕ). length l) (sym is) ∙ count ∙ s.is ∙ ap said_len same) in
    let here : tail ≡ (to_be_bytes w64 (length (spelled ds)) ++ spelled ds) ++ drop len (drop 8 tail) =
    sym (take-append-drop 8 tail)
    ∙ ap (λ (l : List ℕ). take 8 tail ++ l) (sym (take-append-drop len (drop 8 tail)) ∙ ap (λ (l : List ℕ). l ++ drop len (drop 8 tail)) (ap (λ (l : List ℕ). take len (drop 9 l)) (sym same) ∙ sym read ∙ is))
    ∙ sym (append_assoc (take 8 tail) (spelled ds) (drop len (drop 8 tail)))
    ∙ ap (λ (l : List ℕ). (l ++ spelled ds) ++ drop len (drop 8 tail)) (sym eight) in
    record { batch = batch; rest = drop len (drop 8 tail); here = s.here ∙ ap (λ (l : List ℕ). Some (file l)) (same ∙ ap (λ (l : List ℕ). 1 ∷ l) here) }
  where
    fits_behind : (l : List ℕ) → ((i : ℕ) → get_or (take 9 l) i 0 < 256) → (i : ℕ) → get_or (take 8 (drop 1 l)) i 0 < 256
    fits_behind [] fits i = fits (suc i)
    fits_behind (x ∷ l) fits i = fits (suc i)

-- bytes that are no batch
unread_is : (d : Disk) (len at : ℕ) (text : List ℕ) (s : Says len d) → text ≡ take len (drop 9 s.bytes) → IsBadAt text at → IsUnreadAt s.bytes (9 + at)
unread_is d len at text s read bad = record {
  whole = s.whole;
  fault = at;
  bad = subst (λ (l : List ℕ). IsBadAt l at) (read ∙ ap (λ (n : ℕ). take n (drop 9 s.bytes)) s.is) bad;
  place = refl;
}

pub unread : (d : Disk) (len at : ℕ) (text : List ℕ) (s : Says len d) → (HasFolder d → ⊥) → text ≡ take len (drop 9 s.bytes) → IsBadAt text at → IsBadBehindGate d (9 + at)
unread d len at text s none read bad = record {
  no_folder = none;
  bytes = s.bytes;
  here = s.here;
  gate = s.gate;
  damage = inr (inl (unread_is d len at text s read bad));
}

-- nor do they hold one
pub unread_unheld : (d : Disk) (len at : ℕ) (text : List ℕ) (s : Says len d) → text ≡ take len (drop 9 s.bytes) → IsBadAt text at → IsUnheld d
unread_unheld d len at text s read bad deeds held =
    let is = unread_is d len at text s read bad in
    let same : s.bytes ≡ held_bytes deeds held.rest = one_file (node_at d journal_file) s.bytes (held_bytes deeds held.rest) s.here held.here in
    whole_not_bad deeds is.fault held.batch (subst (λ (l : List ℕ). IsBadAt l is.fault) (ap batch_bytes same ∙ held_batch_is deeds held.rest held.batch) is.bad)

-- ---- what is read behind the batch

same_follows : (d : Disk) (a b : List PlainDeed) (x : Follows a d) (y : Follows b d) → (a ≡ b) × (x.rest ≡ y.rest)
same_follows d a b x y =
    let same : held_bytes a x.rest ≡ held_bytes b y.rest = one_file (node_at d journal_file) (held_bytes a x.rest) (held_bytes b y.rest) x.here y.here in
    let e : Some (file (held_bytes a x.rest)) ≡ Some (file (held_bytes b y.rest)) = sym x.here ∙ y.here in
    let tail : behind_gate a ++ x.rest ≡ behind_gate b ++ y.rest = cc in
    let one : a ≡ b = one_batch a b x.rest y.rest x.batch y.batch (ap (λ (l : List ℕ). drop 8 l) tail) in
    (one, sym (held_behind a x.rest x.batch) ∙ ap behind_batch same ∙ held_behind b y.rest y.batch)

-- another's sum is damage, and then no batch is held
pub missummed : (d : Disk) (len : ℕ) (ds : List PlainDeed) (s : Says len d) → (HasFolder d → ⊥) → IsSummedOrNot false ds d → IsBadBehindGate d (9 + len)
missummed d len ds s none other =
    let f = other.0 in
    let same : s.bytes ≡ held_bytes ds f.rest = one_file (node_at d journal_file) s.bytes (held_bytes ds f.rest) s.here f.here in
    record {
      no_folder = none;
      bytes = s.bytes;
      here = s.here;
      gate = s.gate;
      damage = inr (inr (inl (record {
        whole = s.whole;
        good = λ fault bad. whole_not_bad ds fault f.batch (subst (λ (l : List ℕ). IsBadAt l fault) (ap batch_bytes same ∙ held_batch_is ds f.rest f.batch) bad);
        other = λ sum. other.1 (summed_here ds f.rest f.batch (subst (λ (l : List ℕ). IsSummed (whole_batch l) (behind_batch l)) same sum));
        place = ap (λ (n : ℕ). 9 + n) s.is;
      })));
    }

pub missummed_unheld : (d : Disk) (ds : List PlainDeed) → IsSummedOrNot false ds d → IsUnheld d
missummed_unheld d ds other deeds held =
    let there : Follows deeds d = record { batch = held.batch; rest = held.rest; here = held.here } in
    let same = same_follows d deeds ds there other.0 in
    other.1 (subst (λ (l : List ℕ). IsSummed (1 ∷ behind_gate ds) l) same.1 (subst (λ (l : List PlainDeed). IsSummed (1 ∷ behind_gate l) held.rest) same.0 held.sum))

take_both : (k m : ℕ) (l : List ℕ) → take (k + m) l ≡ take k l ++ take m (drop k l)
take_both zero m l = let e : 0 + m ≡ m = omega arith in ap (λ (n : ℕ). take n l) e
take_both (suc k) m [] = let e : suc k + m ≡ suc (k + m) = omega arith in ap (λ (n : ℕ). take n []) e ∙ sym (take_nil m)
  where
    take_nil : (m : ℕ) → take {A = ℕ} m [] ≡ []
    take_nil zero = refl
    take_nil (suc m) = refl
take_both (suc k) m (x ∷ l) = let e : suc k + m ≡ suc (k + m) = omega arith in ap (λ (n : ℕ). take n (x ∷ l)) e ∙ ap (λ (t : List ℕ). x ∷ t) (take_both k m l)

-- what was read up to the length of a sum is no sum or this one exactly where the bytes behind the batch are
module _ (whole rest found : List ℕ) (n : ℕ) (count : n ≡ min 40 (length rest)) (is : found ≡ take n rest) where
  abbrev own : List ℕ
  own = sum_mark ++ sha256 whole

  own_long : length own ≡ 40
  own_long = omega (arith, length-append sum_mark (sha256 whole), length-sha256 whole)

  all_of : length rest < 40 ⊎ 40 ≤ length rest → found ≡ take 40 rest
  all_of (inl few) = is ∙ take_all n rest (omega (arith, count, few)) ∙ sym (take_all 40 rest (omega (arith, few)))
  all_of (inr more) = let full : n ≡ 40 = omega (arith, count, more) in is ∙ ap (λ (k : ℕ). take k rest) full

  found_is : found ≡ take 8 rest ++ take 32 (drop 8 rest)
  found_is = all_of (cases_lt (length rest) 40) ∙ take_both 8 32 rest

  own_where : take 8 rest ≡ sum_mark → take 32 (drop 8 rest) ≡ sha256 whole → found ≡ own
  own_where mark sum = found_is ∙ ap (λ (l : List ℕ). l ++ take 32 (drop 8 rest)) mark ∙ ap (λ (l : List ℕ). sum_mark ++ l) sum

  first_found : take 8 found ≡ take 8 rest
  first_found = ap (λ (l : List ℕ). take 8 l) (all_of (cases_lt (length rest) 40)) ∙ take-take 8 40 rest (omega arith)

  pub summed_yes : (take 8 found ≡ sum_mark → found ≡ own) → IsSummed whole rest
  summed_yes own_if mark =
      let same : sum_mark ++ take 32 (drop 8 rest) ≡ sum_mark ++ sha256 whole = ap (λ (l : List ℕ). l ++ take 32 (drop 8 rest)) (sym mark) ∙ sym found_is ∙ own_if (first_found ∙ mark) in
      ap (λ (l : List ℕ). drop 8 l) same

  pub summed_no : take 8 found ≡ sum_mark → (found ≡ own → ⊥) → IsSummed whole rest → ⊥
  summed_no mark other sum = let here = sym first_found ∙ mark in other (own_where here (sum here))

-- what a reading of n bytes from a place says
abbrev pub HasReadAt : Path → List ℕ → ℕ → ℕ → ℕ → Disk → Type 0
HasReadAt path out room at n d = (was : List ℕ) × (node_at d path ≡ Some (file was)) × (n ≡ min room (length was - at)) × (take n out ≡ take n (drop at was))

summed_by : (is : Bool) (ds : List PlainDeed) (d : Disk) (f : Follows ds d) (found : List ℕ) (n : ℕ) → n ≡ min 40 (length f.rest) → found ≡ take n f.rest
    → (IsTrue is → take 8 found ≡ sum_mark → found ≡ sum_mark ++ sha256 (1 ∷ behind_gate ds)) → (IsFalse is → take 8 found ≡ sum_mark)
    → (IsFalse is → found ≡ sum_mark ++ sha256 (1 ∷ behind_gate ds) → ⊥) → IsSummedOrNot is ds d
summed_by true ds d f found n count same own_if none other =
    record { batch = f.batch; rest = f.rest; here = f.here; sum = summed_yes (1 ∷ behind_gate ds) f.rest found n count same (own_if refl) }
summed_by false ds d f found n count same own_if none other = (f, summed_no (1 ∷ behind_gate ds) f.rest found n count same (none refl) (other refl))

-- what is read behind a batch says whether it is summed
pub summed_at : (is : Bool) (ds : List PlainDeed) (d : Disk) (path : Path) (out sum : List ℕ) (n len : ℕ) → path ≡ journal_file → length (spelled ds) ≡ len → sum ≡ sum_mark ++ sha256 (1 ∷ behind_gate ds)
    → Follows ds d → HasReadAt path out 40 (9 + len) n d
    → (IsTrue is → take 8 (take n out) ≡ sum_mark → take n out ≡ sum) → (IsFalse is → take 8 (take n out) ≡ sum_mark) → (IsFalse is → take n out ≡ sum → ⊥) → IsSummedOrNot is ds d
summed_at is ds d path out sum n len at long sum_is f read own_if none other =
    let bytes = held_bytes ds f.rest in
    let same : read.0 ≡ bytes = one_file (node_at d journal_file) read.0 bytes (subst (λ (p : Path). node_at d p ≡ Some (file read.0)) at read.1) f.here in
    let place : 9 + said_len bytes ≡ 9 + len = omega (arith, held_len ds f.rest f.batch, long) in
    let rest : drop (9 + len) read.0 ≡ f.rest = ap (λ (l : List ℕ). drop (9 + len) l) same ∙ ap (λ (k : ℕ). drop k bytes) (sym place) ∙ held_behind ds f.rest f.batch in
    let count : n ≡ min 40 (length f.rest) = read.2 ∙ ap (λ (k : ℕ). min 40 k) (sym (length-drop (9 + len) read.0) ∙ ap (λ (l : List ℕ). length l) rest) in
    summed_by is ds d f (take n out) n count (read.3 ∙ ap (λ (l : List ℕ). take n l) rest) (λ yes_is mark. own_if yes_is mark ∙ sum_is) none (λ no_is e. other no_is (e ∙ sym sum_is))

-- the place of a fault is within the bytes, or right after the count
pub fault_within : (bytes : List ℕ) (at : ℕ) → IsBadAt bytes at → at ≤ max 4 (length bytes)
fault_within bytes at (inl few) = omega (arith, few.1)
fault_within bytes at (inr (inl bad)) = omega (arith, bad.place, ap (λ (l : List ℕ). length l) bad.parts, length-append (spelled_deeds bad.front) bad.rest, length-drop 4 bytes)
fault_within bytes at (inr (inr over)) = omega (arith, over.place, ap (λ (l : List ℕ). length l) over.parts, length-append (spelled_deeds over.front) over.rest, length-drop 4 bytes)

-- what a reading of n bytes from after the length says
abbrev pub HasReadBehind : Path → List ℕ → ℕ → ℕ → Disk → Type 0
HasReadBehind path out room n d = (was : List ℕ) × (node_at d path ≡ Some (file was)) × (n ≡ min room (length was - 9)) × (take n out ≡ take n (drop 9 was))

-- a buffer that was filled to its end has the bytes after the length
pub filled : (d : Disk) (path : Path) (out rest text : List ℕ) (room n len : ℕ) (s : Says len d) → path ≡ journal_file → HasReadBehind path out room n d
    → text ≡ take len (out ++ rest) → length out ≡ len → n ≡ len → text ≡ take len (drop 9 s.bytes)
filled d path out rest text room n len s at read is long full =
    let same : read.0 ≡ s.bytes = one_file (node_at d journal_file) read.0 s.bytes (subst (λ (p : Path). node_at d p ≡ Some (file read.0)) at read.1) s.here in
    let here : take len out ≡ take len (drop 9 read.0) = subst (λ (k : ℕ). take k out ≡ take k (drop 9 read.0)) full read.3 in
    let le : len ≤ length out = omega (arith, long) in
    is ∙ take-append-le len out rest le ∙ here ∙ ap (λ (l : List ℕ). take len (drop 9 l)) same
