-- What is read is spelled so, and what is spelled so is read.
use Rattle.std.proofs.Common.{◌≡◌, ℕ, zero, suc, ◌+◌, ◌^◌, ◌<◌, ◌≤◌, Bool, true, false, cond, leb, ltb, List, [], ◌∷◌, ◌++◌, length, get_or, take, drop, Option, Some, None, refl, sym, ap, subst, ◌∙◌, append_assoc, arith, inl, inr}
use Rattle.std.specs.Prelude.{◌&&◌, IsTrue}
use Rattle.std.specs.List.{list_all, AllByRecursion}
use Rattle.std.specs.Int.{Width, w32, w64, byte_len, from_be_bytes, to_be_bytes}
use Rattle.std.proofs.lemmas.Bool.{cases_lt, ltb-false, le-ltb, leb-true, le-leb}
use Rattle.std.proofs.lemmas.List.{take_at, drop_at, take-append-drop, length-append, length-take, get_or-drop, get_or-take, get_or_past}
use Rattle.std.proofs.lemmas.Nat.{be_bytes_4, be_bytes_8, from_be_bytes-to_be_bytes_4, from_be_bytes-to_be_bytes_8}
use Rattle.vault_path.specs.Parts.{is_part, is_path}
use Rattle.outside.specs.Disk.{Path}
use Rattle.deeds.specs.Reshape.{Ranges}
use Rattle.deeds.specs.Grammar.{spelled_all, spelled_part, spelled_path, spelled_bytes, spelled_range, IsNamed, FitsRange}
use Rattle.deeds.specs.Reading.{◌>>=◌, byte_at, number_at, bytes_at, items_at, short_at, part_at, path_at, string_at, range_at, ranges_at}

abbrev pub IsBytes : List ℕ → Type 0
IsBytes bytes = (i : ℕ) → get_or bytes i 0 < 256

IsBytes-drop : (n : ℕ) (bytes : List ℕ) → IsBytes bytes → IsBytes (drop n bytes)
IsBytes-drop n bytes h i = rw get_or-drop (h (n + i))

IsBytes-take : (n : ℕ) (bytes : List ℕ) → IsBytes bytes → IsBytes (take n bytes)
IsBytes-take n bytes h i =
    elim (cases_lt i n) [
      | inl lt ↦ rw (get_or-take n bytes i 0 lt) (h i)
      | inr le ↦ rw (get_or_past (take n bytes) i 0 (omega (arith, length-take n bytes))) (omega arith)
    ]

pub IsBytes-rest : (b : ℕ) (bytes : List ℕ) → IsBytes (b ∷ bytes) → IsBytes bytes
IsBytes-rest b bytes h i = h (suc i)

-- the value of a step that did not fail
pub bind_some : {A B : Type 0} (r : Option A) (f : A → Option B) (y : B) → (r >>= f) ≡ Some y → (x : A) × (r ≡ Some x) × (f x ≡ Some y)
bind_some (Some x) f y e = (x, refl, e)
bind_some None f y e = absurd cc

-- a test that did not fail
pub guard_some : {A : Type 0} (b : Bool) (r : Option A) (y : A) → cond b r None ≡ Some y → (b ≡ true) × (r ≡ Some y)
guard_some true r y e = (refl, e)
guard_some false r y e = absurd cc

pub guard_not : {A : Type 0} (b : Bool) (r : Option A) (y : A) → cond b None r ≡ Some y → (b ≡ false) × (r ≡ Some y)
guard_not true r y e = absurd cc
guard_not false r y e = (refl, e)

abbrev done : {A : Type 0} → A → Option A
done x = Some x

pub some_is : {A : Type 0} (x y : A) → done x ≡ done y → x ≡ y
some_is x y e = cc

-- what a reader took from the front
pub record Takes (bytes text rest : List ℕ) : Type 0 where
  pub parts : bytes ≡ text ++ rest
  pub rest_fits : IsBytes rest

pub Takes-then : (a x b y c : List ℕ) → Takes a x b → Takes b y c → Takes a (x ++ y) c
Takes-then a x b y c p q = record { parts = p.parts ∙ ap (λ (t : List ℕ). x ++ t) q.parts ∙ sym (append_assoc x y c); rest_fits = q.rest_fits }

-- ---- bytes and numbers

pub byte_takes : (bytes : List ℕ) (x : ℕ × List ℕ) → IsBytes bytes → byte_at bytes ≡ Some x → Takes bytes (x.0 ∷ []) x.1
byte_takes [] x fits e = absurd cc
byte_takes (b ∷ rest) x fits e = subst (λ (y : ℕ × List ℕ). Takes (b ∷ rest) (y.0 ∷ []) y.1) (some_is (b, rest) x e) (record { parts = refl; rest_fits = IsBytes-rest b rest fits })

pub record IsWide (w : Width) (limit : ℕ) : Type 0 where
  pub len : (n : ℕ) → length (to_be_bytes w n) ≡ byte_len w
  pub back : (bytes : List ℕ) → length bytes ≡ byte_len w → IsBytes bytes → to_be_bytes w (from_be_bytes w bytes) ≡ bytes
  pub again : (n : ℕ) → n < limit → from_be_bytes w (to_be_bytes w n) ≡ n
  pub below : (bytes : List ℕ) → IsBytes bytes → from_be_bytes w bytes < limit

pub wide32 : IsWide w32 (2 ^ 32)
wide32 = record {
  len = λ n. refl;
  back = λ bytes len fits. be_bytes_4 bytes _ len fits refl;
  again = λ n lt. from_be_bytes-to_be_bytes_4 n lt;
  below = λ bytes fits. omega (arith, fits 0, fits 1, fits 2, fits 3);
}

pub wide64 : IsWide w64 (2 ^ 64)
wide64 = record {
  len = λ n. refl;
  back = λ bytes len fits. be_bytes_8 bytes _ len fits refl;
  again = λ n lt. from_be_bytes-to_be_bytes_8 n lt;
  below = λ bytes fits. omega (arith, fits 0, fits 1, fits 2, fits 3, fits 4, fits 5, fits 6, fits 7);
}

pub number_takes : (w : Width) (limit : ℕ) (wide : IsWide w limit) (bytes : List ℕ) (n : ℕ) (rest : List ℕ) → IsBytes bytes → number_at w bytes ≡ Some (n, rest) → Takes bytes (to_be_bytes w n) rest × (n < limit)
number_takes w limit wide bytes n rest fits e =
    let g = guard_not (ltb (length bytes) (byte_len w)) (Some (from_be_bytes w (take (byte_len w) bytes), drop (byte_len w) bytes)) (n, rest) e in
    let same = some_is (from_be_bytes w (take (byte_len w) bytes), drop (byte_len w) bytes) (n, rest) g.1 in
    let long : byte_len w ≤ length bytes = ltb-false _ _ g.0 in
    let n-is : from_be_bytes w (take (byte_len w) bytes) ≡ n = ap (λ (p : ℕ × List ℕ). p.0) same in
    let rest-is : drop (byte_len w) bytes ≡ rest = ap (λ (p : ℕ × List ℕ). p.1) same in
    let front : to_be_bytes w n ≡ take (byte_len w) bytes = rw (← n-is) (wide.back (take (byte_len w) bytes) (omega (arith, length-take (byte_len w) bytes)) (IsBytes-take (byte_len w) bytes fits)) in
    (record { parts = rw (front, ← rest-is) (sym (take-append-drop (byte_len w) bytes)); rest_fits = rw (← rest-is) (IsBytes-drop (byte_len w) bytes fits) }, rw (← n-is) (wide.below (take (byte_len w) bytes) (IsBytes-take (byte_len w) bytes fits)))

pub number_again : (w : Width) (limit : ℕ) (wide : IsWide w limit) (n : ℕ) (rest : List ℕ) → n < limit → number_at w (to_be_bytes w n ++ rest) ≡ Some (n, rest)
number_again w limit wide n rest lt =
    let len = wide.len n in
    let long : ltb (length (to_be_bytes w n ++ rest)) (byte_len w) ≡ false = le-ltb _ _ (omega (arith, length-append (to_be_bytes w n) rest)) in
    rw (long, take_at (to_be_bytes w n) rest (byte_len w) len, drop_at (to_be_bytes w n) rest (byte_len w) len, wide.again n lt) refl

pub bytes_take : (n : ℕ) (bytes : List ℕ) (x : List ℕ × List ℕ) → IsBytes bytes → bytes_at n bytes ≡ Some x → Takes bytes x.0 x.1 × (length x.0 ≡ n)
bytes_take n bytes x fits e =
    let g = guard_not (ltb (length bytes) n) (Some (take n bytes, drop n bytes)) x e in
    let long : n ≤ length bytes = ltb-false _ _ g.0 in
    subst (λ (y : List ℕ × List ℕ). Takes bytes y.0 y.1 × (length y.0 ≡ n)) (some_is (take n bytes, drop n bytes) x g.1)
    (record { parts = sym (take-append-drop n bytes); rest_fits = IsBytes-drop n bytes fits }, omega (arith, length-take n bytes))

pub bytes_again : (text rest : List ℕ) → bytes_at (length text) (text ++ rest) ≡ Some (text, rest)
bytes_again text rest =
    let long : ltb (length (text ++ rest)) (length text) ≡ false = le-ltb _ _ (omega (arith, length-append text rest)) in
    rw (long, take_at text rest (length text) refl, drop_at text rest (length text) refl) refl

-- ---- items one after the other

module _ {A : Type 0} (item : List ℕ → Option (A × List ℕ)) (spell : A → List ℕ) (Fits : A → Type 0)
    (takes : (bytes : List ℕ) (x : A × List ℕ) → IsBytes bytes → item bytes ≡ Some x → Takes bytes (spell x.0) x.1 × Fits x.0)
    (again : (x : A) (rest : List ℕ) → Fits x → item (spell x ++ rest) ≡ Some (x, rest)) where
  pub items_take : (n : ℕ) (bytes : List ℕ) (x : List A × List ℕ) → IsBytes bytes → items_at item n bytes ≡ Some x → Takes bytes (spelled_all spell x.0) x.1 × (length x.0 ≡ n) × AllByRecursion Fits x.0
  items_take zero bytes x fits e =
      subst (λ (y : List A × List ℕ). Takes bytes (spelled_all spell y.0) y.1 × (length y.0 ≡ 0) × AllByRecursion Fits y.0) (some_is ([], bytes) x e) (record { parts = refl; rest_fits = fits }, refl, tt)
  items_take (suc n) bytes x fits e =
      let a = bind_some (item bytes) (λ first. items_at item n first.1 >>= λ others. Some (first.0 ∷ others.0, others.1)) x e in
      let b = bind_some (items_at item n a.0.1) (λ others. Some (a.0.0 ∷ others.0, others.1)) x a.2 in
      let first = takes bytes a.0 fits a.1 in
      let second = items_take n a.0.1 b.0 first.0.rest_fits b.1 in
      let both = Takes-then bytes (spell a.0.0) a.0.1 (spelled_all spell b.0.0) b.0.1 first.0 second.0 in
      let made : List A × List ℕ = (a.0.0 ∷ b.0.0, b.0.1) in
      subst (λ (y : List A × List ℕ). Takes bytes (spelled_all spell y.0) y.1 × (length y.0 ≡ suc n) × AllByRecursion Fits y.0) (some_is made x b.2) (both, ap suc second.1, (first.1, second.2))

  pub items_again : (ns : List A) (rest : List ℕ) → AllByRecursion Fits ns → items_at item (length ns) (spelled_all spell ns ++ rest) ≡ Some (ns, rest)
  items_again [] rest fits = refl
  items_again (n ∷ ns) rest fits =
      let regrouped : spelled_all spell (n ∷ ns) ++ rest ≡ spell n ++ (spelled_all spell ns ++ rest) = append_assoc (spell n) (spelled_all spell ns) rest in
      ap (items_at item (suc (length ns))) regrouped ∙ rw (again n (spelled_all spell ns ++ rest) fits.0, items_again ns rest fits.1) refl

-- ---- paths

abbrev pub IsGoodPart : List ℕ → Type 0
IsGoodPart part = IsTrue (is_part part)

pub part_takes : (bytes : List ℕ) (x : List ℕ × List ℕ) → IsBytes bytes → part_at bytes ≡ Some x → Takes bytes (spelled_part x.0) x.1 × IsGoodPart x.0
unfolding part_at short_at
part_takes bytes x fits e =
    let a = bind_some (short_at bytes) (λ part. cond (is_part part.0) (Some part) None) x e in
    let b = bind_some (byte_at bytes) (λ n. bytes_at n.0 n.1) a.0 a.1 in
    let g = guard_some (is_part a.0.0) (Some a.0) x a.2 in
    let first = byte_takes bytes b.0 fits b.1 in
    let second = bytes_take b.0.0 b.0.1 a.0 first.rest_fits b.2 in
    let both = Takes-then bytes (b.0.0 ∷ []) b.0.1 a.0.0 a.0.1 first second.0 in
    subst (λ (y : List ℕ × List ℕ). Takes bytes (spelled_part y.0) y.1 × IsGoodPart y.0) (some_is a.0 x g.1)
    (subst (λ (k : ℕ). Takes bytes (k ∷ a.0.0) a.0.1) (sym second.1) both, g.0)

pub part_again : (part rest : List ℕ) → IsGoodPart part → part_at (spelled_part part ++ rest) ≡ Some (part, rest)
unfolding part_at short_at
part_again part rest good = rw (bytes_again part rest, good) refl

pub both_true : (a b : Bool) → (a && b) ≡ true → (a ≡ true) × (b ≡ true)
both_true true b e = (refl, e)
both_true false b e = absurd cc

all_good : (parts : List (List ℕ)) → AllByRecursion IsGoodPart parts → list_all is_part parts ≡ true
all_good [] each = refl
all_good (p ∷ ps) each = rw each.0 (all_good ps each.1)

each_good : (parts : List (List ℕ)) → list_all is_part parts ≡ true → AllByRecursion IsGoodPart parts
each_good [] all = tt
each_good (p ∷ ps) all = let b = both_true (is_part p) (list_all is_part ps) all in (b.0, each_good ps b.1)

named_of : (parts : List (List ℕ)) (n : ℕ) → length parts ≡ n → 1 ≤ n → n ≤ 6 → AllByRecursion IsGoodPart parts → IsNamed parts
named_of [] n len some few each = absurd (omega (arith, len))
named_of (p ∷ ps) n len some few each =
    let short : leb (length (p ∷ ps)) 6 ≡ true = le-leb _ _ (omega (arith, len)) in
    record { good = rw short (all_good (p ∷ ps) each); below = λ e. (cc) }

pub path_takes : (bytes : List ℕ) (x : Path × List ℕ) → IsBytes bytes → path_at bytes ≡ Some x → Takes bytes (spelled_path x.0) x.1 × IsNamed x.0
unfolding path_at
path_takes bytes x fits e =
    let a = bind_some (byte_at bytes) (λ n. cond (leb 1 n.0 && leb n.0 6) (items_at part_at n.0 n.1) None) x e in
    let g = guard_some (leb 1 a.0.0 && leb a.0.0 6) (items_at part_at a.0.0 a.0.1) x a.2 in
    let limits = both_true (leb 1 a.0.0) (leb a.0.0 6) g.0 in
    let first = byte_takes bytes a.0 fits a.1 in
    let second = items_take part_at spelled_part IsGoodPart part_takes part_again a.0.0 a.0.1 x first.rest_fits g.1 in
    let both = Takes-then bytes (a.0.0 ∷ []) a.0.1 (spelled_all spelled_part x.0) x.1 first second.0 in
    (subst (λ (k : ℕ). Takes bytes (k ∷ spelled_all spelled_part x.0) x.1) (sym second.1) both, named_of x.0 a.0.0 second.1 (leb-true _ _ limits.0) (leb-true _ _ limits.1) second.2)

pub path_again : (path : Path) (rest : List ℕ) → IsNamed path → path_at (spelled_path path ++ rest) ≡ Some (path, rest)
unfolding path_at
path_again [] rest named = absurd (named.below refl)
path_again (p ∷ ps) rest named =
    let b = both_true (leb (length (p ∷ ps)) 6) (list_all is_part (p ∷ ps)) named.good in
    let some : leb 1 (length (p ∷ ps)) ≡ true = le-leb _ _ (omega arith) in
    rw (some, b.0) (items_again part_at spelled_part IsGoodPart part_takes part_again (p ∷ ps) rest (each_good (p ∷ ps) b.1))

-- a path can be made longer exactly by a good part
pub good_part : (path : List (List ℕ)) (part : List ℕ) → IsTrue (is_path (path ++ part ∷ [])) → IsTrue (is_part part)
good_part path part good = last_good path (both_true (leb (length (path ++ part ∷ [])) 6) (list_all is_part (path ++ part ∷ [])) good).1
  where
    last_good : (path : List (List ℕ)) → list_all is_part (path ++ part ∷ []) ≡ true → IsTrue (is_part part)
    last_good [] all = (both_true (is_part part) true all).0
    last_good (p ∷ ps) all = last_good ps (both_true (is_part p) (list_all is_part (ps ++ part ∷ [])) all).1

pub longer_good : (path : List (List ℕ)) (part : List ℕ) → IsTrue (is_path path) → length path < 6 → IsTrue (is_part part) → IsTrue (is_path (path ++ part ∷ []))
longer_good path part good few part_good =
    let short : leb (length (path ++ part ∷ [])) 6 ≡ true = le-leb _ _ (omega (arith, length-append path (part ∷ []))) in
    rw short (more path (both_true (leb (length path) 6) (list_all is_part path) good).1)
  where
    more : (path : List (List ℕ)) → list_all is_part path ≡ true → list_all is_part (path ++ part ∷ []) ≡ true
    more [] all = rw part_good refl
    more (p ∷ ps) all = let b = both_true (is_part p) (list_all is_part ps) all in rw b.0 (more ps b.1)

-- ---- texts and ranges

pub string_takes : (bytes : List ℕ) (x : List ℕ × List ℕ) → IsBytes bytes → string_at bytes ≡ Some x → Takes bytes (spelled_bytes x.0) x.1 × (length x.0 < 2 ^ 32)
unfolding string_at
string_takes bytes x fits e =
    let a = bind_some (number_at w32 bytes) (λ n. bytes_at n.0 n.1) x e in
    let first = number_takes w32 (2 ^ 32) wide32 bytes a.0.0 a.0.1 fits a.1 in
    let second = bytes_take a.0.0 a.0.1 x first.0.rest_fits a.2 in
    let both = Takes-then bytes (to_be_bytes w32 a.0.0) a.0.1 x.0 x.1 first.0 second.0 in
    (subst (λ (k : ℕ). Takes bytes (to_be_bytes w32 k ++ x.0) x.1) (sym second.1) both, omega (arith, second.1, first.1))

pub string_again : (text rest : List ℕ) → length text < 2 ^ 32 → string_at (spelled_bytes text ++ rest) ≡ Some (text, rest)
unfolding string_at
string_again text rest lt =
    ap (λ (l : List ℕ). number_at w32 l >>= λ n. bytes_at n.0 n.1) (append_assoc (to_be_bytes w32 (length text)) text rest)
    ∙ rw (number_again w32 (2 ^ 32) wide32 (length text) (text ++ rest) lt) (bytes_again text rest)

pub range_takes : (bytes : List ℕ) (x : (ℕ × List ℕ) × List ℕ) → IsBytes bytes → range_at bytes ≡ Some x → Takes bytes (spelled_range x.0) x.1 × FitsRange x.0
unfolding range_at
range_takes bytes x fits e =
    let a = bind_some (number_at w64 bytes) (λ at. string_at at.1 >>= λ text. Some ((at.0, text.0), text.1)) x e in
    let b = bind_some (string_at a.0.1) (λ text. Some ((a.0.0, text.0), text.1)) x a.2 in
    let first = number_takes w64 (2 ^ 64) wide64 bytes a.0.0 a.0.1 fits a.1 in
    let second = string_takes a.0.1 b.0 first.0.rest_fits b.1 in
    let both = Takes-then bytes (to_be_bytes w64 a.0.0) a.0.1 (spelled_bytes b.0.0) b.0.1 first.0 second.0 in
    let made : (ℕ × List ℕ) × List ℕ = ((a.0.0, b.0.0), b.0.1) in
    subst (λ (y : (ℕ × List ℕ) × List ℕ). Takes bytes (spelled_range y.0) y.1 × FitsRange y.0) (some_is made x b.2) (both, record { at = first.1; short = second.1 })

pub range_again : (range : ℕ × List ℕ) (rest : List ℕ) → FitsRange range → range_at (spelled_range range ++ rest) ≡ Some (range, rest)
unfolding range_at
range_again range rest fits =
    ap (λ (l : List ℕ). number_at w64 l >>= λ at. string_at at.1 >>= λ text. Some ((at.0, text.0), text.1)) (append_assoc (to_be_bytes w64 range.0) (spelled_bytes range.1) rest)
    ∙ rw (number_again w64 (2 ^ 64) wide64 range.0 (spelled_bytes range.1 ++ rest) fits.at, string_again range.1 rest fits.short) refl

abbrev pub spelled_ranges : Ranges → List ℕ
spelled_ranges ranges = to_be_bytes w32 (length ranges) ++ spelled_all spelled_range ranges

pub ranges_take : (bytes : List ℕ) (x : Ranges × List ℕ) → IsBytes bytes → ranges_at bytes ≡ Some x → Takes bytes (spelled_ranges x.0) x.1 × (length x.0 < 2 ^ 32) × AllByRecursion FitsRange x.0
unfolding ranges_at
ranges_take bytes x fits e =
    let a = bind_some (number_at w32 bytes) (λ n. items_at range_at n.0 n.1) x e in
    let first = number_takes w32 (2 ^ 32) wide32 bytes a.0.0 a.0.1 fits a.1 in
    let second = items_take range_at spelled_range FitsRange range_takes range_again a.0.0 a.0.1 x first.0.rest_fits a.2 in
    let both = Takes-then bytes (to_be_bytes w32 a.0.0) a.0.1 (spelled_all spelled_range x.0) x.1 first.0 second.0 in
    (subst (λ (k : ℕ). Takes bytes (to_be_bytes w32 k ++ spelled_all spelled_range x.0) x.1) (sym second.1) both, omega (arith, second.1, first.1), second.2)

pub ranges_again : (ranges : Ranges) (rest : List ℕ) → length ranges < 2 ^ 32 → AllByRecursion FitsRange ranges → ranges_at (spelled_ranges ranges ++ rest) ≡ Some (ranges, rest)
unfolding ranges_at
ranges_again ranges rest few fits =
    ap (λ (l : List ℕ). number_at w32 l >>= λ n. items_at range_at n.0 n.1) (append_assoc (to_be_bytes w32 (length ranges)) (spelled_all spelled_range ranges) rest)
    ∙ rw (number_again w32 (2 ^ 32) wide32 (length ranges) (spelled_all spelled_range ranges ++ rest) few) (items_again range_at spelled_range FitsRange range_takes range_again ranges rest fits)
