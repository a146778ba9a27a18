-- The last name in whole stats.
use Rattle.std.proofs.Common.{◌≡◌, ℕ, zero, suc, ◌+◌, ◌<◌, ◌≤◌, ◌^◌, eqb, ◌==◌, true, false, List, [], ◌∷◌, ◌++◌, length, take, drop, Option, Some, refl, sym, ap, subst, ◌∙◌, append_assoc, arith}
use Rattle.std.specs.List.{flat_map, AllByRecursion}
use Rattle.std.proofs.lemmas.Bool.{ne_eqb}
use Rattle.std.proofs.lemmas.Bool.Decides.{nat_tests}
use Rattle.std.proofs.lemmas.List.{take_at, drop_at, length-append}
use Rattle.std.proofs.lemmas.List.Concat.{flat_map-cons}
use Rattle.byteorder.specs.Endian.{little_number}
use Rattle.byteorder.specs.Numbers.{little_number-reads_back}
use Rattle.tree_model.specs.Wire.{number, string, PlainStat, stat_fields, spelled_stat, IsTreeStat}
use Rattle.session_core.specs.Outcome.{last_name}

-- the name of the last stat, or else the one given before
abbrev pub last_of : Option (List ℕ) → List PlainStat → Option (List ℕ)
last_of given [] = given
last_of given (s ∷ stats) = last_of (Some s.name) stats

-- the bytes of whole stats
abbrev pub stats_bytes : List PlainStat → List ℕ
stats_bytes stats = flat_map spelled_stat stats

-- what a stat at the front of bytes is read as
pub record Front (s : PlainStat) (bytes rest : List ℕ) : Type 0 where
  pub name_length : little_number 2 (drop 41 bytes) ≡ length s.name
  pub name : take (length s.name) (drop 43 bytes) ≡ s.name
  pub size : little_number 2 bytes ≡ length (stat_fields s)
  pub long : length bytes ≡ 2 + length (stat_fields s) + length rest
  pub rest_is : drop (2 + length (stat_fields s)) bytes ≡ rest
  pub inside : 43 + length s.name ≤ length bytes

regroup : (n o g m rest : List ℕ) → (((n ++ o) ++ g) ++ m) ++ rest ≡ n ++ (((o ++ g) ++ m) ++ rest)
regroup n o g m rest = simp append_assoc

pub front : (s : PlainStat) (rest : List ℕ) → IsTreeStat s → Front s (spelled_stat s ++ rest) rest
front s rest good =
    let bytes = spelled_stat s ++ rest in
    let tail : List ℕ = ((s.name ++ string s.owner) ++ string s.group) ++ string s.modifier in
    let from_name : drop 43 bytes ≡ tail ++ rest = refl in
    let regrouped : tail ++ rest ≡ s.name ++ (((string s.owner ++ string s.group) ++ string s.modifier) ++ rest) = regroup s.name (string s.owner) (string s.group) (string s.modifier) rest in
    let from_length : drop 41 bytes ≡ number 2 (length s.name) ++ (tail ++ rest) = refl in
    let short : length s.name < 256 ^ 2 = omega (arith, good.short) in
    let all : length (spelled_stat s) ≡ 2 + length (stat_fields s) = length-append (number 2 (length (stat_fields s))) (stat_fields s) in
    let size : length (stat_fields s) < 256 ^ 2 = omega (arith, good.size, all) in
    let parts : bytes ≡ number 2 (length (stat_fields s)) ++ (stat_fields s ++ rest) = refl in
    let fields : length (stat_fields s) ≡ 41 + length tail = omega arith in
    let tail_long : length s.name ≤ length tail = omega (arith, length-append ((s.name ++ string s.owner) ++ string s.group) (string s.modifier), length-append (s.name ++ string s.owner) (string s.group), length-append s.name (string s.owner)) in
    record {
      name_length = ap (little_number 2) from_length ∙ little_number-reads_back 2 (length s.name) (tail ++ rest) short;
      name = ap (take (length s.name)) (from_name ∙ regrouped) ∙ take_at s.name _ (length s.name) refl;
      size = little_number-reads_back 2 (length (stat_fields s)) (stat_fields s ++ rest) size;
      long = length-append (spelled_stat s) rest ∙ ap (λ (n : ℕ). n + length rest) all;
      rest_is = drop_at (spelled_stat s) rest (2 + length (stat_fields s)) all;
      inside = omega (arith, length-append (spelled_stat s) rest, all, fields, tail_long);
    }

-- reading the name of the last of whole stats
pub last_name_is : (stats : List PlainStat) (fuel : ℕ) (given : Option (List ℕ)) → AllByRecursion IsTreeStat stats → length (stats_bytes stats) ≤ fuel
    → last_name fuel given (stats_bytes stats) ≡ last_of given stats
unfolding last_name
last_name_is [] zero given good le = refl
last_name_is [] (suc fuel) given good le = refl
last_name_is (s ∷ stats) zero given good le =
    let f = front s (stats_bytes stats) good.0 in
    absurd (omega (arith, f.long, ap (λ (w : List ℕ). length w) (flat_map-cons spelled_stat s stats), le))
last_name_is (s ∷ stats) (suc fuel) given good le =
    let f = front s (stats_bytes stats) good.0 in
    let cons = flat_map-cons spelled_stat s stats in
    let some : eqb (length (spelled_stat s ++ stats_bytes stats)) 0 ≡ false = ne_eqb _ _ (omega (arith, f.long)) in
    let fits : length (stats_bytes stats) ≤ fuel = omega (arith, f.long, ap (λ (w : List ℕ). length w) cons, le) in
    rw cons (rw (some, f.name_length, f.name, f.size, f.rest_is) (last_name_is stats fuel (Some s.name) good.1 fits))

-- the first of the stats that bytes are, and those after it
pub record Next (left : List PlainStat) (bytes : List ℕ) : Type 0 where
  pub first : PlainStat
  pub others : List PlainStat
  pub left_is : left ≡ first ∷ others
  pub is : bytes ≡ spelled_stat first ++ stats_bytes others
  pub read : Front first bytes (stats_bytes others)
  pub good : IsTreeStat first
  pub rest_good : AllByRecursion IsTreeStat others

pub next : (left : List PlainStat) (bytes : List ℕ) → bytes ≡ stats_bytes left → AllByRecursion IsTreeStat left → 0 < length bytes → Next left bytes
next [] bytes is good some = absurd (omega (arith, ap (λ (w : List ℕ). length w) is, some))
next (s ∷ left) bytes is good some = record {
  first = s;
  others = left;
  left_is = refl;
  is = is ∙ flat_map-cons spelled_stat s left;
  read = subst (λ (w : List ℕ). Front s w (stats_bytes left)) (sym (is ∙ flat_map-cons spelled_stat s left)) (front s (stats_bytes left) good.0);
  good = good.0;
  rest_good = good.1;
}

pub all_read : (bytes : List ℕ) (stats : List PlainStat) (given : Option (List ℕ)) → bytes ≡ stats_bytes stats → AllByRecursion IsTreeStat stats → last_name (length bytes) given bytes ≡ last_of given stats
all_read bytes stats given is good =
    ap (λ (w : List ℕ). last_name (length w) given w) is ∙ last_name_is stats (length (stats_bytes stats)) given good (omega arith)

pub some_left : (bytes : List ℕ) → false ≡ (length bytes == 0) → 0 < length bytes
some_left bytes e = grind (arith, nat_tests, e)

-- no bytes are left if no stats are
pub none_left : (left : List PlainStat) (bytes : List ℕ) → bytes ≡ stats_bytes left → AllByRecursion IsTreeStat left → true ≡ (length bytes == 0) → left ≡ []
none_left [] bytes is good e = refl
none_left (s ∷ left) bytes is good e =
    let f = front s (stats_bytes left) good.0 in
    let long = ap (λ (w : List ℕ). length w) (is ∙ flat_map-cons spelled_stat s left) in
    grind (arith, nat_tests, e, f.long, long)

pub name_read : (s : PlainStat) (bytes rest : List ℕ) → Front s bytes rest → (name : List ℕ) → name ≡ take (little_number 2 (drop 41 bytes)) (drop 43 bytes) → name ≡ s.name
name_read s bytes rest f name is = is ∙ ap (λ (n : ℕ). take n (drop 43 bytes)) f.name_length ∙ f.name

pub rest_read : (s : PlainStat) (bytes rest : List ℕ) → Front s bytes rest → (others : List ℕ) → others ≡ drop (2 + little_number 2 bytes) bytes → others ≡ rest
rest_read s bytes rest f others is = is ∙ ap (λ (n : ℕ). drop (2 + n) bytes) f.size ∙ f.rest_is
