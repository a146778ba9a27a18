-- The finite map that sorted entries are.
use Rattle.std.proofs.Common.{◌≡◌, ℕ, suc, ◌+◌, Bool, true, false, cond, eqb, [], ◌∷◌, length, get_or, set, Option, Some, None, refl, sym, ap, ◌∙◌, arith}
use Rattle.std.specs.List.{insert, remove}
use Rattle.std.specs.Ordering.{nat_cmp, eq_by_cmp}
use Rattle.std.specs.Cmp.{nat_cmp_total}
use Rattle.std.specs.FinMap as map
use Rattle.std.specs.FinMap.{find, get-from_entries, get-insert, get-remove, len-insert, len-empty, same_map, nat_cmp-IsAntisymmetric}
use Rattle.std.proofs.lemmas.Bool.Decides.{nat_tests}
use Rattle.session_core.specs.State.{Fid}
use Rattle.session_core.specs.Entries.{Entries, nothing, IsStrictlySorted, IsAt, IsGapFor}
use Rattle.session_core.proofs.Entries.{found, found_absent, found_present, found_set, found-insert, found-remove}
use Rattle.session_core.proofs.Place.{none_before_at, none_beside, none_in_gap, none_before_gap}

abbrev pub as_map : Entries → map.FinMap nat_cmp Fid
as_map l = map.from_entries l

-- two numbers tie if they are equal
pub ties : (q k : ℕ) → eq_by_cmp nat_cmp q k ≡ eqb k q
ties q k = grind (arith, nat_tests)

find_found : (l : Entries) (q : ℕ) → find nat_cmp q l ≡ found l q
find_found [] q = refl
find_found (x ∷ l) q = ap (λ (b : Bool). cond b (Some x.1) (find nat_cmp q l)) (ties q x.0) ∙ ap (λ (o : Option Fid). cond (eqb x.0 q) (Some x.1) o) (find_found l q)

pub get_found : (l : Entries) (q : ℕ) → map.get (as_map l) q ≡ found l q
get_found l q = get-from_entries nat_cmp_total l q ∙ find_found l q

-- maps that answer alike are one
alike : (m n : map.FinMap nat_cmp Fid) → ((q : ℕ) → map.get m q ≡ map.get n q) → m ≡ n
alike m n h = same_map nat_cmp_total nat_cmp-IsAntisymmetric m n h

get_insert : (l : Entries) (k : ℕ) (v : Fid) (q : ℕ) → map.get (map.insert (as_map l) k v) q ≡ cond (eqb k q) (Some v) (found l q)
get_insert l k v q = get-insert nat_cmp_total (as_map l) k v q ∙ ap (λ (b : Bool). cond b (Some v) (map.get (as_map l) q)) (ties q k) ∙ ap (λ (o : Option Fid). cond (eqb k q) (Some v) o) (get_found l q)

get_remove : (l : Entries) (k q : ℕ) → map.get (map.remove (as_map l) k) q ≡ cond (eqb k q) None (found l q)
get_remove l k q = get-remove nat_cmp_total (as_map l) k q ∙ ap (λ (b : Bool). cond b None (map.get (as_map l) q)) (ties q k) ∙ ap (λ (o : Option Fid). cond (eqb k q) None o) (get_found l q)

module _ (l : Entries) (sorted : IsStrictlySorted l) (k at : ℕ) (is_at : IsAt l k at) where
  -- a fid that is found is in the map
  pub get_at : map.get (as_map l) k ≡ Some (get_or l at nothing).1
  get_at = get_found l k ∙ found_present l k at is_at (none_before_at l sorted k at is_at)

  -- writing over its entry sets it
  pub map_set : (v : Fid) → as_map (set l at (k, v)) ≡ map.insert (as_map l) k v
  map_set v = alike _ _ (λ q. get_found (set l at (k, v)) q ∙ found_set l k v at is_at (none_before_at l sorted k at is_at) q ∙ sym (get_insert l k v q))

  -- taking its entry frees it
  pub map_remove : as_map (remove l at) ≡ map.remove (as_map l) k
  map_remove = alike _ _ (λ q. get_found (remove l at) q ∙ found-remove l k at is_at (none_beside l sorted k at is_at) q ∙ sym (get_remove l k q))

module _ (l : Entries) (k at : ℕ) (gap : IsGapFor l k at) where
  -- a fid that has a gap is not in the map
  pub get_in_gap : map.get (as_map l) k ≡ None
  get_in_gap = get_found l k ∙ found_absent l k (none_in_gap l k at gap)

  -- a new entry in the gap sets it
  pub map_insert : (v : Fid) → as_map (insert l at (k, v)) ≡ map.insert (as_map l) k v
  map_insert v = alike _ _ (λ q. get_found (insert l at (k, v)) q ∙ found-insert l k v at (none_before_gap l k at gap) q ∙ sym (get_insert l k v q))

-- to free a fid that is not in use changes nothing
kept : (m : map.FinMap nat_cmp Fid) (k q : ℕ) (b : Bool) → eqb k q ≡ b → map.get m k ≡ None → cond b None (map.get m q) ≡ map.get m q
kept m k q true e none = grind (arith, nat_tests, e, none)
kept m k q false e none = refl

pub remove_absent : (m : map.FinMap nat_cmp Fid) (k : ℕ) → map.get m k ≡ None → map.remove m k ≡ m
remove_absent m k none = alike _ _ (λ q. get-remove nat_cmp_total m k q ∙ ap (λ (b : Bool). cond b None (map.get m q)) (ties q k) ∙ kept m k q (eqb k q) refl none)

tail_sorted : (x : ℕ × Fid) (l : Entries) → IsStrictlySorted (x ∷ l) → IsStrictlySorted l
tail_sorted x l sorted i j lt in_range = sorted (suc i) (suc j) (omega arith) (omega arith)

one_more : (m : map.FinMap nat_cmp Fid) (k n : ℕ) → map.get m k ≡ None → map.len m ≡ n → cond (map.contains_key m k) (map.len m) (map.len m + 1) ≡ n + 1
one_more m k n none e = rw (none, e) refl

-- as many fids as entries
pub len_is : (l : Entries) → IsStrictlySorted l → map.len (as_map l) ≡ length l
len_is [] sorted = len-empty nat_cmp Fid
len_is (x ∷ l) sorted =
    let none : map.get (as_map l) x.0 ≡ None = get_found l x.0 ∙ found_absent l x.0 (λ j lt same. omega (arith, sorted 0 (suc j) (omega arith) (omega arith), same)) in
    len-insert nat_cmp_total (as_map l) x.0 x.1 ∙ one_more (as_map l) x.0 (length l) none (len_is l (tail_sorted x l sorted)) ∙ omega arith

-- an entry by its parts
pub entry_is : (a b : ℕ) (x y : Fid) → a ≡ b → x ≡ y → ◌≡◌ {A = ℕ × Fid} (a, x) (b, y)
entry_is a b x y p q = cc
