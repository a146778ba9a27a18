-- The entries of a map by number, after one was put after the others, changed or taken away.
use Rattle.std.proofs.Common.{◌≡◌, ℕ, ◌<◌, Bool, true, false, cond, not, List, [], ◌∷◌, ◌++◌, map, filter, Some, None, ◌==◌, if◌then◌else◌, refl, sym, ap, ap₂, ◌∙◌, true≢false}
use Rattle.std.proofs.lemmas.Bool.{eq-eqb}
use Rattle.std.specs.Cmp.{nat_cmp_is, eq_by_cmp_equiv, nat_eq_equiv}
use Rattle.std.proofs.lemmas.Cmp.{nat_cmp_total}
use Rattle.std.specs.Ordering.{nat_cmp, match_ordering}
use Rattle.std.specs.declared.cmp.Ordering.TheVariants.{Greater}
use Rattle.std.specs.List.{AllByRecursion}
use Rattle.std.specs.List.Sorted.{IsStrictlySortedBy}
use Rattle.std.specs.Map.{lookup, keys_of, set_value, remove_entry}
use Rattle.std.specs.BTreeMap.{insert_entry, is_at}
use Rattle.std.proofs.lemmas.Map.{NonePasses, none_passes_from_lookup}
use Rattle.std.proofs.lemmas.Map.Keys.{sorted_tail, IsDistinct-from_sorted}
use Rattle.std.proofs.lemmas.Map.Entries.{none_past_head}
use Rattle.live_tree.proofs.Places.{at_number}

pub flip : (a b : ℕ) → (a == b) ≡ (b == a)
flip a b = nat_eq_equiv.symm a b

-- the test of the definitions, by that of the map
pub test_is : (k number : ℕ) (b : Bool) → is_at (nat_cmp k) number ≡ b → (number == k) ≡ b
test_is k number b e = flip number k ∙ sym (at_number k number) ∙ e

all_map : {A : Type 0} (P Q : A → Type 0) → ((x : A) → P x → Q x) → (xs : List A) → AllByRecursion P xs → AllByRecursion Q xs
all_map P Q step [] all = tt
all_map P Q step (x ∷ xs) all = (step x all.0, all_map P Q step xs all.1)

pub map_congr : {A B : Type 0} (F G : A → B) (xs : List A) → AllByRecursion (λ x. F x ≡ G x) xs → map F xs ≡ map G xs
map_congr F G [] all = refl
map_congr F G (x ∷ xs) all = ap₂ (λ y ys. y ∷ ys) all.0 (map_congr F G xs all.1)

pub map_map : {A B C : Type 0} (F : A → B) (G : B → C) (xs : List A) → map G (map F xs) ≡ map (λ x. G (F x)) xs
map_map F G [] = refl
map_map F G (x ∷ xs) = ap (λ ys. G (F x) ∷ ys) (map_map F G xs)

pub map_append : {A B : Type 0} (F : A → B) (xs ys : List A) → map F (xs ++ ys) ≡ map F xs ++ map F ys
map_append F [] ys = refl
map_append F (x ∷ xs) ys = ap (λ zs. F x ∷ zs) (map_append F xs ys)

pub all_any : {A : Type 0} (Q : A → Type 0) → ((x : A) → Q x) → (xs : List A) → AllByRecursion Q xs
all_any Q each [] = tt
all_any Q each (x ∷ xs) = (each x, all_any Q each xs)

above : (a b : ℕ) → b < a → nat_cmp a b ≡ Greater
above a b less = sym (nat_cmp_is a b Greater less)

module _ {X : Type 0} where
  abbrev pub edit : ℕ → (X → X) → ℕ × X → ℕ × X
  edit k f e = (e.0, if e.0 == k then f e.1 else e.1)

  -- ---- none has the number

  pub untouched : (k : ℕ) (f : X → X) (es : List (ℕ × X)) → NonePasses (is_at (nat_cmp k)) es → map (edit k f) es ≡ es
  untouched k f [] none = refl
  untouched k f (e ∷ es) none =
      ap₂ (λ (y : ℕ × X) ys. y ∷ ys) (ap (λ b. (e.0, if b then f e.1 else e.1)) (test_is k e.0 false none.0)) (untouched k f es none.1)

  pub unfiltered : (k : ℕ) (es : List (ℕ × X)) → NonePasses (is_at (nat_cmp k)) es → filter (λ (e : ℕ × X). not (e.0 == k)) es ≡ es
  unfiltered k [] none = refl
  unfiltered k (e ∷ es) none =
      ap (λ b. cond (not b) (e ∷ filter (λ (e : ℕ × X). not (e.0 == k)) es) (filter (λ (e : ℕ × X). not (e.0 == k)) es)) (test_is k e.0 false none.0)
      ∙ ap (λ (ys : List (ℕ × X)). e ∷ ys) (unfiltered k es none.1)

  none_after : (k : ℕ) (e : ℕ × X) (es : List (ℕ × X)) → IsStrictlySortedBy nat_cmp (keys_of (e ∷ es)) → is_at (nat_cmp k) e.0 ≡ true → NonePasses (is_at (nat_cmp k)) es
  none_after k e es sorted here = none_past_head (eq_by_cmp_equiv nat_cmp_total) k e es (IsDistinct-from_sorted nat_cmp (keys_of (e ∷ es)) sorted) here

  -- ---- one is changed

  set_step : (b : Bool) (k : ℕ) (f : X → X) (v : X) (e : ℕ × X) (es : List (ℕ × X)) → is_at (nat_cmp k) e.0 ≡ b → IsStrictlySortedBy nat_cmp (keys_of (e ∷ es))
      → cond b (Some e.1) (lookup (is_at (nat_cmp k)) es) ≡ Some v
      → (lookup (is_at (nat_cmp k)) es ≡ Some v → set_value (is_at (nat_cmp k)) es (f v) ≡ map (edit k f) es)
      → cond b ((e.0, f v) ∷ es) (e ∷ set_value (is_at (nat_cmp k)) es (f v)) ≡ edit k f e ∷ map (edit k f) es
  set_step true k f v e es is sorted found rest =
      let value : e.1 ≡ v = cc in
      ap₂ (λ (y : ℕ × X) ys. y ∷ ys) (sym (ap (λ b. (e.0, if b then f e.1 else e.1)) (test_is k e.0 true is) ∙ ap (λ x. (e.0, f x)) value))
      (sym (untouched k f es (none_after k e es sorted is)))
  set_step false k f v e es is sorted found rest =
      ap₂ (λ (y : ℕ × X) ys. y ∷ ys) (sym (ap (λ b. (e.0, if b then f e.1 else e.1)) (test_is k e.0 false is))) (rest found)

  pub set_is_edit : (k : ℕ) (f : X → X) (v : X) (es : List (ℕ × X)) → IsStrictlySortedBy nat_cmp (keys_of es) → lookup (is_at (nat_cmp k)) es ≡ Some v
      → set_value (is_at (nat_cmp k)) es (f v) ≡ map (edit k f) es
  set_is_edit k f v [] sorted found = absurd cc
  set_is_edit k f v (e ∷ es) sorted found =
      set_step (is_at (nat_cmp k) e.0) k f v e es refl sorted found (set_is_edit k f v es (sorted_tail nat_cmp e.0 (keys_of es) sorted))

  pub edited_in : (k : ℕ) (f : X → X) (v w : X) (es : List (ℕ × X)) → IsStrictlySortedBy nat_cmp (keys_of es) → lookup (is_at (nat_cmp k)) es ≡ Some v → w ≡ f v
      → set_value (is_at (nat_cmp k)) es w ≡ map (edit k f) es
  edited_in k f v w es sorted found e = rw e (set_is_edit k f v es sorted found)

  -- no node has the number
  pub edit_none : (k : ℕ) (f : X → X) (es : List (ℕ × X)) → lookup (is_at (nat_cmp k)) es ≡ None → map (edit k f) es ≡ es
  edit_none k f es none = untouched k f es (none_passes_from_lookup (is_at (nat_cmp k)) es none)

  -- ---- one is taken away

  remove_step : (b : Bool) (k : ℕ) (e : ℕ × X) (es : List (ℕ × X)) → is_at (nat_cmp k) e.0 ≡ b → IsStrictlySortedBy nat_cmp (keys_of (e ∷ es))
      → remove_entry (is_at (nat_cmp k)) es ≡ filter (λ (e : ℕ × X). not (e.0 == k)) es
      → cond b es (e ∷ remove_entry (is_at (nat_cmp k)) es) ≡ cond (not (e.0 == k)) (e ∷ filter (λ (e : ℕ × X). not (e.0 == k)) es) (filter (λ (e : ℕ × X). not (e.0 == k)) es)
  remove_step true k e es is sorted rest = rw (test_is k e.0 true is) (sym (unfiltered k es (none_after k e es sorted is)))
  remove_step false k e es is sorted rest = rw (test_is k e.0 false is) (ap (λ (ys : List (ℕ × X)). e ∷ ys) rest)

  pub remove_is_filter : (k : ℕ) (es : List (ℕ × X)) → IsStrictlySortedBy nat_cmp (keys_of es)
      → remove_entry (is_at (nat_cmp k)) es ≡ filter (λ (e : ℕ × X). not (e.0 == k)) es
  remove_is_filter k [] sorted = refl
  remove_is_filter k (e ∷ es) sorted =
      remove_step (is_at (nat_cmp k) e.0) k e es refl sorted (remove_is_filter k es (sorted_tail nat_cmp e.0 (keys_of es) sorted))

  -- ---- one is put after the others

  abbrev pub AreBelow : ℕ → List (ℕ × X) → Type 0
  AreBelow next es = AllByRecursion (λ (e : ℕ × X). e.0 < next) es

  pub below_from : (next : ℕ) (es : List (ℕ × X)) → ((k : ℕ) (n : X) → lookup (is_at (nat_cmp k)) es ≡ Some n → k < next) → AreBelow next es
  below_from next [] h = tt
  below_from next (e ∷ es) h = (
    h e.0 e.1 (ap (λ b. cond b (Some e.1) (lookup (is_at (nat_cmp e.0)) es)) (at_number e.0 e.0 ∙ eq-eqb e.0 e.0 refl)),
    below_from next es (λ k n found. here k n found (is_at (nat_cmp k) e.0) refl),
  )
    where
      here : (k : ℕ) (n : X) → lookup (is_at (nat_cmp k)) es ≡ Some n → (b : Bool) → is_at (nat_cmp k) e.0 ≡ b → k < next
      here k n found true is = h k e.1 (ap (λ b. cond b (Some e.1) (lookup (is_at (nat_cmp k)) es)) is)
      here k n found false is = h k n (ap (λ b. cond b (Some e.1) (lookup (is_at (nat_cmp k)) es)) is ∙ found)

  pub insert_is_append : (next : ℕ) (v : X) (es : List (ℕ × X)) → AreBelow next es → insert_entry nat_cmp es next v ≡ es ++ (next, v) ∷ []
  insert_is_append next v [] below = refl
  insert_is_append next v (e ∷ es) below =
      ap (λ o. match_ordering o ((next, v) ∷ e ∷ es) ((e.0, v) ∷ es) (e ∷ insert_entry nat_cmp es next v)) (above next e.0 below.0)
      ∙ ap (λ (ys : List (ℕ × X)). e ∷ ys) (insert_is_append next v es below.1)

  -- ---- what the one of a number is

  abbrev pub AreThis : ℕ → X → List (ℕ × X) → Type 0
  AreThis k v es = AllByRecursion (λ (e : ℕ × X). (e.0 == k) ≡ true → e.1 ≡ v) es

  none_are : (k : ℕ) (v : X) (es : List (ℕ × X)) → NonePasses (is_at (nat_cmp k)) es → AreThis k v es
  none_are k v es none =
      all_map (λ (e : ℕ × X). is_at (nat_cmp k) e.0 ≡ false) (λ (e : ℕ × X). (e.0 == k) ≡ true → e.1 ≡ v)
      (λ e no yes. absurd (true≢false (sym yes ∙ test_is k e.0 false no))) es none

  this_step : (b : Bool) (k : ℕ) (v : X) (e : ℕ × X) (es : List (ℕ × X)) → is_at (nat_cmp k) e.0 ≡ b → IsStrictlySortedBy nat_cmp (keys_of (e ∷ es))
      → cond b (Some e.1) (lookup (is_at (nat_cmp k)) es) ≡ Some v → (lookup (is_at (nat_cmp k)) es ≡ Some v → AreThis k v es) → AreThis k v (e ∷ es)
  this_step true k v e es is sorted found rest = (λ yes. cc, none_are k v es (none_after k e es sorted is))
  this_step false k v e es is sorted found rest = (λ yes. absurd (true≢false (sym yes ∙ test_is k e.0 false is)), rest found)

  pub this_from : (k : ℕ) (v : X) (es : List (ℕ × X)) → IsStrictlySortedBy nat_cmp (keys_of es) → lookup (is_at (nat_cmp k)) es ≡ Some v → AreThis k v es
  this_from k v [] sorted found = tt
  this_from k v (e ∷ es) sorted found = this_step (is_at (nat_cmp k) e.0) k v e es refl sorted found (this_from k v es (sorted_tail nat_cmp e.0 (keys_of es) sorted))
