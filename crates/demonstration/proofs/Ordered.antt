-- Rows in the order of their paths.
use Rattle.std.proofs.Common.{◌≡◌, ◌≢◌, ◌⊎◌, ℕ, zero, suc, ◌+◌, ◌<◌, ◌≤◌, List, [], ◌∷◌, length, get_or, map, swap, Bool, true, false, cond, IsPermutation, Ordering, Equal, Greater, is_eq, is_lt, Some, refl, sym, ap, ap₂, subst, ◌∙◌, inl, inr, arith}
use Rattle.std.specs.Prelude.{slice_get}
use Rattle.std.proofs.lemmas.Bool.{cases_eq, cases_lt}
use Rattle.std.proofs.lemmas.Cmp.{nat_list_cmp_total}
use Rattle.std.proofs.lemmas.List.Edits.{Swapped, swapped_from_swap, length-swap}
use Rattle.std.proofs.lemmas.List.Sorted.{IsPermutation-keeps}
use Rattle.std.proofs.lemmas.Map.Keys.{sorted_from_all_adjacent, Less-from_sorted}
use Rattle.std.proofs.lemmas.Map.Text.{is_eq-slice_cmp}
use Rattle.std.proofs.lemmas.Option.{get_or_from_slice_get}
use Rattle.std.proofs.lemmas.Slice.Eq.{bytes_eq-Decides}
use Rattle.std.specs.List.Sorted.{IsSortedBy, IsStrictlySortedBy}
use Rattle.std.specs.Ordering.{nat_cmp, ordering_reverse}
use Rattle.std.specs.Cmp.Lexicographic.{slice_cmp}
use Rattle.std.specs.declared.cmp.Ordering.TheVariants.{Less}
use Rattle.demonstration.specs.Summary.{directory, file, plain_row}
use Rattle.demonstration.specs.declared.rows.DemoRow.{DemoRow}
use Rattle.demonstration.specs.Left.{text_of}

abbrev pub texts_of : List DemoRow → List (List ℕ)
texts_of rows = map text_of (map plain_row rows)

-- each of the first n is before the next one
abbrev pub AreOrderedTo : List DemoRow → ℕ → Type 0
AreOrderedTo rows n = (k : ℕ) → k + 1 < n → slice_cmp nat_cmp (get_or (texts_of rows) k []) (get_or (texts_of rows) (k + 1) []) ≡ Less

text_plain : (row : DemoRow) (b : Bool) → text_of (cond b (directory row.path.items) (file row.path.items row.len row.hash)) ≡ row.path.items
text_plain row true = refl
text_plain row false = refl

-- the text of a row that was read
read_text : (rows : List DemoRow) (k : ℕ) (row : DemoRow) → k < length rows → row ≡ get_or rows k row → get_or (texts_of rows) k [] ≡ row.path.items
read_text [] k row within is = absurd (omega arith)
read_text (first ∷ rows) zero row within is = text_plain first first.is_dir ∙ ap (λ (r : DemoRow). r.path.items) (sym is)
read_text (first ∷ rows) (suc k) row within is = read_text rows k row (omega arith) is

-- one more is before the next one
pub ordered_more : (rows : List DemoRow) (n i : ℕ) (a b : DemoRow) → n ≡ i + 1 → n < length rows → a ≡ get_or rows i a → b ≡ get_or rows n b
    → slice_cmp nat_cmp a.path.items b.path.items ≡ Less → AreOrderedTo rows n → AreOrderedTo rows (n + 1)
ordered_more rows n i a b behind within first second less so_far = λ k inside. elim (cases_lt (k + 1) n) [
  | inl before ↦ so_far k before
  | inr least ↦
      let last : k ≡ i = omega arith in
      let next : k + 1 ≡ n = omega arith in
      let x : get_or (texts_of rows) k [] ≡ a.path.items = ap (λ (j : ℕ). get_or (texts_of rows) j []) last ∙ read_text rows i a (omega arith) first in
      let y : get_or (texts_of rows) (k + 1) [] ≡ b.path.items = ap (λ (j : ℕ). get_or (texts_of rows) j []) next ∙ read_text rows n b within second in
      ap₂ (λ (v : List ℕ) (w : List ℕ). slice_cmp nat_cmp v w) x y ∙ less
]

texts_length : (rows : List DemoRow) → length (texts_of rows) ≡ length rows
texts_length [] = refl
texts_length (row ∷ rows) = ap suc (texts_length rows)

pub ordered_all : (rows : List DemoRow) (n : ℕ) → length rows ≤ n → AreOrderedTo rows n → IsStrictlySortedBy (slice_cmp nat_cmp) (texts_of rows)
ordered_all rows n whole h = sorted_from_all_adjacent nat_list_cmp_total (texts_of rows) [] (λ k within. h k (let many = texts_length rows in omega arith))

-- one that isn't before the next one
pub unordered : (rows : List DemoRow) (n i : ℕ) (a b : DemoRow) → n ≡ i + 1 → n < length rows → a ≡ get_or rows i a → b ≡ get_or rows n b
    → slice_cmp nat_cmp a.path.items b.path.items ≢ Less → IsStrictlySortedBy (slice_cmp nat_cmp) (texts_of rows) → ⊥
unordered rows n i a b behind within first second other sorted =
    let many = texts_length rows in
    let x : get_or (texts_of rows) i [] ≡ a.path.items = read_text rows i a (omega arith) first in
    let y : get_or (texts_of rows) n [] ≡ b.path.items = read_text rows n b within second in
    other (ap₂ (λ (v : List ℕ) (w : List ℕ). slice_cmp nat_cmp v w) (sym x) (sym y)
    ∙ Less-from_sorted (slice_cmp nat_cmp) (texts_of rows) i n [] sorted (omega arith) (omega arith))

-- ---- rows that aren't in the order of different paths, where no path is before the one that it follows

-- the first of two neighbours isn't before the second
record HasFall (rows : List DemoRow) : Type 0 where
  k : ℕ
  within : k + 1 < length rows
  falls : slice_cmp nat_cmp (get_or (texts_of rows) k []) (get_or (texts_of rows) (k + 1) []) ≢ Less

is_less : (o : Ordering) → (o ≡ Less) ⊎ (o ≢ Less)
is_less Less = inl refl
is_less Equal = inr (λ e. absurd cc)
is_less Greater = inr (λ e. absurd cc)

one_further : (rows : List DemoRow) (m : ℕ) → m + 1 < length rows → AreOrderedTo rows (m + 1)
    → (slice_cmp nat_cmp (get_or (texts_of rows) m []) (get_or (texts_of rows) (m + 1) []) ≡ Less)
    ⊎ (slice_cmp nat_cmp (get_or (texts_of rows) m []) (get_or (texts_of rows) (m + 1) []) ≢ Less)
    → AreOrderedTo rows (m + 2) ⊎ HasFall rows
one_further rows m within so_far (inr falls) = inr (record { k = m; within = within; falls = falls })
one_further rows m within so_far (inl less) = inl (λ k inside. elim (cases_lt (k + 1) (m + 1)) [
  | inl before ↦ so_far k before
  | inr least ↦
      let last : m ≡ k = omega arith in
      subst (λ (j : ℕ). slice_cmp nat_cmp (get_or (texts_of rows) j []) (get_or (texts_of rows) (j + 1) []) ≡ Less) last less
])

further : (rows : List DemoRow) (n : ℕ) → suc n ≤ length rows → AreOrderedTo rows n ⊎ HasFall rows
    → AreOrderedTo rows (suc n) ⊎ HasFall rows
further rows n within (inr fall) = inr fall
further rows zero within (inl so_far) = inl (λ k inside. absurd (omega arith))
further rows (suc m) within (inl so_far) =
    let one : suc m ≡ m + 1 = omega arith in
    let two : m + 2 ≡ suc (suc m) = omega arith in
    subst (λ (n : ℕ). AreOrderedTo rows n ⊎ HasFall rows) two
    (one_further rows m (omega arith) (subst (AreOrderedTo rows) one so_far) (is_less (slice_cmp nat_cmp (get_or (texts_of rows) m []) (get_or (texts_of rows) (m + 1) []))))

look_through : (rows : List DemoRow) (n : ℕ) → n ≤ length rows → AreOrderedTo rows n ⊎ HasFall rows
look_through rows zero within = inl (λ k inside. absurd (omega arith))
look_through rows (suc n) within = further rows n within (look_through rows n (omega arith))

has_fall : (rows : List DemoRow) → (IsStrictlySortedBy (slice_cmp nat_cmp) (texts_of rows) → ⊥) → HasFall rows
has_fall rows not_sorted = elim (look_through rows (length rows) (omega arith)) [
  | inl all ↦ absurd (not_sorted (ordered_all rows (length rows) (omega arith) all))
  | inr fall ↦ fall
]

-- a row's path is before that of another one
abbrev pub is_before : DemoRow → DemoRow → Bool
is_before a b = is_lt (slice_cmp nat_cmp a.path.items b.path.items)

only_equal : (o p : Ordering) → o ≡ ordering_reverse p → is_lt p ≡ false → o ≢ Less → o ≡ Equal
only_equal o Less e p q = absurd cc
only_equal o Equal e p q = e
only_equal o Greater e p q = absurd (q e)

same_text : (v w : List ℕ) → is_lt (slice_cmp nat_cmp w v) ≡ false → slice_cmp nat_cmp v w ≢ Less → v ≡ w
same_text v w least other =
    let tied = only_equal (slice_cmp nat_cmp v w) (slice_cmp nat_cmp w v) (nat_list_cmp_total.antisymm v w) least other in
    (bytes_eq-Decides v w).0 (sym (is_eq-slice_cmp v w) ∙ ap is_eq tied)

-- ---- two rows

pub record HasItem (rows : List DemoRow) (k : ℕ) : Type 0 where
  pub row : DemoRow
  pub there : slice_get rows k ≡ Some row

pub item_at : (rows : List DemoRow) (k : ℕ) → k < length rows → HasItem rows k
item_at [] k within = absurd (omega arith)
item_at (row ∷ rows) zero within = record { row = row; there = refl }
item_at (row ∷ rows) (suc k) within = let r = item_at rows k (omega arith) in record { row = r.row; there = r.there }

-- two rows at different places
pub record HasPair (rows : List DemoRow) (a b : DemoRow) : Type 0 where
  pub i : ℕ
  pub j : ℕ
  pub apart : i ≢ j
  pub i_in : i < length rows
  pub j_in : j < length rows
  pub first : get_or rows i a ≡ a
  pub second : get_or rows j a ≡ b

-- where a swap of p and q took the row at m from
abbrev From : ℕ → ℕ → ℕ → ℕ → Type 0
From p q m k = ((m ≡ p) × (k ≡ q)) ⊎ (((m ≡ q) × (k ≡ p)) ⊎ ((m ≢ p) × (m ≢ q) × (k ≡ m)))

origin : (f g : ℕ → DemoRow) (p q m : ℕ) → Swapped f g p q → (m ≡ p) ⊎ (m ≢ p) → (m ≡ q) ⊎ (m ≢ q) → (k : ℕ) × From p q m k × (g m ≡ f k)
origin f g p q m s (inl e) y = (q, inl (e, refl), ap g e ∙ s.0)
origin f g p q m s (inr n) (inl e) = (p, inr (inl (e, refl)), ap g e ∙ s.1)
origin f g p q m s (inr n) (inr o) = (m, inr (inr (n, o, refl)), s.2 m n o)

pair_swapped : (rows : List DemoRow) (p q : ℕ) (a b : DemoRow) → p < length rows → q < length rows
    → HasPair (swap rows p q) a b → HasPair rows a b
pair_swapped rows p q a b p_in q_in h =
    let many = length-swap rows p q in
    let s = swapped_from_swap rows (swap rows p q) p q a p_in q_in refl in
    let x = origin (λ i. get_or rows i a) (λ i. get_or (swap rows p q) i a) p q h.i s (cases_eq h.i p) (cases_eq h.i q) in
    let y = origin (λ i. get_or rows i a) (λ i. get_or (swap rows p q) i a) p q h.j s (cases_eq h.j p) (cases_eq h.j q) in
    record {
      i = x.0;
      j = y.0;
      apart = λ e. h.apart (omega (arith, x.1, y.1, e));
      i_in = omega (arith, x.1, h.i_in);
      j_in = omega (arith, y.1, h.j_in);
      first = sym x.2 ∙ h.first;
      second = sym y.2 ∙ h.second;
    }

-- rows of a list in another order are two of the list
pub pair_back : (rows sorted : List DemoRow) (a b : DemoRow) → IsPermutation rows sorted → HasPair sorted a b → HasPair rows a b
pair_back rows sorted a b moved =
    IsPermutation-keeps rows (λ l. HasPair l a b → HasPair rows a b) (λ h. h) (λ l p q p_in q_in so_far h. so_far (pair_swapped l p q a b p_in q_in h)) sorted moved

-- two rows of one path
pub record HasTie (rows : List DemoRow) : Type 0 where
  pub a : DemoRow
  pub b : DemoRow
  pub pair : HasPair rows a b
  pub same : a.path.items ≡ b.path.items

pub has_tie : (rows : List DemoRow) → IsSortedBy is_before rows → (IsStrictlySortedBy (slice_cmp nat_cmp) (texts_of rows) → ⊥) → HasTie rows
has_tie rows sorted not_strict =
    let fall = has_fall rows not_strict in
    let x = item_at rows fall.k (omega (arith, fall.within)) in
    let y = item_at rows (fall.k + 1) fall.within in
    let first = get_or_from_slice_get rows fall.k x.row x.row x.there in
    let second = get_or_from_slice_get rows (fall.k + 1) y.row x.row y.there in
    let v : get_or (texts_of rows) fall.k [] ≡ x.row.path.items = read_text rows fall.k x.row (omega (arith, fall.within)) (sym first) in
    let w : get_or (texts_of rows) (fall.k + 1) [] ≡ y.row.path.items = read_text rows (fall.k + 1) y.row fall.within (sym (get_or_from_slice_get rows (fall.k + 1) y.row y.row y.there)) in
    let least : is_before y.row x.row ≡ false = ap₂ is_before (sym second) (sym first) ∙ sorted fall.k x.row (omega arith) fall.within in
    let other : slice_cmp nat_cmp x.row.path.items y.row.path.items ≢ Less = λ e. fall.falls (ap₂ (λ (s : List ℕ) (t : List ℕ). slice_cmp nat_cmp s t) v w ∙ e) in
    record {
      a = x.row;
      b = y.row;
      pair = record {
        i = fall.k;
        j = fall.k + 1;
        apart = λ e. omega arith;
        i_in = omega (arith, fall.within);
        j_in = fall.within;
        first = first;
        second = second;
      };
      same = same_text x.row.path.items y.row.path.items least other;
    }
