-- What holds of a tree that is built a node at a time.
use Rattle.std.proofs.Common.{◌≡◌, ◌≢◌, ℕ, zero, suc, ◌+◌, ◌-◌, ◌<◌, ◌≤◌, List, [], ◌∷◌, ◌++◌, length, get_or, slice_get, slice_set, Bool, Option, Some, IsSome, IsTrue, inl, inr, refl, sym, ap, ap₂, ◌∙◌, subst, arith}
use Rattle.std.specs.declared.cmp.Ordering.TheVariants.{Less, Equal}
use Rattle.std.specs.Option.{option_and_then}
use Rattle.std.proofs.lemmas.Bool.{cases_lt}
use Rattle.std.proofs.lemmas.Cmp.{tied_itself}
use Rattle.std.proofs.lemmas.Option.{slice_get-get_or, slice_get_within, slice_get_read, same_Some}
use Rattle.vault_path.specs.Parts.{is_part}
use Rattle.tree_model.specs.Rows.{root}
use Rattle.clear_tree.specs.Kept.{KeptNode, KeptTree, folder_in, node_of, parent_folder, IsNamed, IsTree}
use Rattle.clear_tree.specs.Built.{Place, place_of, place_cmp, AreInOrder, HasParent, AreKept, FitsBehind, marked_node, marked_at, with_foreign}
use Rattle.clear_tree.proofs.Order.{place_total}

abbrev pub tree_of : KeptNode → List KeptNode → Bool → KeptTree
tree_of first others twice = record { nodes = first ∷ others; twice = twice }

not_less_itself : (a b : Place) → place_cmp a b ≡ Less → a ≡ b → ⊥
not_less_itself a b less same =
    let equal : place_cmp a b ≡ Equal = ap (λ (p : Place). place_cmp p b) same ∙ tied_itself place_total b in
    absurd (cc (less, equal))

-- ---- the tree of kept nodes

module _ (first : KeptNode) (others : List KeptNode) (twice : Bool) (kept : AreKept first others) where
  parents_less : (number : ℕ) (node : KeptNode) → node_of (tree_of first others twice) number ≡ Some node → number ≢ root → node.parent < number
  parents_less zero node is below = absurd (below refl)
  parents_less (suc index) node is below = let up = (kept.parents index node is).before in omega arith

  own_folder : (parent : ℕ) → parent ≡ root → IsSome (option_and_then (λ (p : KeptNode). folder_in p.what) (slice_get (first ∷ others) parent))
  own_folder zero e = kept.folder
  own_folder (suc n) e = absurd cc

  all_folders : (number : ℕ) (node : KeptNode) → node_of (tree_of first others twice) number ≡ Some node → IsSome (parent_folder (tree_of first others twice) node)
  all_folders zero node is = own_folder node.parent (ap (λ (n : KeptNode). n.parent) (sym (same_Some first node is)) ∙ kept.own)
  all_folders (suc index) node is = (kept.parents index node is).folder

  same_index : (parent : ℕ) (name : List ℕ) (i j : ℕ) (a b : KeptNode) → slice_get others i ≡ Some a → slice_get others j ≡ Some b
      → place_of a ≡ place_of b → i ≡ j
  same_index parent name i j a b at_i at_j same = elim (cases_lt i j) [
    | inl low ↦ absurd (not_less_itself (place_of a) (place_of b) (kept.ordered i j a b low at_i at_j) same)
    | inr up ↦ elim (cases_lt j i) [
      | inl high ↦ absurd (not_less_itself (place_of b) (place_of a) (kept.ordered j i b a high at_j at_i) (sym same))
      | inr eq ↦ omega arith
    ]
  ]

  one_name : (parent : ℕ) (name : List ℕ) (a b : ℕ) → IsNamed (tree_of first others twice) parent name a → IsNamed (tree_of first others twice) parent name b → a ≡ b
  one_name parent name zero b x y = absurd (x.child.below refl)
  one_name parent name (suc i) zero x y = absurd (y.child.below refl)
  one_name parent name (suc i) (suc j) x y =
      ap suc (same_index parent name i j x.node y.node x.child.there y.child.there
      (ap₂ (λ (n : ℕ) (l : List ℕ). (n, l)) (x.child.inside ∙ sym y.child.inside) (x.named ∙ sym y.named)))

  pub whole_tree : IsTree (tree_of first others twice)
  whole_tree = record {
    first = (first, record { there = refl; own = kept.own; folder = kept.folder });
    parents = parents_less;
    folders = all_folders;
    names = one_name;
  }

-- ---- one node more

data AtEnd {A : Type 0} (xs : List A) (x : A) (i : ℕ) (y : A) : Type 0 where
  older : slice_get xs i ≡ Some y → AtEnd xs x i y
  newest : i ≡ length xs → x ≡ y → AtEnd xs x i y

at_end : {A : Type 0} (xs : List A) (x : A) (i : ℕ) (y : A) → slice_get (xs ++ x ∷ []) i ≡ Some y → AtEnd xs x i y
at_end [] x zero y is = newest refl (same_Some x y is)
at_end [] x (suc i) y is = absurd cc
at_end (z ∷ xs) x zero y is = older is
at_end (z ∷ xs) x (suc i) y is = elim (at_end xs x i y is) [
  | older there ↦ older there
  | newest e same ↦ newest (ap suc e) same
]

folder_of : KeptNode → Option (List ℕ)
folder_of node = folder_in node.what

longer : {A B : Type 0} (f : A → Option B) (xs ys : List A) (i : ℕ) → IsSome (option_and_then f (slice_get xs i)) → IsSome (option_and_then f (slice_get (xs ++ ys) i))
longer f [] ys i is = absurd cc
longer f (x ∷ xs) ys zero is = is
longer f (x ∷ xs) ys (suc i) is = longer f xs ys i is

inside_list : {A B : Type 0} (f : A → Option B) (xs : List A) (i : ℕ) → IsSome (option_and_then f (slice_get xs i)) → i < length xs
inside_list f [] i is = absurd cc
inside_list f (x ∷ xs) zero is = omega arith
inside_list f (x ∷ xs) (suc i) is = let rest = inside_list f xs i is in omega arith

pred_of : (n i : ℕ) → i < n → (m : ℕ) × (n ≡ suc m)
pred_of zero i low = absurd (omega arith)
pred_of (suc m) i low = (m, refl)

module _ (first : KeptNode) (others : List KeptNode) (twice : Bool) (kept : AreKept first others) (new : KeptNode) (fits : FitsBehind (tree_of first others twice) new) where
  last_before : (m : ℕ) → length others ≡ suc m → (last : KeptNode) → slice_get others m ≡ Some last → place_cmp (place_of last) (place_of new) ≡ Less
  last_before m len last is =
      let at : length (first ∷ others) - 1 ≡ suc m = omega arith in
      fits.behind last (subst (λ (k : ℕ). slice_get (first ∷ others) k ≡ Some last) (sym at) is) (λ e. absurd (omega arith))

  new_behind : (i : ℕ) (a : KeptNode) → slice_get others i ≡ Some a → place_cmp (place_of a) (place_of new) ≡ Less
  new_behind i a is =
      let inside : i < length others = slice_get_within others i a is in
      let m : (m : ℕ) × (length others ≡ suc m) = pred_of (length others) i inside in
      let m_len : length others ≡ suc m.0 = m.1 in
      let last_is : slice_get others m.0 ≡ Some (get_or others m.0 a) = slice_get-get_or others m.0 a (omega arith) in
      let less = last_before m.0 m.1 (get_or others m.0 a) last_is in
      elim (cases_lt i m.0) [
        | inl low ↦ place_total.trans (place_of a) (place_of (get_or others m.0 a)) (place_of new) (kept.ordered i m.0 a (get_or others m.0 a) low is last_is) less
        | inr up ↦
            let same : i ≡ m.0 = omega arith in
            let one : get_or others m.0 a ≡ a = same_Some (get_or others m.0 a) a (sym last_is ∙ ap (slice_get others) (sym same) ∙ is) in
            subst (λ (n : KeptNode). place_cmp (place_of n) (place_of new) ≡ Less) one less
      ]

  in_order : AreInOrder (others ++ new ∷ [])
  in_order i j a b low at_i at_j = elim (at_end others new i a at_i) [
    | older is_a ↦ elim (at_end others new j b at_j) [
      | older is_b ↦ kept.ordered i j a b low is_a is_b
      | newest e same ↦ subst (λ (n : KeptNode). place_cmp (place_of a) (place_of n) ≡ Less) same (new_behind i a is_a)
    ]
    | newest e same ↦ elim (at_end others new j b at_j) [
      | older is_b ↦ let inside = slice_get_within others j b is_b in absurd (omega arith)
      | newest e' same' ↦ absurd (omega arith)
    ]
  ]

  parent_of_new : HasParent first (others ++ new ∷ []) (length others) new
  parent_of_new = record {
    before = let within = inside_list (λ (p : KeptNode). folder_in p.what) (first ∷ others) new.parent fits.inside in omega arith;
    folder = longer (λ (p : KeptNode). folder_in p.what) (first ∷ others) (new ∷ []) new.parent fits.inside;
  }

  all_parents : (index : ℕ) (node : KeptNode) → slice_get (others ++ new ∷ []) index ≡ Some node → HasParent first (others ++ new ∷ []) index node
  all_parents index node is = elim (at_end others new index node is) [
    | older there ↦ record {
      before = (kept.parents index node there).before;
      folder = longer (λ (p : KeptNode). folder_in p.what) (first ∷ others) (new ∷ []) node.parent (kept.parents index node there).folder;
    }
    | newest e same ↦ subst (λ (n : KeptNode). HasParent first (others ++ new ∷ []) index n) same
        (subst (λ (k : ℕ). HasParent first (others ++ new ∷ []) k new) (sym e) parent_of_new)
  ]

  pub kept_with : AreKept first (others ++ new ∷ [])
  kept_with = record {
    own = kept.own;
    folder = kept.folder;
    ordered = in_order;
    parents = all_parents;
    entries = λ index node is. elim (at_end others new index node is) [
      | older there ↦ kept.entries index node there
      | newest e same ↦ subst (λ (n : KeptNode). IsTrue (is_part n.entry)) same fits.entry
    ];
  }

-- ---- another mark

-- a node that has at most another mark
record IsMarkOf (old new : KeptNode) : Type 0 where
  parent : new.parent ≡ old.parent
  name : new.name ≡ old.name
  entry : new.entry ≡ old.entry

mark_itself : (node : KeptNode) → IsMarkOf node node
mark_itself node = record { parent = refl; name = refl; entry = refl }

before_mark : (xs : List KeptNode) (i : ℕ) (foreign : Bool) (k : ℕ) (y : KeptNode) → slice_get (marked_at i foreign xs) k ≡ Some y
    → (x : KeptNode) × (slice_get xs k ≡ Some x) × IsMarkOf x y
before_mark [] i foreign k y is = absurd cc
before_mark (x ∷ xs) zero foreign zero y is = (x, refl, subst (IsMarkOf x) (same_Some (marked_node foreign x) y is) (record { parent = refl; name = refl; entry = refl }))
before_mark (x ∷ xs) zero foreign (suc k) y is = (y, is, mark_itself y)
before_mark (x ∷ xs) (suc i) foreign zero y is = (x, refl, subst (IsMarkOf x) (same_Some x y is) (mark_itself x))
before_mark (x ∷ xs) (suc i) foreign (suc k) y is = before_mark xs i foreign k y is

same_folders : (xs : List KeptNode) (i : ℕ) (foreign : Bool) (k : ℕ)
    → option_and_then (λ (p : KeptNode). folder_in p.what) (slice_get (marked_at i foreign xs) k) ≡ option_and_then (λ (p : KeptNode). folder_in p.what) (slice_get xs k)
same_folders [] i foreign k = refl
same_folders (x ∷ xs) zero foreign zero = refl
same_folders (x ∷ xs) zero foreign (suc k) = refl
same_folders (x ∷ xs) (suc i) foreign zero = refl
same_folders (x ∷ xs) (suc i) foreign (suc k) = same_folders xs i foreign k

same_places : (x x' y y' : KeptNode) → IsMarkOf x x' → IsMarkOf y y' → place_cmp (place_of x) (place_of y) ≡ Less → place_cmp (place_of x') (place_of y') ≡ Less
same_places x x' y y' mx my less =
    let ex : place_of x' ≡ place_of x = ap₂ (λ (n : ℕ) (l : List ℕ). (n, l)) mx.parent mx.name in
    let ey : place_of y' ≡ place_of y = ap₂ (λ (n : ℕ) (l : List ℕ). (n, l)) my.parent my.name in
    ap₂ place_cmp ex ey ∙ less

module _ (first : KeptNode) (others : List KeptNode) (kept : AreKept first others) (foreign : Bool) where
  pub kept_marked_root : AreKept (marked_node foreign first) others
  kept_marked_root = record {
    own = kept.own;
    folder = kept.folder;
    ordered = kept.ordered;
    parents = λ index node is. record {
      before = (kept.parents index node is).before;
      folder = subst IsSome (sym (same_folders (first ∷ others) zero foreign node.parent)) (kept.parents index node is).folder;
    };
    entries = kept.entries;
  }

  pub kept_marked : (i : ℕ) → AreKept first (marked_at i foreign others)
  kept_marked i = record {
    own = kept.own;
    folder = kept.folder;
    ordered = λ k l a b low at_k at_l.
        let x = before_mark others i foreign k a at_k in
        let y = before_mark others i foreign l b at_l in
        same_places x.0 a y.0 b x.2 y.2 (kept.ordered k l x.0 y.0 low x.1 y.1);
    parents = λ index node is.
        let x = before_mark others i foreign index node is in
        let has = kept.parents index x.0 x.1 in
        record {
          before = subst (λ (n : ℕ). n ≤ index) (sym x.2.parent) has.before;
          folder = subst (λ (n : ℕ). IsSome (option_and_then (λ (p : KeptNode). folder_in p.what) (slice_get (first ∷ marked_at i foreign others) n))) (sym x.2.parent)
              (subst IsSome (sym (same_folders (first ∷ others) (suc i) foreign x.0.parent)) has.folder);
        };
    entries = λ index node is.
        let x = before_mark others i foreign index node is in
        subst (λ (e : List ℕ). IsTrue (is_part e)) (sym x.2.entry) (kept.entries index x.0 x.1);
  }

-- a mark as a write at an index
pub mark_is_set : (xs : List KeptNode) (i : ℕ) (foreign : Bool) (x : KeptNode) → slice_get xs i ≡ Some x → slice_set xs i (marked_node foreign x) ≡ marked_at i foreign xs
mark_is_set [] i foreign x is = absurd cc
mark_is_set (y ∷ xs) zero foreign x is = ap (λ (n : KeptNode). marked_node foreign n ∷ xs) (sym (same_Some y x is))
mark_is_set (y ∷ xs) (suc i) foreign x is = ap (λ (l : List KeptNode). y ∷ l) (mark_is_set xs i foreign x is)

-- a node that was written over with its mark
pub written_is : (xs : List KeptNode) (i : ℕ) (foreign : Bool) (x new : KeptNode) → slice_get xs i ≡ Some x → new ≡ marked_node foreign x
    → slice_set xs i new ≡ marked_at i foreign xs
written_is xs i foreign x new is same = ap (λ (n : KeptNode). slice_set xs i n) same ∙ mark_is_set xs i foreign x is

pub kept_written : (first : KeptNode) (others : List KeptNode) → AreKept first others → (i : ℕ) (foreign : Bool) (x new : KeptNode) → slice_get others i ≡ Some x
    → new ≡ marked_node foreign x → AreKept first (slice_set others i new)
kept_written first others kept i foreign x new is same = subst (AreKept first) (sym (written_is others i foreign x new is same)) (kept_marked first others kept foreign i)

pub tree_written : (first : KeptNode) (others : List KeptNode) (twice : Bool) (number i : ℕ) (foreign : Bool) (x new : KeptNode) → number ≡ suc i → slice_get others i ≡ Some x
    → new ≡ marked_node foreign x → tree_of first (slice_set others i new) twice ≡ with_foreign (tree_of first others twice) number foreign
tree_written first others twice number i foreign x new numbered is same =
    ap (λ (l : List KeptNode). tree_of first l twice) (written_is others i foreign x new is same)
    ∙ ap (λ (n : ℕ). with_foreign (tree_of first others twice) n foreign) (sym numbered)

-- the node at an index after the root
pub node_read : (tree : KeptTree) (first : KeptNode) (others : List KeptNode) (twice : Bool) (number i : ℕ) (x : KeptNode) → tree_of first others twice ≡ tree → number < length tree.nodes
    → 1 ≤ number → i ≡ number - 1 → x ≡ get_or others i x → slice_get others i ≡ Some x
node_read tree first others twice number i x is inside low at there =
    let within : number < length (first ∷ others) = subst (λ (t : KeptTree). number < length t.nodes) (sym is) inside in
    slice_get_read others (length others) i x refl (omega arith) there
