-- The rows that a disk stands for have the shape of its tree.
use Rattle.std.specs.Prelude.{T}
use Rattle.std.proofs.Common.{◌≡◌, ◌≢◌, ◌↔◌, ◌<◌, ◌+◌, arith, ℕ, zero, suc, List, [], ◌∷◌, length, Option, Some, None, IsTrue, refl, sym, ap, ap₂, ◌∙◌, subst, inl, inr, true≢false, slice_get}
use Rattle.std.specs.FinMap.{get, entries, get-entries, entries_sorted, len-entries}
use Rattle.std.specs.FinMap.Entries.{is_sorted}
use Rattle.std.proofs.lemmas.Option.{slice_get_within}
use Rattle.outside.specs.Disk.{Disk, Node as Thing}
use Rattle.tree_model.specs.Rows.{Row, Rows, root}
use Rattle.clear_tree.specs.Walk.{Path, walk_cmp, Sealing, Node, Dir, node_at}
use Rattle.clear_tree.specs.Places.{folders_of, entry_at}
use Rattle.clear_tree.specs.Queue.{In}
use Rattle.clear_tree.specs.Rows.{number_of, row_of, rows_from, rows_of, IsClear}
use Rattle.clear_tree.specs.Kept.{is_absent, long_in, long_by}
use Rattle.clear_tree.proofs.Keeping.{find_at, number_at, number_is, first_zero}
use Rattle.tree_deed_laws.specs.Trees.{Tree, IsTreeOf}
use Rattle.tree_deed_laws.specs.Shapes.{IsRowAt, AreNumbered, IsShown, HasShape, HasAlike, SameShape, ClearRowsHaveTree, ShapesAreOfClearRows}
use Rattle.tree_deed_laws.proofs.Seeing.{some_there}
use Rattle.tree_deed_laws.proofs.Exact.{parent_there}

abbrev Entry : Type 0
Entry = Path × Node

module _ (s : Sealing) (d : Disk) (now : ℕ) (tree : Tree) (is : IsTreeOf s d tree) where
  abbrev es : List Entry
  es = entries tree.nodes

  abbrev rows : Rows
  rows = rows_of s now tree.nodes tree.marks

  abbrev row_at : ℕ → Entry → Row
  row_at k e = row_of s now tree.marks es k e

  sorted : T (is_sorted walk_cmp es)
  sorted = entries_sorted tree.nodes

  -- ---- rows and entries by number

  in_from : (fs : List Entry) (m : ℕ) (a : Row) → In a (rows_from s now tree.marks es m fs) → (k : ℕ) × (e : Entry) × (slice_get fs k ≡ Some e) × (a ≡ row_at (m + k) e)
  in_from [] m a h = absurd h
  in_from (f ∷ fs) m a (inl h) = (0, f, refl, h ∙ ap (λ (z : ℕ). row_at z f) (omega arith))
  in_from (f ∷ fs) m a (inr h) =
      let r = in_from fs (suc m) a h in
      let k : ℕ = r.0 in
      (suc k, r.1, r.2, r.3 ∙ ap (λ (z : ℕ). row_at z r.1) (omega arith))

  from_in : (fs : List Entry) (m k j : ℕ) (e : Entry) → slice_get fs k ≡ Some e → j ≡ m + k → In (row_at j e) (rows_from s now tree.marks es m fs)
  from_in [] m k j e h sum = absurd (cc)
  from_in (f ∷ fs) m zero j e h sum =
      let same : f ≡ e = cc in
      inl (ap₂ (λ (z : ℕ) (w : Entry). row_at z w) (omega (arith, sum)) (sym same))
  from_in (f ∷ fs) m (suc k) j e h sum = inr (from_in fs (suc m) k j e h (omega (arith, sum)))

  row_there : (k : ℕ) (e : Entry) → slice_get es k ≡ Some e → In (row_at k e) rows.nodes
  row_there k e h = from_in es 0 k k e h (omega arith)

  row_is : (a : Row) → In a rows.nodes → (k : ℕ) × (e : Entry) × (slice_get es k ≡ Some e) × (a ≡ row_at k e)
  row_is a h =
      let r = in_from es 0 a h in
      let k : ℕ = r.0 in
      (r.0, r.1, r.2, r.3 ∙ ap (λ (z : ℕ). row_at z r.1) (omega arith))

  node_number : (p : Path) (x : Node) → get tree.nodes p ≡ Some x → slice_get es (number_of es p) ≡ Some (p, x)
  node_number p x h = number_at es p x (sym (get-entries tree.nodes p) ∙ h)

  node_is : (k : ℕ) (e : Entry) → slice_get es k ≡ Some e → get tree.nodes e.0 ≡ Some e.1
  node_is k e h = get-entries tree.nodes e.0 ∙ find_at es k e.0 e.1 sorted h

  one_path : (p q : Path) (x y : Node) → get tree.nodes p ≡ Some x → get tree.nodes q ≡ Some y → number_of es p ≡ number_of es q → p ≡ q
  one_path p q x y hp hq e =
      let w : ◌≡◌ {A = Option Entry} (Some (p, x)) (Some (q, y)) = sym (node_number p x hp) ∙ ap (slice_get es) e ∙ node_number q y hq in
      let pair : ◌≡◌ {A = Entry} (p, x) (q, y) = cc in
      ap (λ (z : Entry). z.0) pair

  -- ---- the root comes first

  root_there : get tree.nodes [] ≡ Some (Dir [])
  unfolding node_at
  root_there = is.exact []

  root_number : number_of es [] ≡ 0
  root_number = first_zero es (number_of es []) (Dir []) sorted (node_number [] (Dir []) root_there)

  not_root : (m : List ℕ) (q : Path) (x : Node) → get tree.nodes (m ∷ q) ≡ Some x → number_of es (m ∷ q) ≢ root
  not_root m q x h e = let z : m ∷ q ≡ [] = one_path (m ∷ q) [] x (Dir []) h root_there (e ∙ sym root_number) in cc

  parent_node : (m : List ℕ) (q : Path) (x : Node) → get tree.nodes (m ∷ q) ≡ Some x → (j : List ℕ) × (get tree.nodes q ≡ Some (Dir j))
  parent_node m q x h =
      let r = parent_there s (folders_of s d) is.owner q m x (sym (is.exact (m ∷ q)) ∙ h) in
      (r.0, is.exact q ∙ r.1)

  -- ---- paths

  path_row : (p : Path) (x : Node) → get tree.nodes p ≡ Some x → IsRowAt rows p (row_at (number_of es p) (p, x))
  path_row [] x h = (row_there (number_of es []) ([], x) (node_number [] x h), root_number)
  path_row (m ∷ q) x h =
      let up = parent_node m q x h in (
        row_at (number_of es q) (q, Dir up.0),
        path_row q (Dir up.0) up.1,
        record { there = row_there (number_of es (m ∷ q)) (m ∷ q, x) (node_number (m ∷ q) x h); below = not_root m q x h; parent = refl; named = refl },
      )

  entry_row : (k : ℕ) (e : Entry) → slice_get es k ≡ Some e → IsRowAt rows e.0 (row_at k e)
  entry_row k e h = subst (λ (z : ℕ). IsRowAt rows e.0 (row_at z e)) (number_is es k e sorted h) (path_row e.0 e.1 (node_is k e h))

  row_path : (p : Path) (a : Row) → IsRowAt rows p a → (x : Node) × (get tree.nodes p ≡ Some x) × (a ≡ row_at (number_of es p) (p, x))
  row_path [] a h = go (row_is a h.0)
    where
      go : (k : ℕ) × (e : Entry) × (slice_get es k ≡ Some e) × (a ≡ row_at k e) → (x : Node) × (get tree.nodes [] ≡ Some x) × (a ≡ row_at (number_of es []) ([], x))
      go (k, e, at, form) =
          let zero_is : k ≡ 0 = sym (ap (λ (r : Row). r.number) form) ∙ h.1 in
          let w : ◌≡◌ {A = Option Entry} (Some e) (Some ([], Dir [])) = sym at ∙ ap (slice_get es) (zero_is ∙ sym root_number) ∙ node_number [] (Dir []) root_there in
          let same : ◌≡◌ {A = Entry} e ([], Dir []) = cc in
          (Dir [], root_there, form ∙ ap₂ (λ (z : ℕ) (y : Entry). row_at z y) (zero_is ∙ sym root_number) same)
  row_path (n ∷ p) a h = below (row_path p h.0 h.1) (row_is a h.2.there)
    where
      below : (y : Node) × (get tree.nodes p ≡ Some y) × (h.0 ≡ row_at (number_of es p) (p, y)) → (k : ℕ) × (e : Entry) × (slice_get es k ≡ Some e) × (a ≡ row_at k e)
          → (x : Node) × (get tree.nodes (n ∷ p) ≡ Some x) × (a ≡ row_at (number_of es (n ∷ p)) (n ∷ p, x))
      below (y, at_y, up) (k, ([], x), at, form) =
          absurd (h.2.below (ap (λ (r : Row). r.number) form ∙ sym (number_is es k ([], x) sorted at) ∙ root_number))
      below (y, at_y, up) (k, (m ∷ q, x), at, form) =
          let it : get tree.nodes (m ∷ q) ≡ Some x = node_is k (m ∷ q, x) at in
          let above = parent_node m q x it in
          let numbers : number_of es q ≡ number_of es p = sym (ap (λ (r : Row). r.parent) form) ∙ h.2.parent ∙ ap (λ (r : Row). r.number) up in
          let eq : q ≡ p = one_path q p (Dir above.0) y above.1 at_y numbers in
          let em : m ≡ n = sym (ap (λ (r : Row). r.name) form) ∙ h.2.named in
          let path : m ∷ q ≡ n ∷ p = ap₂ (λ (u : List ℕ) (w : Path). u ∷ w) em eq in
          let num : k ≡ number_of es (n ∷ p) = sym (number_is es k (m ∷ q, x) sorted at) ∙ ap (number_of es) path in
          (x, ap (get tree.nodes) (sym path) ∙ it, form ∙ ap₂ (λ (z : ℕ) (w : Path). row_at z (w, x)) num path)

  shown_row : (k : ℕ) (p : Path) (x : Node) → IsShown s tree p x (row_at k (p, x))
  shown_row k p x = record { kind = refl; content = refl; foreign = refl; shadowed = refl }

  numbered : AreNumbered rows
  numbered = record {
    one = λ a b i j e. one a b (row_is a i) (row_is b j) e;
    names = λ a b i j ra rb pe ne. names a b (row_is a i) (row_is b j) ra rb pe ne;
    below = λ a i. let r = row_is a i in
        subst (λ (z : ℕ). a.number < z) (sym (len-entries tree.nodes)) (subst (λ (z : ℕ). z < length es) (sym (ap (λ (w : Row). w.number) r.3)) (slice_get_within es r.0 r.1 r.2));
    reached = λ a i. let r = row_is a i in (r.1.0, subst (λ (z : Row). IsRowAt rows r.1.0 z) (sym r.3) (entry_row r.0 r.1 r.2));
  }
    where
      one : (a b : Row) → (k : ℕ) × (e : Entry) × (slice_get es k ≡ Some e) × (a ≡ row_at k e) → (j : ℕ) × (f : Entry) × (slice_get es j ≡ Some f) × (b ≡ row_at j f) → a.number ≡ b.number → a ≡ b
      one a b (k, e, at, form) (j, f, at', form') is =
          let num : k ≡ j = sym (ap (λ (w : Row). w.number) form) ∙ is ∙ ap (λ (w : Row). w.number) form' in
          let w : ◌≡◌ {A = Option Entry} (Some e) (Some f) = sym at ∙ ap (slice_get es) num ∙ at' in
          let same : e ≡ f = cc in
          form ∙ ap₂ (λ (z : ℕ) (y : Entry). row_at z y) num same ∙ sym form'

      names : (a b : Row) → (k : ℕ) × (e : Entry) × (slice_get es k ≡ Some e) × (a ≡ row_at k e) → (j : ℕ) × (f : Entry) × (slice_get es j ≡ Some f) × (b ≡ row_at j f)
          → a.number ≢ root → b.number ≢ root → a.parent ≡ b.parent → a.name ≡ b.name → a ≡ b
      names a b (k, ([], x), at, form) w ra rb pe ne = absurd (ra (ap (λ (r : Row). r.number) form ∙ sym (number_is es k ([], x) sorted at) ∙ root_number))
      names a b (k, (m ∷ q, x), at, form) (j, ([], y), at', form') ra rb pe ne = absurd (rb (ap (λ (r : Row). r.number) form' ∙ sym (number_is es j ([], y) sorted at') ∙ root_number))
      names a b (k, (m ∷ q, x), at, form) (j, (l ∷ p, y), at', form') ra rb pe ne =
          let up = parent_node m q x (node_is k (m ∷ q, x) at) in
          let up' = parent_node l p y (node_is j (l ∷ p, y) at') in
          let eq : q ≡ p = one_path q p (Dir up.0) (Dir up'.0) up.1 up'.1 (sym (ap (λ (r : Row). r.parent) form) ∙ pe ∙ ap (λ (r : Row). r.parent) form') in
          let em : m ≡ l = sym (ap (λ (r : Row). r.name) form) ∙ ne ∙ ap (λ (r : Row). r.name) form' in
          let path : m ∷ q ≡ l ∷ p = ap₂ (λ (u : List ℕ) (w : Path). u ∷ w) em eq in
          let num : k ≡ j = sym (number_is es k (m ∷ q, x) sorted at) ∙ ap (number_of es) path ∙ number_is es j (l ∷ p, y) sorted at' in
          let w : ◌≡◌ {A = Option Entry} (Some (m ∷ q, x)) (Some (l ∷ p, y)) = sym at ∙ ap (slice_get es) num ∙ at' in
          let same : ◌≡◌ {A = Entry} (m ∷ q, x) (l ∷ p, y) = cc in
          form ∙ ap₂ (λ (z : ℕ) (y : Entry). row_at z y) num same ∙ sym form'

  pub clear_shape : HasShape s tree rows
  clear_shape = record {
    numbered = numbered;
    rows_of = λ p x h. record { row = row_at (number_of es p) (p, x); at = path_row p x h; shown = shown_row (number_of es p) p x };
    nodes_of = λ p a h. let r = row_path p a h in
        record { node = r.0; at = r.1; shown = subst (λ (z : Row). IsShown s tree p r.0 z) (sym r.2) (shown_row (number_of es p) p r.0) };
    twice = refl;
  }

  pub clear_rows : IsClear s d now rows
  clear_rows = record { owner = is.owner; nodes = tree.nodes; marks = tree.marks; there = is.there; first = is.first; exact = is.exact; marked = is.marked; rows_are = refl }

-- ---- rows of one tree

one_node : (x y : Node) → ◌≡◌ {A = Option Node} (Some x) (Some y) → x ≡ y
one_node x y e = cc

pub same_shape : (s : Sealing) (tree : Tree) (a b : Rows) → HasShape s tree a → HasShape s tree b → SameShape a b
same_shape s tree a b x y = record {
  forth = λ p row h. pair a b x y p row h;
  back = λ p row h. pair b a y x p row h;
  twice = x.twice ∙ sym y.twice;
}
  where
    pair : (a b : Rows) → HasShape s tree a → HasShape s tree b → (p : Path) (row : Row) → IsRowAt a p row → HasAlike b p row
    pair a b x y p row h =
        let n = x.nodes_of p row h in
        let r = y.rows_of p n.node n.at in
        record {
          other = r.row;
          at = r.at;
          alike = record {
            kind = n.shown.kind ∙ sym r.shown.kind;
            content = n.shown.content ∙ sym r.shown.content;
            foreign = n.shown.foreign ∙ sym r.shown.foreign;
            shadowed = n.shown.shadowed ∙ sym r.shown.shadowed;
          };
        }

pub shapes_are_of_clear_rows : ShapesAreOfClearRows
shapes_are_of_clear_rows s d tree rows now is shape = record {
  clear = rows_of s now tree.nodes tree.marks;
  is = clear_rows s d now tree is;
  same = same_shape s tree rows (rows_of s now tree.nodes tree.marks) shape (clear_shape s d now tree is);
}

absent : (o : Option Thing) → IsTrue (is_absent o) ↔ (o ≡ None)
absent None = ((λ h. refl), (λ h. refl))
absent (Some x) = ((λ h. absurd (true≢false (sym h))), (λ h. absurd (some_there _ _ refl h)))

pub clear_rows_have_tree : ClearRowsHaveTree
clear_rows_have_tree s d now rows clear host = record {
  tree = tree;
  is = is;
  shape = subst (λ (z : Rows). HasShape s tree z) (sym clear.rows_are) (clear_shape s d now tree is);
}
  where
    tree : Tree
    tree = record { nodes = clear.nodes; marks = clear.marks; long = long_by s d clear.nodes }

    is : IsTreeOf s d tree
    is = record {
      owner = clear.owner;
      host = host;
      there = clear.there;
      first = clear.first;
      exact = clear.exact;
      marked = clear.marked;
      placed = λ n p i x at there. subst (λ (o : Option Node). IsTrue (long_in s d o n) ↔ (entry_at s d (s.folder_of i) (s.seal i n) ≡ None)) (sym at) (absent _);
    }
