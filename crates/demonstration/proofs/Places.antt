-- Nodes of a tree as it was loaded, as rows at paths.
use Rattle.std.proofs.Common.{◌≡◌, ◌≢◌, ℕ, zero, suc, ◌+◌, List, [], ◌∷◌, ◌++◌, length, Option, Some, refl, sym, ap, ap₂, subst, ◌∙◌, inl, inr, arith}
use Rattle.std.specs.Prelude.{slice_get}
use Rattle.outside.specs.Disk.{Disk}
use Rattle.vault_keys.specs.Keys.{KeyPair}
use Rattle.tree_model.specs.Rows.{Content, Row, Rows, root}
use Rattle.clear_tree.specs.Walk.{Path}
use Rattle.clear_tree.specs.Queue.{In}
use Rattle.clear_tree.specs.Kept.{KeptNode, KeptTree, node_of, row_of, rows_from, tree_rows}
use Rattle.tree_deed_laws.specs.Shapes.{AreNumbered, IsRowAt}
use Rattle.demonstration.specs.declared.rows.DemoRow.{DemoRow}
use Rattle.demonstration.specs.Left.{path_text}
use Rattle.demonstration.specs.Nodes.{IsPlaceOf, IsTextBelow, in_root, below, AreRowsOf, IsRowOf}

-- ---- rows by number

row_in : (contents : ℕ → Content) (now first k : ℕ) (nodes : List KeptNode) (node : KeptNode) → slice_get nodes k ≡ Some node
    → In (row_of contents now (first + k) node) (rows_from contents now first nodes)
row_in contents now first k [] node h = absurd cc
row_in contents now first zero (n ∷ nodes) node h =
    let same : n ≡ node = cc in
    let at : first + 0 ≡ first = omega arith in
    inl (ap (λ (k : ℕ). row_of contents now k node) at ∙ ap (λ (m : KeptNode). row_of contents now first m) (sym same))
row_in contents now first (suc k) (n ∷ nodes) node h =
    let at : suc first + k ≡ first + suc k = omega arith in
    inr (subst (λ (m : ℕ). In (row_of contents now m node) (rows_from contents now (suc first) nodes)) at (row_in contents now (suc first) k nodes node h))

-- a row of the tree's is that of a node
pub record IsOfNumber (contents : ℕ → Content) (now first : ℕ) (nodes : List KeptNode) (row : Row) : Type 0 where
  pub k : ℕ
  pub node : KeptNode
  pub there : slice_get nodes k ≡ Some node
  pub is : row ≡ row_of contents now (first + k) node

pub in_row : (contents : ℕ → Content) (now first : ℕ) (nodes : List KeptNode) (row : Row) → In row (rows_from contents now first nodes) → IsOfNumber contents now first nodes row
in_row contents now first [] row h = absurd h
in_row contents now first (n ∷ nodes) row (inl e) =
    let at : first ≡ first + 0 = omega arith in
    record { k = 0; node = n; there = refl; is = e ∙ ap (λ (m : ℕ). row_of contents now m n) at }
in_row contents now first (n ∷ nodes) row (inr h) =
    let r = in_row contents now (suc first) nodes row h in
    let at : suc first + r.k ≡ first + suc r.k = omega arith in
    record { k = suc r.k; node = r.node; there = r.there; is = r.is ∙ ap (λ (m : ℕ). row_of contents now m r.node) at }

pub one_node : (a b : KeptNode) → ◌≡◌ {A = Option KeptNode} (Some a) (Some b) → a ≡ b
one_node a b e = cc

-- the node of the last step of a path's parent
record HasParent (tree : KeptTree) (number : ℕ) : Type 0 where
  parent : KeptNode
  there : node_of tree number ≡ Some parent

pub row_there : (contents : ℕ → Content) (now : ℕ) (tree : KeptTree) (number : ℕ) (node : KeptNode) → node_of tree number ≡ Some node
    → In (row_of contents now number node) (tree_rows contents now tree).nodes
row_there contents now tree number node h =
    let at : 0 + number ≡ number = omega arith in
    subst (λ (k : ℕ). In (row_of contents now k node) (rows_from contents now 0 tree.nodes)) at (row_in contents now 0 number tree.nodes node h)

module _ (contents : ℕ → Content) (now : ℕ) (tree : KeptTree) (first : KeptNode) (first_is : node_of tree root ≡ Some first) where
  has_parent : (above : Path) (number : ℕ) → IsPlaceOf tree number above → HasParent tree number
  has_parent [] number at = record { parent = first; there = ap (node_of tree) at ∙ first_is }
  has_parent (m ∷ above) number at = record { parent = at.0; there = at.1 }

  -- a path leads to a node's row, if it leads to the node
  pub place_row : (path : Path) (number : ℕ) (node : KeptNode) → node_of tree number ≡ Some node → IsPlaceOf tree number path → IsRowAt (tree_rows contents now tree) path (row_of contents now number node)
  place_row [] number node there at = (row_there contents now tree number node there, at)
  place_row (name ∷ above) number node there at =
      let same : at.0 ≡ node = one_node at.0 node (sym at.1 ∙ there) in
      let up = has_parent above at.0.parent at.4 in (
        row_of contents now at.0.parent up.parent,
        place_row above at.0.parent up.parent up.there at.4,
        record {
          there = row_there contents now tree number node there;
          below = at.2;
          parent = ap (λ (n : KeptNode). n.parent) (sym same);
          named = ap (λ (n : KeptNode). n.name) (sym same) ∙ at.3;
        },
      )

-- ---- one path leads to a row

pub one_path : (rows : Rows) → AreNumbered rows → (p q : Path) (row : Row) → IsRowAt rows p row → IsRowAt rows q row → p ≡ q
one_path rows numbered [] [] row a b = refl
one_path rows numbered [] (m ∷ q) row a b = absurd (b.2.below a.1)
one_path rows numbered (n ∷ p) [] row a b = absurd (a.2.below b.1)
one_path rows numbered (n ∷ p) (m ∷ q) row a b =
    let up : a.0 ≡ b.0 = numbered.one a.0 b.0 (row_at rows p a.0 a.1) (row_at rows q b.0 b.1) (sym a.2.parent ∙ b.2.parent) in
    let above : p ≡ q = one_path rows numbered p q a.0 a.1 (subst (λ (r : Row). IsRowAt rows q r) (sym up) b.1) in
    ap₂ (λ (x : List ℕ) (y : Path). x ∷ y) (sym a.2.named ∙ b.2.named) above
  where
    row_at : (rows : Rows) (p : Path) (row : Row) → IsRowAt rows p row → In row rows.nodes
    row_at rows [] row h = h.0
    row_at rows (n ∷ p) row h = h.2.there

-- and one row is at a path
pub one_row : (rows : Rows) → AreNumbered rows → (p : Path) (a b : Row) → IsRowAt rows p a → IsRowAt rows p b → a ≡ b
one_row rows numbered [] a b x y = numbered.one a b x.0 y.0 (x.1 ∙ sym y.1)
one_row rows numbered (n ∷ p) a b x y =
    let up : x.0 ≡ y.0 = one_row rows numbered p x.0 y.0 x.1 y.1 in
    numbered.names a b x.2.there y.2.there x.2.below y.2.below (x.2.parent ∙ ap (λ (r : Row). r.number) up ∙ sym y.2.parent) (x.2.named ∙ sym y.2.named)

-- ---- paths as text

-- a path to a node, as this text
pub record HasPath (tree : KeptTree) (number : ℕ) (text : List ℕ) : Type 0 where
  pub path : Path
  pub at : IsPlaceOf tree number path
  pub is : text ≡ path_text path

module _ (tree : KeptTree) (number : ℕ) (node : KeptNode) (there : node_of tree number ≡ Some node) (behind : number ≢ root) where
  under : (i : ℕ) (path : Path) (above text : List ℕ) → node.parent ≡ suc i → IsPlaceOf tree (suc i) path → above ≡ path_text path → text ≡ above ++ 47 ∷ node.name
      → HasPath tree number text
  under i [] above text parent at is joined = let e : suc i ≡ 0 = at in absurd (omega arith)
  under i (m ∷ path) above text parent at is joined = record {
    path = node.name ∷ m ∷ path;
    at = (node, there, behind, refl, subst (λ (n : ℕ). IsPlaceOf tree n (m ∷ path)) (sym parent) at);
    is = joined ∙ ap (λ (w : List ℕ). w ++ 47 ∷ node.name) is;
  }

  pub text_path : (keys : KeyPair) (disk : Option Disk) (rows : List DemoRow) (text : List ℕ) → AreRowsOf keys disk tree rows → IsTextBelow rows node.parent node.name text
      → HasPath tree number text
  text_path keys disk rows text all (in_root parent is) = record { path = node.name ∷ []; at = (node, there, behind, refl, parent); is = is }
  text_path keys disk rows text all (below i above parent at is) =
      let row = all i above at in
      under i row.path above.path.items text parent row.at row.text is

-- ---- one row more

data IsPushedAt (rows : List DemoRow) (last : DemoRow) (i : ℕ) (row : DemoRow) : Type 0 where
  old : slice_get rows i ≡ Some row → IsPushedAt rows last i row
  new : i ≡ length rows → last ≡ row → IsPushedAt rows last i row

pushed_at : (rows : List DemoRow) (last : DemoRow) (i : ℕ) (row : DemoRow) → slice_get (rows ++ last ∷ []) i ≡ Some row → IsPushedAt rows last i row
pushed_at [] last zero row there = new refl cc
pushed_at [] last (suc i) row there = absurd cc
pushed_at (first ∷ rows) last zero row there = old there
pushed_at (first ∷ rows) last (suc i) row there = behind (pushed_at rows last i row there)
  where
    behind : IsPushedAt rows last i row → IsPushedAt (first ∷ rows) last (suc i) row
    behind (old h) = old h
    behind (new h e) = new (ap suc h) e

pub rows_pushed : (keys : KeyPair) (disk : Option Disk) (tree : KeptTree) (rows : List DemoRow) (last : DemoRow) (number : ℕ) → length rows + 1 ≡ number → AreRowsOf keys disk tree rows
    → IsRowOf keys disk tree number last → AreRowsOf keys disk tree (rows ++ last ∷ [])
rows_pushed keys disk tree rows last number many all is = λ i row there. at i row (pushed_at rows last i row there)
  where
    at : (i : ℕ) (row : DemoRow) → IsPushedAt rows last i row → IsRowOf keys disk tree (suc i) row
    at i row (old h) = all i row h
    at i row (new h e) =
        let same : number ≡ suc i = omega arith in
        subst (λ (n : ℕ). IsRowOf keys disk tree n row) same (subst (λ (r : DemoRow). IsRowOf keys disk tree number r) e is)
