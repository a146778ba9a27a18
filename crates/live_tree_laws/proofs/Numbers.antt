-- The rows of a tree in memory, by path.
use Rattle.std.proofs.Common.{◌≡◌, ◌≢◌, ◌<◌, ℕ, zero, suc, Bool, true, false, List, [], ◌∷◌, Option, Some, None, IsSome, ◌==◌, refl, sym, ap, ap₂, ◌∙◌, subst, arith, true≢false}
use Rattle.std.proofs.lemmas.Bool.{eqb-true, eq-eqb}
use Rattle.std.specs.FinMap.{get}
use Rattle.std.specs.Option.{option_map, option_and_then}
use Rattle.tree_model.specs.Rows.{Content, Row, Rows, root}
use Rattle.clear_tree.specs.Walk.{Path, Sealing, Node, File, Link, Dir, Bad}
use Rattle.clear_tree.specs.Queue.{In}
use Rattle.clear_tree.specs.Rows as clear
use Rattle.clear_tree.specs.Kept.{What, kind_of, content_of, what_of, folder_in}
use Rattle.tree_deed_laws.specs.Trees.{Tree}
use Rattle.tree_deed_laws.specs.Shapes.{IsRowIn, IsRowAt, AreNumbered, IsShown, HasShape}
use Rattle.tree_deed_laws.proofs.Rows.{in_map, map_in}
use Rattle.live_tree.specs.Held.{HeldNode, HeldTree, node_of, live_row, live_rows, IsNamed, IsTree}
use Rattle.live_tree.proofs.Held.{in_found, found_in}
use Rattle.live_tree.proofs.Rows.{row_is, has_node}
use Rattle.live_tree_laws.specs.Holds.{IsAt, IsHeldAs, Holds, AreHeldContents}
use Rattle.live_tree_laws.specs.Found.{NodesHaveRows, RowsAreOfNodes, HeldRowsHaveShape}
use Rattle.live_tree_laws.proofs.Paths.{one_held}
use Rattle.live_tree_laws.proofs.Keeping.{one_node}

-- ---- a path leads to each number

module _ (live : HeldTree) (is : IsTree live) where
  root_held : (held : HeldNode) × (node_of live root ≡ Some held)
  root_held = (is.first.0, is.first.1.there)

  -- what a path leads to has a node
  pub at_held : (p : Path) (x : ℕ) → IsAt live p x → (held : HeldNode) × (node_of live x ≡ Some held)
  at_held [] x h = subst (λ (z : ℕ). (held : HeldNode) × (node_of live z ≡ Some held)) (sym h) root_held
  at_held (m ∷ q) x h = (h.2.node, h.2.child.there)

  parent_held : (o : Option HeldNode) → IsSome (option_and_then (λ (parent : HeldNode). folder_in parent.kept.what) o) → (held : HeldNode) × (o ≡ Some held)
  parent_held None h = absurd (true≢false (sym h))
  parent_held (Some held) h = (held, refl)

  reached_below : (fuel x : ℕ) (held : HeldNode) → x < fuel → node_of live x ≡ Some held → (p : Path) × IsAt live p x
  reached_below zero x held low there = absurd (omega (arith, low))
  reached_below (suc fuel) x held low there = go (x == root) refl (λ y v less at. reached_below fuel y v less at)
    where
      go : (b : Bool) → (x == root) ≡ b → ((y : ℕ) (v : HeldNode) → y < fuel → node_of live y ≡ Some v → (p : Path) × IsAt live p y) → (p : Path) × IsAt live p x
      go true e rest = ([], eqb-true x root e)
      go false e rest =
          let below : x ≢ root = (λ z. true≢false (sym (eq-eqb x root z) ∙ e)) in
          let up = is.parents x held there below in
          let before : held.kept.parent < x = up.before in
          let above = parent_held (node_of live held.kept.parent) up.folder in
          let under = rest held.kept.parent above.0 (omega (arith, before, low)) above.1 in
          (held.kept.name ∷ under.0, (held.kept.parent, under.1, record { node = held; child = record { there = there; below = below; inside = refl }; named = refl }))

  pub reached : (x : ℕ) (held : HeldNode) → node_of live x ≡ Some held → (p : Path) × IsAt live p x
  reached x held there = reached_below (suc x) x held (omega arith) there

  -- ---- rows
  module _ (contents : ℕ → Content) where
    abbrev rows : Rows
    rows = live_rows contents live

    abbrev IsRowOf : Row → Type 0
    IsRowOf row = (held : HeldNode) × (node_of live row.number ≡ Some held) × (row ≡ live_row contents (row.number, held))

    row_of_in : (row : Row) → In row rows.nodes → IsRowOf row
    row_of_in row h =
        let e = map_in (live_row contents) live.nodes row h in
        let number : e.0.0 ≡ row.number = ap (λ (r : Row). r.number) (sym e.2) in (
          e.0.1,
          subst (λ (k : ℕ). node_of live k ≡ Some e.0.1) number (in_found live.nodes e.0.0 e.0.1 is.ordered e.1),
          e.2 ∙ ap (λ (k : ℕ). live_row contents (k, e.0.1)) number,
        )

    in_rows : (x : ℕ) (held : HeldNode) → node_of live x ≡ Some held → In (live_row contents (x, held)) rows.nodes
    in_rows x held there = in_map (live_row contents) live.nodes (x, held) (found_in live.nodes x held there)

    pub row_at : (p : Path) (x : ℕ) (held : HeldNode) → IsAt live p x → node_of live x ≡ Some held → IsRowAt rows p (live_row contents (x, held))
    row_at [] x held h there = (in_rows x held there, h)
    row_at (m ∷ q) x held h there =
        let above = at_held q h.0 h.1 in
        let same : h.2.node ≡ held = one_held live x h.2.node held h.2.child.there there in (
          live_row contents (h.0, above.0),
          row_at q h.0 above.0 h.1 above.1,
          record {
            there = in_rows x held there;
            below = h.2.child.below;
            parent = ap (λ (z : HeldNode). z.kept.parent) (sym same) ∙ h.2.child.inside;
            named = ap (λ (z : HeldNode). z.kept.name) (sym same) ∙ h.2.named;
          },
        )

    named_in : (above row : Row) (n : List ℕ) → IsRowIn rows above n row → IsNamed live above.number n row.number
    named_in above row n h =
        let of = row_of_in row h.there in
        record {
          node = of.0;
          child = record { there = of.1; below = h.below; inside = ap (λ (r : Row). r.parent) (sym of.2) ∙ h.parent };
          named = ap (λ (r : Row). r.name) (sym of.2) ∙ h.named;
        }

    pub at_row : (p : Path) (row : Row) → IsRowAt rows p row → IsAt live p row.number × IsRowOf row
    at_row [] row h = (h.1, row_of_in row h.0)
    at_row (m ∷ q) row h = ((h.0.number, (at_row q h.0 h.1).0, named_in h.0 row m h.2), row_of_in row h.2.there)

    numbered : AreNumbered rows
    numbered = record {
      one = λ a b i j e. one a b (row_of_in a i) (row_of_in b j) e;
      names = λ a b i j ra rb pe ne. names a b (row_of_in a i) (row_of_in b j) ra rb pe ne;
      below = λ a i. let of = row_of_in a i in is.numbers a.number of.0 of.1;
      reached = λ a i. let of = row_of_in a i in let p = reached a.number of.0 of.1 in
          (p.0, subst (λ (r : Row). IsRowAt rows p.0 r) (sym of.2) (row_at p.0 a.number of.0 p.1 of.1));
    }
      where
        one : (a b : Row) → IsRowOf a → IsRowOf b → a.number ≡ b.number → a ≡ b
        one a b x y e =
            let same : x.0 ≡ y.0 = one_held live b.number x.0 y.0 (subst (λ (k : ℕ). node_of live k ≡ Some x.0) e x.1) y.1 in
            x.2 ∙ ap₂ (λ (k : ℕ) (n : HeldNode). live_row contents (k, n)) e same ∙ sym y.2

        named : (a : Row) (x : IsRowOf a) (parent : ℕ) (name : List ℕ) → a.number ≢ root → a.parent ≡ parent → a.name ≡ name → IsNamed live parent name a.number
        named a x parent name below pe ne = record {
          node = x.0;
          child = record { there = x.1; below = below; inside = ap (λ (r : Row). r.parent) (sym x.2) ∙ pe };
          named = ap (λ (r : Row). r.name) (sym x.2) ∙ ne;
        }

        names : (a b : Row) → IsRowOf a → IsRowOf b → a.number ≢ root → b.number ≢ root → a.parent ≡ b.parent → a.name ≡ b.name → a ≡ b
        names a b x y ra rb pe ne = one a b x y (is.names b.parent b.name a.number b.number (named a x b.parent b.name ra pe ne) (named b y b.parent b.name rb refl refl))

-- ---- the shape

same_kind : (s : Sealing) (x : Node) → kind_of (what_of s x) ≡ clear.kind_of x
same_kind s (File b) = refl
same_kind s (Link b) = refl
same_kind s (Dir i) = refl
same_kind s (Bad t) = refl

module _ (s : Sealing) (tree : Tree) (live : HeldTree) (contents : ℕ → Content) (holds : Holds s tree live) (are : AreHeldContents s tree live contents) where
  shown : (p : Path) (x : ℕ) (node : Node) (held : HeldNode) → IsAt live p x → get tree.nodes p ≡ Some node → IsHeldAs s tree p node held → IsShown s tree p node (live_row contents (x, held))
  shown p x node held at stands same_as = record {
    kind = ap kind_of same_as.what ∙ same_kind s node;
    content = ap (λ (w : What). content_of w (contents x)) same_as.what ∙ are p x node at stands;
    foreign = same_as.foreign;
    shadowed = same_as.shadowed;
  }

  shape : HasShape s tree (live_rows contents live)
  shape = record {
    numbered = numbered live holds.is_tree contents;
    rows_of = λ p x stands.
        let has = holds.numbers_of p x stands in
        let it = holds.nodes_of p has.number has.at in
        let same : it.node ≡ x = one_node tree p it.node x it.at stands in
        record {
          row = live_row contents (has.number, it.held);
          at = row_at live holds.is_tree contents p has.number it.held has.at it.there;
          shown = subst (λ (y : Node). IsShown s tree p y (live_row contents (has.number, it.held))) same (shown p has.number it.node it.held has.at it.at it.is);
        };
    nodes_of = λ p row h.
        let of = at_row live holds.is_tree contents p row h in
        let it = holds.nodes_of p row.number of.0 in
        let same : it.held ≡ of.1.0 = one_held live row.number it.held of.1.0 it.there of.1.1 in
        let form : live_row contents (row.number, it.held) ≡ row = ap (λ (n : HeldNode). live_row contents (row.number, n)) same ∙ sym of.1.2 in
        record { node = it.node; at = it.at; shown = subst (λ (r : Row). IsShown s tree p it.node r) form (shown p row.number it.node it.held of.0 it.at it.is) };
    twice = holds.twice;
  }

pub held_rows_have_shape : HeldRowsHaveShape
held_rows_have_shape s tree live contents holds are = shape s tree live contents holds are

pub nodes_have_rows : NodesHaveRows
nodes_have_rows live contents number held there = row_is contents live number ∙ ap (option_map (λ (node : HeldNode). live_row contents (number, node))) there

pub rows_are_of_nodes : RowsAreOfNodes
rows_are_of_nodes s tree live contents number row holds found =
    let has = has_node contents live number row found in
    let p = reached live holds.is_tree number has.node has.there in
    let it = holds.nodes_of p.0 number p.1 in
    let same : it.held ≡ has.node = one_held live number it.held has.node it.there has.there in
    record {
      path = p.0;
      at = p.1;
      node = it.node;
      stands = it.at;
      held = has.node;
      there = has.there;
      is = subst (λ (n : HeldNode). IsHeldAs s tree p.0 it.node n) same it.is;
      row_is = has.is;
      row_at = subst (λ (r : Row). IsRowAt (live_rows contents live) p.0 r) (sym has.is) (row_at live holds.is_tree contents p.0 number has.node p.1 has.there);
    }
