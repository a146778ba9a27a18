-- Rows by path, in rows whose versions differ beyond 2^32.
use Rattle.std.proofs.Common.{◌≡◌, ◌≢◌, ◌<◌, ℕ, List, [], ◌∷◌, map, refl, sym, ap, ◌∙◌, subst, inl, inr}
use Rattle.tree_model.specs.Rows.{Row, Rows, root}
use Rattle.clear_tree.specs.Walk.{Path, Sealing, Node}
use Rattle.clear_tree.specs.Queue.{In}
use Rattle.tree_deed_laws.specs.Trees.{Tree}
use Rattle.tree_deed_laws.specs.Shapes.{IsRowAt, AreNumbered, IsShown, HasRow, HasNode, AreAlike, HasAlike}
use Rattle.tree_deed_laws.proofs.Rows.{in_map, map_in}
use Rattle.version_laws.specs.RowVersions.{wrapped_row, wrapped}
use Rattle.version_laws.specs.ShapeVersions.{PathsLeadToSameRows, ShapesAreSame, AreApart, HaveShapeToo, AreDistinct, numbers_of, DistinctAreApart}

number_of : (x y : Row) → wrapped_row x ≡ wrapped_row y → x.number ≡ y.number
number_of x y same = ap (λ (row : Row). row.number) same

-- ---- rows by path

partner : (a b : Rows) → wrapped a ≡ wrapped b → (x : Row) → In x a.nodes → (y : Row) × In y b.nodes × (wrapped_row x ≡ wrapped_row y)
partner a b same x there = map_in wrapped_row b.nodes (wrapped_row x) (subst (λ (rows : Rows). In (wrapped_row x) rows.nodes) same (in_map wrapped_row a.nodes x there))

pub paths_lead_to_same_rows : PathsLeadToSameRows
paths_lead_to_same_rows a b [] row same at =
    let o = partner a b same row at.0 in
    record { other = o.0; at = (o.1, sym (number_of row o.0 o.2) ∙ at.1); same = o.2 }
paths_lead_to_same_rows a b (n ∷ p) row same at =
    let up = paths_lead_to_same_rows a b p at.0 same at.1 in
    let o = partner a b same row at.2.there in
    record {
      other = o.0;
      at = (
        up.other,
        up.at,
        record {
          there = o.1;
          below = λ e. at.2.below (number_of row o.0 o.2 ∙ e);
          parent = sym (ap (λ (row : Row). row.parent) o.2) ∙ at.2.parent ∙ number_of at.0 up.other up.same;
          named = sym (ap (λ (row : Row). row.name) o.2) ∙ at.2.named;
        },
      );
      same = o.2;
    }

row_there : (rows : Rows) (p : Path) (row : Row) → IsRowAt rows p row → In row rows.nodes
row_there rows [] row at = at.0
row_there rows (n ∷ p) row at = at.2.there

alike : (x y : Row) → wrapped_row x ≡ wrapped_row y → AreAlike x y
alike x y same = record {
  kind = ap (λ (row : Row). row.kind) same;
  content = ap (λ (row : Row). row.content) same;
  foreign = ap (λ (row : Row). row.foreign) same;
  shadowed = ap (λ (row : Row). row.shadowed) same;
}

has_alike : (a b : Rows) (p : Path) (row : Row) → wrapped a ≡ wrapped b → IsRowAt a p row → HasAlike b p row
has_alike a b p row same at =
    let o = paths_lead_to_same_rows a b p row same at in
    record { other = o.other; at = o.at; alike = alike row o.other o.same }

pub shapes_are_same : ShapesAreSame
shapes_are_same a b same = record {
  forth = λ p row at. has_alike a b p row same at;
  back = λ p row at. has_alike b a p row (sym same) at;
  twice = ap (λ (rows : Rows). rows.named_twice) same;
}

-- ---- the shape of a tree

module _ (a b : Rows) (same : wrapped a ≡ wrapped b) (apart : AreApart b) where
  names_one : AreNumbered a → (x y : Row) → In x b.nodes → In y b.nodes → x.number ≢ root → y.number ≢ root → x.parent ≡ y.parent → x.name ≡ y.name → x ≡ y
  names_one numbered x y at_x at_y below_x below_y parents names =
      let o = partner b a (sym same) x at_x in
      let o' = partner b a (sym same) y at_y in
      let one : o.0 ≡ o'.0 =
      numbered.names o.0 o'.0 o.1 o'.1 (λ e. below_x (number_of x o.0 o.2 ∙ e)) (λ e. below_y (number_of y o'.0 o'.2 ∙ e))
      (sym (ap (λ (row : Row). row.parent) o.2) ∙ parents ∙ ap (λ (row : Row). row.parent) o'.2)
      (sym (ap (λ (row : Row). row.name) o.2) ∙ names ∙ ap (λ (row : Row). row.name) o'.2) in
      apart.one x y at_x at_y (number_of x o.0 o.2 ∙ ap (λ (row : Row). row.number) one ∙ sym (number_of y o'.0 o'.2))

  below_next : AreNumbered a → (x : Row) → In x b.nodes → x.number < b.next
  below_next numbered x at =
      let o = partner b a (sym same) x at in
      subst (λ (n : ℕ). n < b.next) (sym (number_of x o.0 o.2)) (subst (λ (n : ℕ). o.0.number < n) (ap (λ (rows : Rows). rows.next) same) (numbered.below o.0 o.1))

  reached : AreNumbered a → (x : Row) → In x b.nodes → (p : Path) × IsRowAt b p x
  reached numbered x at =
      let o = partner b a (sym same) x at in
      let from = numbered.reached o.0 o.1 in
      let to = paths_lead_to_same_rows a b from.0 o.0 same from.1 in
      let one : to.other ≡ x = apart.one to.other x (row_there b from.0 to.other to.at) at (sym (number_of o.0 to.other to.same) ∙ sym (number_of x o.0 o.2)) in
      (from.0, subst (λ (row : Row). IsRowAt b from.0 row) one to.at)

  are_numbered : AreNumbered a → AreNumbered b
  are_numbered numbered = record {
    one = apart.one;
    names = names_one numbered;
    below = below_next numbered;
    reached = reached numbered;
  }

shown_too : (s : Sealing) (tree : Tree) (p : Path) (node : Node) (x y : Row) → wrapped_row y ≡ wrapped_row x → IsShown s tree p node x → IsShown s tree p node y
shown_too s tree p node x y same shown =
    let like = alike y x same in
    record { kind = like.kind ∙ shown.kind; content = like.content ∙ shown.content; foreign = like.foreign ∙ shown.foreign; shadowed = like.shadowed ∙ shown.shadowed }

has_row : (s : Sealing) (tree : Tree) (a b : Rows) (p : Path) (node : Node) → wrapped a ≡ wrapped b → HasRow s tree a p node → HasRow s tree b p node
has_row s tree a b p node same has =
    let o = paths_lead_to_same_rows a b p has.row same has.at in
    record { row = o.other; at = o.at; shown = shown_too s tree p node has.row o.other (sym o.same) has.shown }

has_node : (s : Sealing) (tree : Tree) (p : Path) (x y : Row) → wrapped_row y ≡ wrapped_row x → HasNode s tree p x → HasNode s tree p y
has_node s tree p x y same has = record { node = has.node; at = has.at; shown = shown_too s tree p has.node x y same has.shown }

pub have_shape_too : HaveShapeToo
have_shape_too s tree a b same apart shape = record {
  numbered = are_numbered a b same apart shape.numbered;
  rows_of = λ p node there. has_row s tree a b p node same (shape.rows_of p node there);
  nodes_of = λ p row at.
      let o = paths_lead_to_same_rows b a p row (sym same) at in
      has_node s tree p o.other row o.same (shape.nodes_of p o.other o.at);
  twice = sym (ap (λ (rows : Rows). rows.named_twice) same) ∙ shape.twice;
}

-- ---- numbers

numbers_wrapped : (rows : List Row) → map (λ (row : Row). row.number) (map wrapped_row rows) ≡ map (λ (row : Row). row.number) rows
numbers_wrapped [] = refl
numbers_wrapped (row ∷ rows) = ap (λ (numbers : List ℕ). row.number ∷ numbers) (numbers_wrapped rows)

same_numbers : (a b : Rows) → wrapped a ≡ wrapped b → numbers_of a ≡ numbers_of b
same_numbers a b same = sym (numbers_wrapped a.nodes) ∙ ap numbers_of same ∙ numbers_wrapped b.nodes

one_each : (rows : List Row) → AreDistinct (map (λ (row : Row). row.number) rows) → (x y : Row) → In x rows → In y rows → x.number ≡ y.number → x ≡ y
one_each [] distinct x y at_x at_y same = absurd at_x
one_each (row ∷ rows) distinct x y (inl e) (inl f) same = e ∙ sym f
one_each (row ∷ rows) distinct x y (inl e) (inr f) same =
    absurd (distinct.0 (subst (λ (n : ℕ). In n (map (λ (row : Row). row.number) rows)) (sym same ∙ ap (λ (row : Row). row.number) e) (in_map (λ (row : Row). row.number) rows y f)))
one_each (row ∷ rows) distinct x y (inr e) (inl f) same =
    absurd (distinct.0 (subst (λ (n : ℕ). In n (map (λ (row : Row). row.number) rows)) (same ∙ ap (λ (row : Row). row.number) f) (in_map (λ (row : Row). row.number) rows x e)))
one_each (row ∷ rows) distinct x y (inr e) (inr f) same = one_each rows distinct.1 x y e f same

pub distinct_are_apart : DistinctAreApart
distinct_are_apart a b same distinct = record { one = one_each b.nodes (subst AreDistinct (same_numbers a b same) distinct) }
