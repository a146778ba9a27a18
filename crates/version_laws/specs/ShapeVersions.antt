-- The shape of a tree's rows, if their versions differ beyond 2^32.
use Rattle.std.specs.Prelude.{◌≡◌, ℕ, List, [], ◌∷◌, map, ⊤}
use Rattle.tree_model.specs.Rows.{Row, Rows}
use Rattle.clear_tree.specs.Walk.{Path, Sealing}
use Rattle.clear_tree.specs.Queue.{In}
use Rattle.tree_deed_laws.specs.Trees.{Tree}
use Rattle.tree_deed_laws.specs.Shapes.{IsRowAt, HasShape, SameShape}
use Rattle.version_laws.specs.RowVersions.{wrapped_row, wrapped}

-- a path leads to a row that is the same as this but for its version beyond 2^32
pub record HasSameRow (rows : Rows) (p : Path) (row : Row) : Type 0 where
  pub other : Row
  pub at : IsRowAt rows p other
  pub same : wrapped_row row ≡ wrapped_row other

abbrev pub PathsLeadToSameRows : Type 0
PathsLeadToSameRows = (a b : Rows) (p : Path) (row : Row) → wrapped a ≡ wrapped b → IsRowAt a p row → HasSameRow b p row

abbrev pub ShapesAreSame : Type 0
ShapesAreSame = (a b : Rows) → wrapped a ≡ wrapped b → SameShape a b

-- rows of one number are one: two that differ in their versions alone are not
pub record AreApart (rows : Rows) : Type 0 where
  pub one : (x y : Row) → In x rows.nodes → In y rows.nodes → x.number ≡ y.number → x ≡ y

abbrev pub HaveShapeToo : Type 0
HaveShapeToo = (s : Sealing) (tree : Tree) (a b : Rows) → wrapped a ≡ wrapped b → AreApart b → HasShape s tree a → HasShape s tree b

-- no number occurs twice
abbrev pub AreDistinct : List ℕ → Type 0
AreDistinct [] = ⊤
AreDistinct (n ∷ numbers) = (¬ (In n numbers)) × AreDistinct numbers

abbrev pub numbers_of : Rows → List ℕ
numbers_of rows = map (λ row. row.number) rows.nodes

-- then the other rows are apart too
abbrev pub DistinctAreApart : Type 0
DistinctAreApart = (a b : Rows) → wrapped a ≡ wrapped b → AreDistinct (numbers_of a) → AreApart b
