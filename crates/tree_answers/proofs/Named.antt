-- The node of a name in a directory is the child of that name among the rows.
use Rattle.std.proofs.Common.{◌≡◌, ◌==◌, ◌&&◌, ℕ, Bool, true, not, List, Option, Some, None, refl, ap, ap₂, sym, subst, ◌∙◌, eq-eqb, eqb-true}
use Rattle.std.specs.Str.{bytes_eq}
use Rattle.std.proofs.lemmas.Slice.Eq.{bytes_eq-Decides}
use Rattle.tree_model.specs.Rows.{Content, Row, Rows, root, row_of, child_of}
use Rattle.live_tree.specs.Held.{HeldTree, IsTree, IsNamed, IsFree, live_row, live_rows}
use Rattle.tree_answers.proofs.Members.{both, find_in, none_passes}
use Rattle.tree_answers.proofs.Rows.{row_there, row_in, in_rows, not_root, below_root}

-- the row of a number is the child of a name
pub record IsChildRow (rows : Rows) (parent : ℕ) (name : List ℕ) (number : ℕ) : Type 0 where
  pub row : Row
  pub there : row_of rows number ≡ Some row
  pub child : child_of rows parent name ≡ Some row

module _ (contents : ℕ → Content) (tree : HeldTree) (good : IsTree tree) (parent : ℕ) (name : List ℕ) where
  abbrev rows : Rows
  rows = live_rows contents tree

  abbrev is_named : Row → Bool
  is_named row = (row.parent == parent) && bytes_eq row.name name && not (row.number == root)

  named_passes : (number : ℕ) (is : IsNamed tree parent name number) → is_named (live_row contents (number, is.node)) ≡ true
  named_passes number is =
      ap₂ (λ (a b : Bool). a && b)
      (ap₂ (λ (a b : Bool). a && b) (eq-eqb is.node.kept.parent parent is.child.inside) ((bytes_eq-Decides is.node.kept.name name).1 is.named))
      (below_root number is.child.below)

  record IsNamedRow (row : Row) : Type 0 where
    number : ℕ
    named : IsNamed tree parent name number
    is : row ≡ live_row contents (number, named.node)

  found_named : (row : Row) → child_of rows parent name ≡ Some row → IsNamedRow row
  found_named row is =
      let found = find_in is_named rows.nodes row is in
      let of = in_rows contents tree row good found.0 in
      let passes : is_named (live_row contents (of.number, of.node)) ≡ true = ap is_named (sym of.is) ∙ found.1 in
      let below = both ((of.node.kept.parent == parent) && bytes_eq of.node.kept.name name) (not (of.number == root)) passes in
      let inside = both (of.node.kept.parent == parent) (bytes_eq of.node.kept.name name) below.0 in
      record {
        number = of.number;
        named = record {
          node = of.node;
          child = record { there = of.there; below = not_root of.number below.1; inside = eqb-true of.node.kept.parent parent inside.0 };
          named = (bytes_eq-Decides of.node.kept.name name).0 inside.1;
        };
        is = of.is;
      }

  pub child_found : (number : ℕ) → IsNamed tree parent name number → IsChildRow rows parent name number
  child_found number named = by (child_of rows parent name) refl
    where
      by : (o : Option Row) → child_of rows parent name ≡ o → IsChildRow rows parent name number
      by None none = absurd (none_passes is_named rows.nodes none (live_row contents (number, named.node)) (row_in contents tree number named.node named.child.there) (named_passes number named))
      by (Some row) is =
          let found = found_named row is in
          let same : found.number ≡ number = good.names parent name found.number number found.named named in
          record {
            row = row;
            there = subst (λ (n : ℕ). row_of rows n ≡ Some row) same (row_there contents tree found.number found.named.node found.named.child.there ∙ ap Some (sym found.is));
            child = is;
          }

  pub child_absent : IsFree tree parent name → child_of rows parent name ≡ None
  child_absent free = by (child_of rows parent name) refl
    where
      by : (o : Option Row) → child_of rows parent name ≡ o → child_of rows parent name ≡ None
      by None none = none
      by (Some row) is = let found = found_named row is in absurd (free found.number found.named)
