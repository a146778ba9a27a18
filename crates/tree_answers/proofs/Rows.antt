-- The row of a node, and the node of a row.
use Rattle.std.proofs.Common.{◌≡◌, ◌≢◌, ◌<◌, ◌%◌, ◌^◌, ◌==◌, ℕ, Bool, true, false, not, Option, Some, None, IfSome, IfNone, IsSome, is_some, refl, sym, ap, ◌∙◌, arith, eq-eqb, ne_eqb, eqb-true}
use Rattle.std.specs.Option.{option_map, option_and_then}
use Rattle.tree_model.specs.Rows.{Content, Row, root, row_of}
use Rattle.clear_tree.specs.Kept.{folder_in}
use Rattle.clear_tree.specs.Queue.{In}
use Rattle.live_tree.specs.Held.{HeldNode, HeldTree, IsTree, node_of, live_row, live_rows}
use Rattle.live_tree.proofs.Held.{in_found, found_in}
use Rattle.live_tree.proofs.Rows.{row_is}
use Rattle.tree_answers.proofs.Members.{in_map, map_in}

pub none_of : {A : Type 0} (o : Option A) → ((x : A) → o ≡ Some x → ⊥) → o ≡ None
none_of None not = refl
none_of (Some x) not = absurd (not x refl)

pub some_there : {A : Type 0} (o : Option A) (P : A → Type 0) → IfSome o P → is_some o ≡ true → (x : A) × P x
some_there None P h is = absurd cc
some_there (Some x) P h is = (x, h)

pub none_there : {A : Type 0} (o : Option A) (P : Type 0) → IfNone o P → is_some o ≡ false → P
none_there None P h is = h
none_there (Some x) P h is = absurd cc

pub some_is : {A : Type 0} (o : Option A) → IsSome o → (x : A) × (o ≡ Some x)
some_is None some = absurd cc
some_is (Some x) some = (x, refl)

-- a version of this run is shown as it is
pub version_is : (version : ℕ) → version < 2 ^ 32 → version % 2 ^ 32 ≡ version
version_is version small = omega arith

module _ (contents : ℕ → Content) (tree : HeldTree) where
  -- ---- by number
  pub row_there : (number : ℕ) (node : HeldNode) → node_of tree number ≡ Some node → row_of (live_rows contents tree) number ≡ Some (live_row contents (number, node))
  row_there number node is = row_is contents tree number ∙ ap (option_map (λ (node : HeldNode). live_row contents (number, node))) is

  pub row_absent : (number : ℕ) → node_of tree number ≡ None → row_of (live_rows contents tree) number ≡ None
  row_absent number is = row_is contents tree number ∙ ap (option_map (λ (node : HeldNode). live_row contents (number, node))) is

  -- ---- among the rows
  pub row_in : (number : ℕ) (node : HeldNode) → node_of tree number ≡ Some node → In (live_row contents (number, node)) (live_rows contents tree).nodes
  row_in number node is = in_map (live_row contents) (number, node) tree.nodes (found_in tree.nodes number node is)

  pub record IsRowOf (row : Row) : Type 0 where
    pub number : ℕ
    pub node : HeldNode
    pub there : node_of tree number ≡ Some node
    pub is : row ≡ live_row contents (number, node)

  pub in_rows : (row : Row) → IsTree tree → In row (live_rows contents tree).nodes → IsRowOf row
  in_rows row good h =
      let entry = map_in (live_row contents) row tree.nodes h in
      record { number = entry.of.0; node = entry.of.1; there = in_found tree.nodes entry.of.0 entry.of.1 good.ordered entry.there; is = entry.is }

pub not_root : (number : ℕ) → not (number == root) ≡ true → number ≢ root
not_root number h same = let no : not (number == root) ≡ false = ap not (eq-eqb number root same) in absurd (cc (h, no))

pub below_root : (number : ℕ) → number ≢ root → not (number == root) ≡ true
below_root number below = ap not (ne_eqb number root below)

-- ---- parents

parent_of_some : (o : Option HeldNode) → IsSome (option_and_then (λ (parent : HeldNode). folder_in parent.kept.what) o) → IsSome o
parent_of_some None some = absurd cc
parent_of_some (Some node) some = refl

-- the parent of a node is there
pub parent_there : (tree : HeldTree) (number : ℕ) (node : HeldNode) → IsTree tree → node_of tree number ≡ Some node → IsSome (node_of tree node.kept.parent)
parent_there tree number node good there = by (number == root) refl
  where
    by : (b : Bool) → (number == root) ≡ b → IsSome (node_of tree node.kept.parent)
    by true is =
        let here : number ≡ root = eqb-true number root is in
        let first : node_of tree root ≡ Some node = ap (node_of tree) (sym here) ∙ there in
        let same : node ≡ good.first.0 = cc (first, good.first.1.there) in
        let own : node.kept.parent ≡ root = ap (λ (n : HeldNode). n.kept.parent) same ∙ good.first.1.own in
        ap (λ (n : ℕ). is_some (node_of tree n)) own ∙ ap is_some first
    by false is =
        let below : number ≢ root = λ same. let yes = eq-eqb number root same in absurd (cc (yes, is)) in
        parent_of_some (node_of tree node.kept.parent) (good.parents number node there below).folder
