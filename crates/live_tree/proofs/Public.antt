-- The rows after a public change, by what its steps made of the tree.
use Rattle.std.proofs.Common.{◌≡◌, ◌≢◌, ℕ, ◌<◌, Bool, List, Option, Some, None, IsSome, refl, sym, ap, ◌∙◌, subst, arith}
use Rattle.std.specs.Ordering.{nat_cmp}
use Rattle.std.specs.Option.{option_map}
use Rattle.std.specs.List.Sorted.{IsStrictlySortedBy}
use Rattle.std.specs.Map.{keys_of}
use Rattle.tree_model.specs.Rows.{root, is_dir}
use Rattle.clear_tree.specs.Kept.{What, kind_of}
use Rattle.live_tree.specs.Held.{HeldNode, HeldTree, node_of, IsChildless, IsDirectory}
use Rattle.live_tree.specs.Index.{Names, IsHeld}
use Rattle.live_tree.specs.Changes.{edited, changed, changed_node, appended, new_node, dropped, renamed_node, CanBeMade, RowsAreAdded, RowsAreRemoved, RowsAreRenamed}
use Rattle.live_tree.proofs.Rows.{has_node, rows_added, rows_removed, rows_renamed}
use Rattle.live_tree.proofs.Held.{are_below, directory_below}
use Rattle.live_tree.proofs.After.{came_from, picked, lookup_edit, by_pick}

pub rows_of_added : (names : Names) (tree self mid new : HeldTree) (node : HeldNode) (parent : ℕ) (name : List ℕ) (what : What) (entry : List ℕ) (long : Bool) (now : ℕ) → IsHeld names tree → tree ≡ self
    → IsDirectory self parent → CanBeMade what → node ≡ new_node parent name what entry long now → mid ≡ appended self node → new ≡ changed mid parent now
    → RowsAreAdded self new parent name (is_dir (kind_of what)) now
rows_of_added names tree self mid new node parent name what entry long now held same dir can made app chg =
    let mine : IsHeld names self = subst (IsHeld names) same held in
    rw (chg, app, made) (rows_added self parent name what entry long now (are_below names self mine) (directory_below names self parent mine dir) can)

pub rows_of_removed : (self mid new : HeldTree) (number parent now : ℕ) → ((node : HeldNode) → node_of self number ≡ Some node → parent ≡ node.kept.parent) → mid ≡ changed self parent now → new ≡ dropped mid number
    → RowsAreRemoved self new number now
rows_of_removed self mid new number parent now up chg drop contents row found =
    let has = has_node contents self number row found in
    let at = rows_removed self number now has.node has.there contents row found in
    rw (drop, chg, up has.node has.there) at

pub rows_of_renamed : (self mid new : HeldTree) (number parent : ℕ) (name entry : List ℕ) (long : Bool) (now : ℕ) → IsStrictlySortedBy nat_cmp (keys_of self.nodes)
    → ((node : HeldNode) → node_of self number ≡ Some node → parent ≡ node.kept.parent) → parent < number → mid ≡ edited self number (renamed_node name entry long) → new ≡ changed mid parent now
    → RowsAreRenamed self new number name now
rows_of_renamed self mid new number parent name entry long now sorted up before named chg contents row found =
    let has = has_node contents self number row found in
    let same = up has.node has.there in
    let at = rows_renamed self number name entry long now sorted has.node has.there (λ e. omega (arith, e, same, before)) contents row found in
    rw (chg, named, same) at

-- no node comes into a directory by a change
pub childless_changed : (self : HeldTree) (number parent now : ℕ) → IsChildless self number → IsChildless (changed self parent now) number
childless_changed self number parent now childless k n child =
    let from = came_from self k (picked parent (changed_node now) k) n (node_of self k) refl (sym (lookup_edit k parent (changed_node now) self.nodes) ∙ child.there) in
    let up : n.kept.parent ≡ from.node.kept.parent = ap (λ (x : HeldNode). x.kept.parent) from.is ∙ by_pick (λ x. x.kept.parent ≡ from.node.kept.parent) parent (changed_node now) k from.node (λ e. refl) refl in
    childless k from.node (record { there = from.there; below = child.below; inside = sym up ∙ child.inside })

some_still : {A B : Type 0} (f : A → B) (o : Option A) → IsSome o → IsSome (option_map f o)
some_still f None is = is
some_still f (Some x) is = refl

-- each node is there after a change
pub there_changed : (self : HeldTree) (number parent now : ℕ) → IsSome (node_of self number) → IsSome (node_of (changed self parent now) number)
there_changed self number parent now is =
    subst IsSome (sym (lookup_edit number parent (changed_node now) self.nodes)) (some_still (picked parent (changed_node now) number) (node_of self number) is)

pub before_parent : (names : Names) (tree : HeldTree) (number parent : ℕ) (node : HeldNode) → IsHeld names tree → node_of tree number ≡ Some node → parent ≡ node.kept.parent → number ≢ root → parent < number
before_parent names tree number parent node held there up below =
    let before = (held.parents number node there below).before in
    omega (arith, before, up)
