-- The steps of a change: what holds of the tree in memory after each, by what its maps hold.
use Rattle.std.proofs.Common.{◌≡◌, ◌≢◌, ℕ, suc, Bool, true, List, Option, Some, None, IsSome, is_some, refl, sym, ap, ◌∙◌, subst, true≢false, Bor}
use Rattle.std.specs.Ordering.{nat_cmp}
use Rattle.std.specs.Option.{option_copied, option_and_then}
use Rattle.std.specs.List.Sorted.{IsStrictlySortedBy}
use Rattle.std.specs.Map.{keys_of, remove_entry}
use Rattle.std.specs.BTreeMap.{is_at, insert_entry}
use Rattle.tree_model.specs.Rows.{root}
use Rattle.clear_tree.specs.Kept.{folder_in}
use Rattle.live_tree.specs.Held.{HeldNode, HeldTree, node_of, IsFree, IsDirectory, IsChildless}
use Rattle.live_tree.specs.Index.{Names, has_names, IsSet, IsGrown, IsClosed, IsHeld}
use Rattle.clear_tree.specs.Built.{IsFile}
use Rattle.live_tree.specs.Changes.{edited_nodes, edited, changed, changed_node, dated, dated_node, touched, sized_node, renamed_node, dropped, appended, RowsAreDated, RowsAreTouched}
use Rattle.live_tree.proofs.Entries.{insert_is_append, remove_is_filter}
use Rattle.live_tree.proofs.Held.{held_appended, are_below, held_grows, grows_back}
use Rattle.live_tree.proofs.After.{held_changed, held_dated, held_sized, held_renamed}
use Rattle.live_tree.proofs.Dropped.{held_dropped}
use Rattle.live_tree.proofs.Rows.{rows_dated, rows_touched}

abbrev pub tree_of : List (ℕ × HeldNode) → ℕ → Bool → HeldTree
tree_of nodes next twice = record { nodes = nodes; next = next; twice = twice }

pub held_as : (names : Names) (tree : HeldTree) (nodes : List (ℕ × HeldNode)) (next : ℕ) → IsHeld names tree → nodes ≡ tree.nodes → next ≡ tree.next → IsHeld names (tree_of nodes next tree.twice)
held_as names tree nodes next held n x = rw (n, x) held

pub tree_as : (tree : HeldTree) (nodes : List (ℕ × HeldNode)) (next : ℕ) → nodes ≡ tree.nodes → next ≡ tree.next → tree_of nodes next tree.twice ≡ tree
tree_as tree nodes next n x = rw (n, x) refl

-- ---- a node after the others

copied_there : (o : Option (Bor (List ℕ))) → is_some (option_copied o) ≡ is_some o
copied_there None = refl
copied_there (Some x) = refl

pub opened_from : (o : Option (Bor (List ℕ))) (folder : Option (List ℕ)) (is_directory there : Bool) → option_copied o ≡ folder → is_directory ≡ is_some o
    → (is_directory ≡ true → there ≡ true) → IsSome folder → there ≡ true
opened_from o folder is_directory there copy is room some = room (is ∙ sym (copied_there o) ∙ ap is_some copy ∙ some)

pub directory_there : (names mid : Names) (tree self : HeldTree) (parent : ℕ) → IsHeld names tree → tree ≡ self → IsGrown names mid → IsDirectory self parent → has_names mid parent ≡ true
directory_there names mid tree self parent held same grown dir =
    let mine = subst (λ (t : HeldTree). IsDirectory t parent) (sym same) dir in
    grown.directories parent (held.directories parent mine.node mine.there mine.folder)

module _ (names : Names) (tree self : HeldTree) (held : IsHeld names tree) (same : tree ≡ self) (node : HeldNode) where
  nodes_appended : (nodes : List (ℕ × HeldNode)) → nodes ≡ insert_entry nat_cmp tree.nodes tree.next node → nodes ≡ (appended tree node).nodes
  nodes_appended nodes e = e ∙ insert_is_append tree.next node tree.nodes (are_below names tree held)

  pub append_is : (nodes : List (ℕ × HeldNode)) (next : ℕ) → nodes ≡ insert_entry nat_cmp tree.nodes tree.next node → next ≡ suc tree.next
      → tree_of nodes next tree.twice ≡ appended self node
  append_is nodes next e x = tree_as (appended tree node) nodes next (nodes_appended nodes e) x ∙ ap (λ (t : HeldTree). appended t node) same

  pub append_held : (mid new : Names) → IsGrown names mid → (IsSome (folder_in node.kept.what) → has_names mid tree.next ≡ true)
      → IsSet mid new node.kept.parent node.kept.name (Some tree.next) → IsDirectory self node.kept.parent → IsFree self node.kept.parent node.kept.name → node.version ≡ 0
      → (nodes : List (ℕ × HeldNode)) (next : ℕ) → nodes ≡ insert_entry nat_cmp tree.nodes tree.next node → IsStrictlySortedBy nat_cmp (keys_of nodes) → next ≡ suc tree.next
      → IsHeld new (tree_of nodes next tree.twice)
  append_held mid new grown opened set dir free fresh nodes next e sorted x =
      held_as new (appended tree node) nodes next
      (held_appended names tree node held mid new grown opened set (subst (λ (t : HeldTree). IsDirectory t node.kept.parent) (sym same) dir)
      (subst (λ (t : HeldTree). IsFree t node.kept.parent node.kept.name) (sym same) free) fresh
      (subst (λ (ns : List (ℕ × HeldNode)). IsStrictlySortedBy nat_cmp (keys_of ns)) (nodes_appended nodes e) sorted))
      (nodes_appended nodes e) x

  pub append_undone : (mid set new : Names) → IsGrown names mid → IsSet mid set node.kept.parent node.kept.name (Some tree.next) → IsSet set new node.kept.parent node.kept.name None
      → IsFree self node.kept.parent node.kept.name → (nodes : List (ℕ × HeldNode)) → nodes ≡ tree.nodes → IsHeld new (tree_of nodes tree.next tree.twice)
  append_undone mid set new grown put back free nodes e =
      held_as new tree nodes tree.next
      (held_grows names new tree held
      (grows_back names mid set new tree node.kept.parent node.kept.name tree.next held (subst (λ (t : HeldTree). IsFree t node.kept.parent node.kept.name) (sym same) free) grown put back))
      e refl

-- ---- a change

pub change_is : (tree self : HeldTree) (number now : ℕ) → tree ≡ self → (nodes : List (ℕ × HeldNode)) → nodes ≡ edited_nodes tree.nodes number (changed_node now)
    → tree_of nodes tree.next tree.twice ≡ changed self number now
change_is tree self number now same nodes e = tree_as (changed tree number now) nodes tree.next e refl ∙ ap (λ (t : HeldTree). changed t number now) same

pub change_held : (names : Names) (tree : HeldTree) (number now : ℕ) → IsHeld names tree → (nodes : List (ℕ × HeldNode)) → nodes ≡ edited_nodes tree.nodes number (changed_node now)
    → IsHeld names (tree_of nodes tree.next tree.twice)
change_held names tree number now held nodes e = held_as names (changed tree number now) nodes tree.next (held_changed names tree number now held) e refl

-- ---- an mtime

pub date_is : (tree self : HeldTree) (number modified : ℕ) → tree ≡ self → (nodes : List (ℕ × HeldNode)) → nodes ≡ edited_nodes tree.nodes number (dated_node modified)
    → tree_of nodes tree.next tree.twice ≡ dated self number modified
date_is tree self number modified same nodes e = tree_as (dated tree number modified) nodes tree.next e refl ∙ ap (λ (t : HeldTree). dated t number modified) same

pub date_held : (names : Names) (tree : HeldTree) (number modified : ℕ) → IsHeld names tree → (nodes : List (ℕ × HeldNode)) → nodes ≡ edited_nodes tree.nodes number (dated_node modified)
    → IsHeld names (tree_of nodes tree.next tree.twice)
date_held names tree number modified held nodes e = held_as names (dated tree number modified) nodes tree.next (held_dated names tree number modified held) e refl

pub rows_of_dated : (names : Names) (tree self new : HeldTree) (number modified : ℕ) → IsHeld names tree → tree ≡ self → new ≡ dated self number modified → RowsAreDated self new number modified
rows_of_dated names tree self new number modified held same e =
    rw e (rows_dated self number modified (subst (λ (t : HeldTree). IsStrictlySortedBy nat_cmp (keys_of t.nodes)) same held.ordered))

-- ---- a file's size

pub written_in : (tree self : HeldTree) (number : ℕ) → tree ≡ self → ((node : HeldNode) → node_of self number ≡ Some node → IsFile node.kept.what)
    → (node : HeldNode) → node_of tree number ≡ Some node → IsFile node.kept.what
written_in tree self number same written node there = written node (ap (λ (t : HeldTree). node_of t number) (sym same) ∙ there)

sized_there : (names : Names) (tree self : HeldTree) (number size : ℕ) → IsHeld names tree → tree ≡ self → ((node : HeldNode) → node_of self number ≡ Some node → IsFile node.kept.what)
    → IsHeld names (edited tree number (sized_node size))
sized_there names tree self number size held same written = held_sized names tree number size held (written_in tree self number same written)

pub touch_is : (tree self : HeldTree) (number size now : ℕ) → tree ≡ self → (sized nodes : List (ℕ × HeldNode)) → sized ≡ edited_nodes tree.nodes number (sized_node size)
    → nodes ≡ edited_nodes sized number (changed_node now) → tree_of nodes tree.next tree.twice ≡ touched self number size now
touch_is tree self number size now same sized nodes s e =
    tree_as (touched tree number size now) nodes tree.next (e ∙ ap (λ (ns : List (ℕ × HeldNode)). edited_nodes ns number (changed_node now)) s) refl
    ∙ ap (λ (t : HeldTree). touched t number size now) same

pub touch_held : (names : Names) (tree self : HeldTree) (number size now : ℕ) → IsHeld names tree → tree ≡ self → ((node : HeldNode) → node_of self number ≡ Some node → IsFile node.kept.what)
    → (sized nodes : List (ℕ × HeldNode)) → sized ≡ edited_nodes tree.nodes number (sized_node size)
    → nodes ≡ edited_nodes sized number (changed_node now) → IsHeld names (tree_of nodes tree.next tree.twice)
touch_held names tree self number size now held same written sized nodes s e =
    held_as names (touched tree number size now) nodes tree.next (held_changed names (edited tree number (sized_node size)) number now (sized_there names tree self number size held same written))
    (e ∙ ap (λ (ns : List (ℕ × HeldNode)). edited_nodes ns number (changed_node now)) s) refl

pub rows_of_touched : (names : Names) (tree self new : HeldTree) (number size now : ℕ) → IsHeld names tree → tree ≡ self → ((node : HeldNode) → node_of self number ≡ Some node → IsFile node.kept.what)
    → new ≡ touched self number size now → RowsAreTouched self new number now
rows_of_touched names tree self new number size now held same written e =
    rw e (rows_touched self number size now (subst (λ (t : HeldTree). IsStrictlySortedBy nat_cmp (keys_of t.nodes)) same held.ordered) written)

-- ---- a node that is taken away

pub childless_in : (tree self : HeldTree) (number : ℕ) → tree ≡ self → IsChildless self number → IsChildless tree number
childless_in tree self number same childless = subst (λ (t : HeldTree). IsChildless t number) (sym same) childless

pub drop_is : (names : Names) (tree self : HeldTree) (number : ℕ) → IsHeld names tree → tree ≡ self → (nodes : List (ℕ × HeldNode)) → nodes ≡ remove_entry (is_at (nat_cmp number)) tree.nodes
    → tree_of nodes tree.next tree.twice ≡ dropped self number
drop_is names tree self number held same nodes e =
    tree_as (dropped tree number) nodes tree.next (e ∙ remove_is_filter number tree.nodes held.ordered) refl ∙ ap (λ (t : HeldTree). dropped t number) same

pub drop_held : (names mid new : Names) (tree self : HeldTree) (number : ℕ) (node : HeldNode) → IsHeld names tree → tree ≡ self → node_of tree number ≡ Some node → number ≢ root → IsChildless self number
    → IsSet names mid node.kept.parent node.kept.name None → IsClosed mid new number → (nodes : List (ℕ × HeldNode)) → nodes ≡ remove_entry (is_at (nat_cmp number)) tree.nodes
    → IsStrictlySortedBy nat_cmp (keys_of nodes) → IsHeld new (tree_of nodes tree.next tree.twice)
drop_held names mid new tree self number node held same there below childless taken closed nodes e sorted =
    let is = e ∙ remove_is_filter number tree.nodes held.ordered in
    held_as new (dropped tree number) nodes tree.next
    (held_dropped names mid new tree number held node there below (childless_in tree self number same childless) taken closed
    (subst (λ (ns : List (ℕ × HeldNode)). IsStrictlySortedBy nat_cmp (keys_of ns)) is sorted))
    is refl

-- ---- another name

parent_at : (names : Names) (tree : HeldTree) (parent : ℕ) → IsHeld names tree → (o : Option HeldNode) → node_of tree parent ≡ o
    → IsSome (option_and_then (λ (p : HeldNode). folder_in p.kept.what) o) → has_names names parent ≡ true
parent_at names tree parent held None e is = absurd (true≢false (sym is))
parent_at names tree parent held (Some p) e is = held.directories parent p e is

-- the directory of a node has names
pub parent_names : (names : Names) (tree : HeldTree) (number : ℕ) (node : HeldNode) → IsHeld names tree → node_of tree number ≡ Some node → number ≢ root → has_names names node.kept.parent ≡ true
parent_names names tree number node held there below =
    parent_at names tree node.kept.parent held (node_of tree node.kept.parent) refl (held.parents number node there below).folder

pub rename_is : (tree self : HeldTree) (number : ℕ) (name entry : List ℕ) (long : Bool) → tree ≡ self → (nodes : List (ℕ × HeldNode)) → nodes ≡ edited_nodes tree.nodes number (renamed_node name entry long)
    → tree_of nodes tree.next tree.twice ≡ edited self number (renamed_node name entry long)
rename_is tree self number name entry long same nodes e =
    tree_as (edited tree number (renamed_node name entry long)) nodes tree.next e refl ∙ ap (λ (t : HeldTree). edited t number (renamed_node name entry long)) same

pub rename_held : (names mid new : Names) (tree self : HeldTree) (number : ℕ) (name entry : List ℕ) (long : Bool) (node : HeldNode) → IsHeld names tree → tree ≡ self → node_of tree number ≡ Some node
    → number ≢ root → ((n : HeldNode) → node_of self number ≡ Some n → IsFree self n.kept.parent name) → IsSet names mid node.kept.parent name (Some number)
    → IsSet mid new node.kept.parent node.kept.name None → (nodes : List (ℕ × HeldNode)) → nodes ≡ edited_nodes tree.nodes number (renamed_node name entry long)
    → IsHeld new (tree_of nodes tree.next tree.twice)
rename_held names mid new tree self number name entry long node held same there below free put taken nodes e =
    held_as new (edited tree number (renamed_node name entry long)) nodes tree.next
    (held_renamed names mid new tree number name entry long held node there below
    (subst (λ (t : HeldTree). IsFree t node.kept.parent name) (sym same) (free node (ap (λ (t : HeldTree). node_of t number) (sym same) ∙ there))) put taken)
    e refl
