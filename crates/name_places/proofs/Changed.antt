-- Which folder the node of a number names after a change of the tree.
use Rattle.std.proofs.Common.{◌≡◌, ℕ, ◌<◌, Bool, true, false, cond, not, List, Option, Some, None, ◌==◌, if◌then◌else◌, refl, sym, ap, ◌∙◌, arith}
use Rattle.std.proofs.lemmas.Map.Entries.{lookup-filter-keys}
use Rattle.std.specs.Ordering.{nat_cmp}
use Rattle.std.specs.Option.{option_map, option_and_then}
use Rattle.std.specs.BTreeMap.{is_at}
use Rattle.clear_tree.specs.Walk.{Sealing}
use Rattle.clear_tree.specs.Kept.{What, KeptFile, KeptLink, KeptDir, KeptBad}
use Rattle.live_tree.specs.Held.{HeldNode, HeldTree, node_of, IsTree}
use Rattle.clear_tree.specs.Built.{IsFile}
use Rattle.live_tree.specs.Changes.{edited, changed, changed_node, appended, added, removed, renamed, renamed_node, touched, sized_node, dated, dated_node}
use Rattle.live_tree.proofs.Places.{at_number}
use Rattle.live_tree.proofs.Entries.{below_from}
use Rattle.live_tree.proofs.Held.{number_from, lookup_last}
use Rattle.live_tree.proofs.After.{lookup_edit, by_pick}
use Rattle.name_places.specs.Claims.{claimed_in, claimed_at}

abbrev pub claimed_by : Sealing → Option HeldNode → Option (List ℕ)
claimed_by s o = option_and_then (λ (node : HeldNode). claimed_in s node.kept.what) o

module _ (s : Sealing) where
  -- ---- one node is changed

  claimed_edit : (tree : HeldTree) (k : ℕ) (f : HeldNode → HeldNode) → ((n : HeldNode) → node_of tree k ≡ Some n → claimed_in s (f n).kept.what ≡ claimed_in s n.kept.what)
      → (q : ℕ) → claimed_at s (edited tree k f) q ≡ claimed_at s tree q
  claimed_edit tree k f same q = ap (claimed_by s) (lookup_edit q k f tree.nodes) ∙ step (node_of tree q) refl
    where
      step : (o : Option HeldNode) → node_of tree q ≡ o → claimed_by s (option_map (λ (n : HeldNode). if q == k then f n else n) o) ≡ claimed_by s o
      step None e = refl
      step (Some n) e = by_pick (λ x. claimed_in s x.kept.what ≡ claimed_in s n.kept.what) k f q n (λ at. same n (ap (node_of tree) (sym at) ∙ e)) refl

  pub claimed_changed : (tree : HeldTree) (k now q : ℕ) → claimed_at s (changed tree k now) q ≡ claimed_at s tree q
  claimed_changed tree k now q = claimed_edit tree k (changed_node now) (λ n e. refl) q

  pub claimed_renamed : (tree : HeldTree) (k parent : ℕ) (name entry : List ℕ) (long : Bool) (now q : ℕ) → claimed_at s (renamed tree k parent name entry long now) q ≡ claimed_at s tree q
  claimed_renamed tree k parent name entry long now q =
      claimed_changed (edited tree k (renamed_node name entry long)) parent now q ∙ claimed_edit tree k (renamed_node name entry long) (λ n e. refl) q

  pub claimed_dated : (tree : HeldTree) (k modified q : ℕ) → claimed_at s (dated tree k modified) q ≡ claimed_at s tree q
  claimed_dated tree k modified q = claimed_edit tree k (dated_node modified) (λ n e. refl) q

  no_file : (what : What) → IsFile what → (size : ℕ) → claimed_in s (KeptFile size) ≡ claimed_in s what
  no_file (KeptFile old) is size = refl
  no_file (KeptLink old) is size = refl
  no_file (KeptDir identifier folder) is size = absurd is
  no_file (KeptBad text) is size = absurd is

  pub claimed_touched : (tree : HeldTree) (k size now : ℕ) → ((n : HeldNode) → node_of tree k ≡ Some n → IsFile n.kept.what) → (q : ℕ)
      → claimed_at s (touched tree k size now) q ≡ claimed_at s tree q
  claimed_touched tree k size now file q =
      claimed_changed (edited tree k (sized_node size)) k now q ∙ claimed_edit tree k (sized_node size) (λ n e. no_file n.kept.what (file n e) size) q

  -- ---- one is taken away

  by_drop : (b : Bool) (o : Option HeldNode) → claimed_by s (cond (not b) o None) ≡ cond b None (claimed_by s o)
  by_drop true o = refl
  by_drop false o = refl

  pub claimed_removed : (tree : HeldTree) (k parent now q : ℕ) → claimed_at s (removed tree k parent now) q ≡ cond (q == k) None (claimed_at s tree q)
  claimed_removed tree k parent now q =
      ap (claimed_by s)
      (lookup-filter-keys (is_at (nat_cmp q)) (λ j. not (j == k)) (not (q == k)) (λ j e. ap (λ (x : ℕ). not (x == k)) (sym (number_from q j e))) (changed tree parent now).nodes)
      ∙ by_drop (q == k) (node_of (changed tree parent now) q) ∙ ap (cond (q == k) None) (claimed_changed tree parent now q)

  -- ---- one is put after the others

  by_last : (b : Bool) (node : HeldNode) (o : Option HeldNode) → claimed_by s (cond b (Some node) o) ≡ cond b (claimed_in s node.kept.what) (claimed_by s o)
  by_last true node o = refl
  by_last false node o = refl

  pub claimed_added : (tree : HeldTree) (node : HeldNode) (now : ℕ) → IsTree tree → (q : ℕ)
      → claimed_at s (added tree node now) q ≡ cond (q == tree.next) (claimed_in s node.kept.what) (claimed_at s tree q)
  claimed_added tree node now is q =
      claimed_changed (appended tree node) node.kept.parent now q
      ∙ ap (claimed_by s) (lookup_last q tree.next node tree.nodes (below_from tree.next tree.nodes is.numbers))
      ∙ by_last (is_at (nat_cmp q) tree.next) node (node_of tree q)
      ∙ ap (λ (b : Bool). cond b (claimed_in s node.kept.what) (claimed_at s tree q)) (at_number q tree.next)

-- no node has the next number
none_at : (tree : HeldTree) → IsTree tree → (o : Option HeldNode) → node_of tree tree.next ≡ o → o ≡ None
none_at tree is None e = refl
none_at tree is (Some node) e = let low = is.numbers tree.next node e in absurd (omega (arith, low))

pub none_next : (s : Sealing) (tree : HeldTree) → IsTree tree → claimed_at s tree tree.next ≡ None
none_next s tree is = ap (claimed_by s) (none_at tree is (node_of tree tree.next) refl)

-- a number that names a folder is that of a node
pub claimer_below : (s : Sealing) (tree : HeldTree) → IsTree tree → (q : ℕ) (f : List ℕ) → claimed_at s tree q ≡ Some f → q < tree.next
claimer_below s tree is q f claimed = go (node_of tree q) refl (claimed)
  where
    go : (o : Option HeldNode) → node_of tree q ≡ o → claimed_by s o ≡ Some f → q < tree.next
    go None e h = absurd cc
    go (Some node) e h = is.numbers q node e
