-- A node without nodes in it removed from the tree and from memory.
use Rattle.std.proofs.Common.{◌≡◌, ◌≢◌, ℕ, true, false, List, [], ◌∷◌, Some, refl, sym, ◌∙◌, subst, inl, inr, ◌⊎◌}
use Rattle.std.specs.FinMap.{get}
use Rattle.std.proofs.lemmas.Bool.{cond-true, cond-false}
use Rattle.tree_model.specs.Rows.{root}
use Rattle.clear_tree.specs.Walk.{Path, same_path, Sealing, Node, Dir}
use Rattle.clear_tree.proofs.Paths.{path_cases, same_path-apart}
use Rattle.tree_deed_laws.specs.Trees.{Tree, without_node}
use Rattle.tree_deed_laws.proofs.Seeing.{some_there}
use Rattle.tree_deed_laws.proofs.Maps.{get_without}
use Rattle.live_tree.specs.Held.{HeldNode, HeldTree, IsNamed, IsChildless, IsTree}
use Rattle.live_tree.specs.Changes.{changed, dropped}
use Rattle.live_tree.proofs.Dropped.{still}
use Rattle.live_tree_laws.specs.Holds.{IsAt, IsPlaced, IsHeldAs, Holds}
use Rattle.live_tree_laws.specs.HeldLaws.{RemovingHolds}
use Rattle.live_tree_laws.proofs.Paths as paths
use Rattle.live_tree_laws.proofs.HeldTrees as trees
use Rattle.live_tree_laws.proofs.Keeping.{leads_on, changed_forth, changed_back, holds_changed}

module _ (s : Sealing) (tree : Tree) (live : HeldTree) (p : Path) (parent number : ℕ) (n : List ℕ) (holds : Holds s tree live) (at_p : IsAt live p parent) (named : IsNamed live parent n number)
    (childless : IsChildless live number) where
  abbrev tree' : Tree
  tree' = without_node tree (n ∷ p)

  abbrev live' : HeldTree
  live' = dropped live number

  ok : IsTree live
  ok = holds.is_tree

  below : number ≢ root
  below = named.child.below

  at_it : IsAt live (n ∷ p) number
  at_it = (parent, at_p, named)

  forth : (q : Path) (x : ℕ) → IsAt live q x → n ∷ p ≢ q → IsAt live' q x
  forth = paths.less_forth live ok live' p number n at_it (trees.less_forth live ok number below childless) (trees.less_back live ok number below childless) (trees.less_none live ok number below childless)

  pub from : (q : Path) (x : ℕ) → IsAt live' q x → IsAt live q x × (n ∷ p ≢ q)
  from = paths.less_from live ok live' p number n at_it (trees.less_forth live ok number below childless) (trees.less_back live ok number below childless) (trees.less_none live ok number below childless)

  other : (q : Path) → n ∷ p ≢ q → get tree'.nodes q ≡ get tree.nodes q
  other q ne = get_without tree.nodes (n ∷ p) q ∙ cond-false (same_path (n ∷ p) q) _ _ (same_path-apart (n ∷ p) q ne)

  -- a directory after it was one before
  pub was_there : (q : Path) (z : Node) → get tree'.nodes q ≡ Some z → (get tree.nodes q ≡ Some z) × (n ∷ p ≢ q)
  was_there q z at = go (path_cases (n ∷ p) q)
    where
      go : ((same_path (n ∷ p) q ≡ true) × (n ∷ p ≡ q)) ⊎ ((same_path (n ∷ p) q ≡ false) × (n ∷ p ≢ q)) → (get tree.nodes q ≡ Some z) × (n ∷ p ≢ q)
      go (inl e) = absurd (some_there _ _ at (get_without tree.nodes (n ∷ p) q ∙ cond-true (same_path (n ∷ p) q) _ _ e.0))
      go (inr e) = (sym (other q e.1) ∙ at, e.1)

  still_as : (q : Path) (z : Node) (held : HeldNode) → IsHeldAs s tree q z held → IsHeldAs s tree' q z held
  still_as q z held same_as = record { what = same_as.what; place = placed q same_as.place; foreign = same_as.foreign; shadowed = same_as.shadowed }
    where
      placed : (q : Path) → IsPlaced s tree q held → IsPlaced s tree' q held
      placed [] h = tt
      placed (m ∷ q) h = λ j dir. h j (was_there q (Dir j) dir).0

  pub holds_less : Holds s tree' live'
  holds_less = record {
    is_tree = trees.tree_less live ok number below childless;
    nodes_of = λ q x at.
        let was = from q x at in
        let it = holds.nodes_of q x was.0 in
        record {
          node = it.node;
          held = it.held;
          at = other q was.1 ∙ it.at;
          there = still live number x it.held (λ e. was.1 (paths.one_path live ok (n ∷ p) q number at_it (subst (λ (z : ℕ). IsAt live q z) e was.0))) it.there;
          is = still_as q it.node it.held it.is;
        };
    numbers_of = λ q z at. let was = was_there q z at in let has = holds.numbers_of q z was.0 in record { number = has.number; at = forth q has.number has.at was.1 };
    twice = holds.twice;
  }

pub removing_holds : RemovingHolds
removing_holds s tree live p parent number n now holds at_p named childless =
    holds_less s tree (changed live parent now) p parent number n (holds_changed s tree live parent now holds)
    (leads_on live (changed live parent now) (changed_forth live holds.is_tree parent now) p parent at_p) (changed_forth live holds.is_tree parent now parent n number named)
    (λ x held child.
    let was = changed_back live holds.is_tree parent now number held.kept.name x (record { node = held; child = child; named = refl }) in
    childless x was.node was.child)
