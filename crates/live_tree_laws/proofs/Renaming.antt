-- A node given another name in the tree and in memory.
use Rattle.std.proofs.Common.{◌≡◌, ◌≢◌, ℕ, Bool, true, false, List, [], ◌∷◌, Option, Some, refl, sym, ap, ◌∙◌, subst, inl, inr, ◌⊎◌}
use Rattle.std.specs.FinMap.{get}
use Rattle.std.proofs.lemmas.Bool.{cond-true, cond-false}
use Rattle.clear_tree.specs.Walk.{Path, same_path, Sealing, Node, Dir}
use Rattle.clear_tree.proofs.Paths.{path_cases, same_path-apart, same_path-itself}
use Rattle.tree_deed_laws.specs.Trees.{Tree, with_name, swapped}
use Rattle.tree_deed_laws.specs.Deeds.{place_of}
use Rattle.tree_deed_laws.proofs.Maps.{get_moved}
use Rattle.tree_deed_laws.proofs.Rename.{swapped_twice, swapped-old, swapped-new, swapped-other, swapped-parent}
use Rattle.live_tree.specs.Held.{HeldNode, HeldTree, IsNamed, IsFree, IsTree}
use Rattle.live_tree.specs.Changes.{edited, renamed_node}
use Rattle.live_tree_laws.specs.Holds.{IsAt, IsPlaced, IsHeldPlace, IsHeldAs, HoldsAt, Holds}
use Rattle.live_tree_laws.specs.HeldLaws.{RenamingHolds}
use Rattle.live_tree_laws.proofs.Paths as paths
use Rattle.live_tree_laws.proofs.HeldTrees as trees
use Rattle.live_tree_laws.proofs.Keeping.{holds_changed}

module _ (s : Sealing) (tree : Tree) (live : HeldTree) (p : Path) (parent number : ℕ) (i n k : List ℕ) (long : Bool) (apart : n ≢ k)
    (holds : Holds s tree live) (at_p : IsAt live p parent) (dir_at : get tree.nodes p ≡ Some (Dir i)) (named : IsNamed live parent n number) (free : IsFree live parent k) where
  abbrev entry : List ℕ
  entry = (place_of s i k long).entry

  abbrev tree' : Tree
  tree' = with_name tree (n ∷ p) (k ∷ p) long

  abbrev live' : HeldTree
  live' = edited live number (renamed_node k entry long)

  abbrev sw : Path → Path
  sw = swapped (n ∷ p) (k ∷ p)

  ok : IsTree live
  ok = holds.is_tree

  at_it : IsAt live (n ∷ p) number
  at_it = (parent, at_p, named)

  forth : (q : Path) (x : ℕ) → IsAt live q x → IsAt live' (sw q) x
  forth = paths.moved_forth live ok live' p parent number n k apart at_p named free (trees.after_forth live ok number parent n k entry long named free)
      (trees.after_back live ok number parent n k entry long named free) (trees.after_named live ok number parent n k entry long named free)

  pub back : (q : Path) (x : ℕ) → IsAt live' q x → IsAt live (sw q) x
  back = paths.moved_back live ok live' p parent number n k apart at_p named free (trees.after_forth live ok number parent n k entry long named free)
      (trees.after_back live ok number parent n k entry long named free) (trees.after_named live ok number parent n k entry long named free)

  pub moved : (q : Path) → get tree'.nodes q ≡ get tree.nodes (sw q)
  moved q = get_moved n k p apart tree.nodes q

  -- where the renamed node is
  long_here : tree'.long (k ∷ p) ≡ long
  long_here = cond-true (same_path (k ∷ p) (k ∷ p)) _ _ (same_path-itself (k ∷ p))

  parent_same : get tree'.nodes p ≡ get tree.nodes p
  parent_same = moved p ∙ ap (get tree.nodes) (swapped-parent n k p apart)

  it_as : (z : Node) (held : HeldNode) → IsHeldAs s tree (n ∷ p) z held → IsHeldAs s tree' (k ∷ p) z (renamed_node k entry long held)
  it_as z held same_as = record {
    what = same_as.what;
    place = λ j dir.
        let same : i ≡ j = (let w : ◌≡◌ {A = Option Node} (Some (Dir i)) (Some (Dir j)) = sym dir_at ∙ sym parent_same ∙ dir in cc) in
        subst (λ (b : Bool). IsHeldPlace (place_of s j k b) (renamed_node k entry long held)) (sym long_here)
        (subst (λ (l : List ℕ). IsHeldPlace (place_of s l k long) (renamed_node k entry long held)) same (record { entry = refl; long = refl }));
    foreign = same_as.foreign ∙ ap tree.marks.foreign (sym (swapped-new n k p apart));
    shadowed = same_as.shadowed ∙ ap tree.marks.shadowed (sym (swapped-new n k p apart));
  }

  other_as : (q : Path) (z : Node) (held : HeldNode) → n ∷ p ≢ q → k ∷ p ≢ q → IsHeldAs s tree (sw q) z held → IsHeldAs s tree' q z held
  other_as q z held far far' same_as = record { what = same_as.what; place = placed q far far' same_as.place; foreign = same_as.foreign; shadowed = same_as.shadowed }
    where
      placed : (q : Path) → n ∷ p ≢ q → k ∷ p ≢ q → IsPlaced s tree (sw q) held → IsPlaced s tree' q held
      placed [] far far' h = tt
      placed (m ∷ q) far far' h = λ j dir.
          let path : sw (m ∷ q) ≡ m ∷ sw q = swapped-other n k p apart m q far far' in
          let was : IsHeldPlace (place_of s j m (tree.long (m ∷ sw q))) held = subst (λ (w : Path). IsPlaced s tree w held) path h j (sym (moved q) ∙ dir) in
          let same : tree'.long (m ∷ q) ≡ tree.long (m ∷ sw q) = cond-false (same_path (k ∷ p) (m ∷ q)) _ _ (same_path-apart (k ∷ p) (m ∷ q) far') ∙ ap tree.long path in
          subst (λ (b : Bool). IsHeldPlace (place_of s j m b) held) (sym same) was

  abbrev Cases : Path → Path → Type 0
  Cases w q = ((same_path w q ≡ true) × (w ≡ q)) ⊎ ((same_path w q ≡ false) × (w ≢ q))

  nodes : (q : Path) (x : ℕ) → IsAt live' q x → HoldsAt s tree' live' q x
  nodes q x at = go (path_cases (k ∷ p) q) (path_cases (n ∷ p) q)
    where
      go : Cases (k ∷ p) q → Cases (n ∷ p) q → HoldsAt s tree' live' q x
      go (inl e) w =
          let was : IsAt live (n ∷ p) x = subst (λ (z : Path). IsAt live z x) (ap sw (sym e.1) ∙ swapped-new n k p apart) (back q x at) in
          let it = holds.nodes_of (n ∷ p) x was in
          let same : x ≡ number = paths.one_number live ok (n ∷ p) x number was at_it in
          subst (λ (z : Path). HoldsAt s tree' live' z x) e.1 (record {
            node = it.node;
            held = renamed_node k entry long it.held;
            at = moved (k ∷ p) ∙ ap (get tree.nodes) (swapped-new n k p apart) ∙ it.at;
            there = trees.after_still live ok number parent n k entry long named free x it.held it.there
                ∙ ap Some (ap (λ (y : ℕ). trees.pick live ok number parent n k entry long named free y it.held) same ∙ trees.pick_here live ok number parent n k entry long named free it.held);
            is = it_as it.node it.held it.is;
          })
      go (inr far') (inl e) =
          let was : IsAt live (k ∷ p) x = subst (λ (z : Path). IsAt live z x) (ap sw (sym e.1) ∙ swapped-old n k p apart) (back q x at) in
          absurd (paths.free_at live ok p parent was.0 x k k at_p free was.1 refl was.2)
      go (inr far') (inr far) =
          let it = holds.nodes_of (sw q) x (back q x at) in
          let other : x ≢ number = (λ e.
          let there : sw q ≡ n ∷ p = paths.one_path live ok (sw q) (n ∷ p) number (subst (λ (z : ℕ). IsAt live (sw q) z) e (back q x at)) at_it in
          far'.1 (sym (swapped-old n k p apart) ∙ ap sw (sym there) ∙ swapped_twice n k p apart q)) in
          record {
            node = it.node;
            held = it.held;
            at = moved q ∙ it.at;
            there = trees.after_still live ok number parent n k entry long named free x it.held it.there ∙ ap Some (trees.pick_other live ok number parent n k entry long named free x it.held other);
            is = other_as q it.node it.held far.1 far'.1 it.is;
          }

  pub holds_after : Holds s tree' live'
  holds_after = record {
    is_tree = trees.tree_after live ok number parent n k entry long named free;
    nodes_of = nodes;
    numbers_of = λ q z at.
        let has = holds.numbers_of (sw q) z (sym (moved q) ∙ at) in
        record { number = has.number; at = subst (λ (w : Path). IsAt live' w has.number) (swapped_twice n k p apart q) (forth (sw q) has.number has.at) };
    twice = holds.twice;
  }

pub renaming_holds : RenamingHolds
renaming_holds s tree live p parent number i n k long now holds at_p dir_at named free =
    holds_changed s (with_name tree (n ∷ p) (k ∷ p) long) (edited live number (renamed_node k (place_of s i k long).entry long)) parent now
    (holds_after s tree live p parent number i n k long (λ e. free number (subst (λ (z : List ℕ). IsNamed live parent z number) e named)) holds at_p dir_at named free)
