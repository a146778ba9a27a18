-- A node made in the tree and in memory.
use Rattle.std.proofs.Common.{◌≡◌, ◌≢◌, ◌↔◌, ℕ, Bool, true, false, List, [], ◌∷◌, Option, Some, None, IsSome, IsTrue, arith, refl, sym, ap, ◌∙◌, subst, inl, inr, ◌⊎◌}
use Rattle.std.specs.FinMap.{get}
use Rattle.std.proofs.lemmas.Bool.{cond-true, cond-false}
use Rattle.outside.specs.Disk.{Disk}
use Rattle.clear_tree.specs.Walk.{Path, same_path, Sealing, Node, Dir, node_at}
use Rattle.clear_tree.specs.Places.{folders_of}
use Rattle.clear_tree.specs.Marks.{HasForeign, IsShadowedIn}
use Rattle.clear_tree.specs.Kept.{What, folder_in, what_of}
use Rattle.clear_tree.proofs.Paths.{path_cases, same_path-apart, same_path-itself, child_apart}
use Rattle.tree_deed_laws.specs.Trees.{Tree, IsTreeOf, with_node}
use Rattle.tree_deed_laws.specs.Deeds.{place_of}
use Rattle.tree_deed_laws.proofs.Seeing.{some_there}
use Rattle.tree_deed_laws.proofs.Maps.{get_with}
use Rattle.live_tree.specs.Held.{HeldNode, HeldTree, IsFree, IsDirectory, IsTree}
use Rattle.live_tree.specs.Changes.{new_node, appended}
use Rattle.live_tree.proofs.Held.{still, still_named, last_there}
use Rattle.live_tree_laws.specs.Holds.{IsAt, IsPlaced, IsHeldPlace, IsHeldAs, HoldsAt, HasNumber, Holds}
use Rattle.live_tree_laws.specs.HeldLaws.{MakingHolds}
use Rattle.live_tree_laws.proofs.Paths as paths
use Rattle.live_tree_laws.proofs.HeldTrees as trees
use Rattle.live_tree_laws.proofs.Keeping.{one_node, free_names_are_free, holds_changed}

pub no_mark : (b : Bool) (P : Type 0) → IsTrue b ↔ P → (P → ⊥) → b ≡ false
no_mark false P f non = refl
no_mark true P f non = absurd (non (f.0 refl))

-- the number of a directory's path is a directory
pub is_directory : (s : Sealing) (tree : Tree) (live : HeldTree) (p : Path) (parent : ℕ) (i : List ℕ) → Holds s tree live → IsAt live p parent → get tree.nodes p ≡ Some (Dir i) → IsDirectory live parent
is_directory s tree live p parent i holds at_p dir_at =
    let it = holds.nodes_of p parent at_p in
    let same : it.node ≡ Dir i = one_node tree p it.node (Dir i) it.at dir_at in
    let what : it.held.kept.what ≡ what_of s (Dir i) = it.is.what ∙ ap (what_of s) same in
    record { node = it.held; there = it.there; folder = subst (λ (w : What). IsSome (folder_in w)) (sym what) refl }

module _ (s : Sealing) (d : Disk) (tree : Tree) (live : HeldTree) (p : Path) (parent : ℕ) (i n : List ℕ) (x : Node) (long : Bool) (now : ℕ)
    (is : IsTreeOf s d tree) (holds : Holds s tree live) (at_p : IsAt live p parent) (dir_at : get tree.nodes p ≡ Some (Dir i)) (free : IsFree live parent n) where
  abbrev new : HeldNode
  new = new_node parent n (what_of s x) (place_of s i n long).entry long now

  abbrev tree' : Tree
  tree' = with_node tree (n ∷ p) x long

  abbrev live' : HeldTree
  live' = appended live new

  ok : IsTree live
  ok = holds.is_tree

  up : IsDirectory live parent
  up = is_directory s tree live p parent i holds at_p dir_at

  apart : parent ≢ live.next
  apart e = let low = trees.parent_below live ok new up free refl in omega (arith, low, e)

  pub forth : (q : Path) (y : ℕ) → IsAt live q y → IsAt live' q y
  forth = paths.more_forth live ok live' p parent live.next n at_p free (still_named live new ok.numbers) (trees.more_back live ok new up free refl)
      (trees.next_none live ok new up free refl) apart (trees.more_named live ok new up free refl)

  pub back : (q : Path) (y : ℕ) → IsAt live' q y → (IsAt live q y × (n ∷ p ≢ q)) ⊎ ((n ∷ p ≡ q) × (y ≡ live.next))
  back = paths.more_back live ok live' p parent live.next n at_p free (still_named live new ok.numbers) (trees.more_back live ok new up free refl)
      (trees.next_none live ok new up free refl) apart (trees.more_named live ok new up free refl)

  none : get tree.nodes (n ∷ p) ≡ None
  none = (free_names_are_free s tree live p parent n holds at_p).0 free

  other : (q : Path) → n ∷ p ≢ q → get tree'.nodes q ≡ get tree.nodes q
  other q ne = get_with tree.nodes (n ∷ p) x q ∙ cond-false (same_path (n ∷ p) q) _ _ (same_path-apart (n ∷ p) q ne)

  here : get tree'.nodes (n ∷ p) ≡ Some x
  here = get_with tree.nodes (n ∷ p) x (n ∷ p) ∙ cond-true (same_path (n ∷ p) (n ∷ p)) _ _ (same_path-itself (n ∷ p))

  -- what was held of a node is
  still_as : (q : Path) (y : ℕ) (z : Node) (held : HeldNode) → IsAt live q y → n ∷ p ≢ q → IsHeldAs s tree q z held → IsHeldAs s tree' q z held
  still_as q y z held at ne same_as = record { what = same_as.what; place = placed q at ne same_as.place; foreign = same_as.foreign; shadowed = same_as.shadowed }
    where
      placed : (q : Path) → IsAt live q y → n ∷ p ≢ q → IsPlaced s tree q held → IsPlaced s tree' q held
      placed [] at ne h = tt
      placed (m ∷ q) at ne h = λ j dir.
          let far : n ∷ p ≢ q = λ e. some_there _ _ (holds.nodes_of q at.0 at.1).at (ap (get tree.nodes) (sym e) ∙ none) in
          let was = h j (sym (other q far) ∙ dir) in
          let same : tree'.long (m ∷ q) ≡ tree.long (m ∷ q) = cond-false (same_path (n ∷ p) (m ∷ q)) _ _ (same_path-apart (n ∷ p) (m ∷ q) ne) in
          subst (λ (b : Bool). IsHeldPlace (place_of s j m b) held) (sym same) was

  long_here : tree'.long (n ∷ p) ≡ long
  long_here = cond-true (same_path (n ∷ p) (n ∷ p)) _ _ (same_path-itself (n ∷ p))

  no_node : node_at s (folders_of s d) is.owner (n ∷ p) ≡ None
  no_node = sym (is.exact (n ∷ p)) ∙ none

  new_as : IsHeldAs s tree' (n ∷ p) x new
  new_as = record {
    what = refl;
    place = λ j dir.
        let same : i ≡ j = (let z : ◌≡◌ {A = Option Node} (Some (Dir i)) (Some (Dir j)) = sym dir_at ∙ sym (other p (child_apart n p)) ∙ dir in cc) in
        subst (λ (b : Bool). IsHeldPlace (place_of s j n b) new) (sym long_here) (subst (λ (k : List ℕ). IsHeldPlace (place_of s k n long) new) same (record { entry = refl; long = refl }));
    foreign = sym (no_mark (tree.marks.foreign (n ∷ p)) _ (is.marked.foreign (n ∷ p)) (λ f. subst (λ (z : Option Node). HasForeign s d z) no_node f));
    shadowed = sym (no_mark (tree.marks.shadowed (n ∷ p)) _ (is.marked.shadowed n p)
        (λ f. subst (λ (z : Option Node). IsShadowedIn s d (node_at s (folders_of s d) is.owner p) n z) no_node f));
  }

  holds_more : Holds s tree' live'
  holds_more = record {
    is_tree = trees.tree_more live ok new up free refl;
    nodes_of = λ q y at. nodes q y (back q y at);
    numbers_of = λ q z at. numbers q z at (path_cases (n ∷ p) q);
    twice = holds.twice;
  }
    where
      nodes : (q : Path) (y : ℕ) → (IsAt live q y × (n ∷ p ≢ q)) ⊎ ((n ∷ p ≡ q) × (y ≡ live.next)) → HoldsAt s tree' live' q y
      nodes q y (inl was) =
          let it = holds.nodes_of q y was.0 in
          record {
            node = it.node;
            held = it.held;
            at = other q was.1 ∙ it.at;
            there = still live new ok.numbers y it.held it.there;
            is = still_as q y it.node it.held was.0 was.1 it.is;
          }
      nodes q y (inr e) = subst (λ (z : Path). HoldsAt s tree' live' z y) e.0 (subst (λ (z : ℕ). HoldsAt s tree' live' (n ∷ p) z) (sym e.1)
          (record { node = x; held = new; at = here; there = last_there live new ok.numbers; is = new_as }))

      numbers : (q : Path) (z : Node) → get tree'.nodes q ≡ Some z → ((same_path (n ∷ p) q ≡ true) × (n ∷ p ≡ q)) ⊎ ((same_path (n ∷ p) q ≡ false) × (n ∷ p ≢ q)) → HasNumber live' q
      numbers q z at (inl e) = subst (λ (w : Path). HasNumber live' w) e.1 (record { number = live.next; at = (parent, forth p parent at_p, trees.more_named live ok new up free refl) })
      numbers q z at (inr e) = let has = holds.numbers_of q z (sym (other q e.1) ∙ at) in record { number = has.number; at = forth q has.number has.at }

pub making_holds : MakingHolds
making_holds s d tree live p parent i n x long now is holds at_p dir_at free =
    holds_changed s (with_node tree (n ∷ p) x long) (appended live (new_node parent n (what_of s x) (place_of s i n long).entry long now)) parent now
    (holds_more s d tree live p parent i n x long now is holds at_p dir_at free)
