-- Where the node of a number is in the tree of a disk.
use Rattle.std.proofs.Common.{◌≡◌, ◌≢◌, ◌==◌, ℕ, Bool, true, false, List, [], ◌∷◌, Option, Some, None, IsSome, refl, sym, ap, ◌∙◌, subst, true≢false, eqb-true, eq-eqb}
use Rattle.std.specs.Option.{option_and_then}
use Rattle.std.specs.FinMap.{get}
use Rattle.outside.specs.Disk.{Disk}
use Rattle.tree_model.specs.Rows.{root}
use Rattle.clear_tree.specs.Walk.{Path, Sealing, Node, Dir}
use Rattle.clear_tree.specs.Places.{folders_of}
use Rattle.clear_tree.specs.Kept.{What as KeptWhat, KeptDir, folder_in}
use Rattle.tree_deed_laws.specs.Trees.{Tree, IsTreeOf}
use Rattle.tree_deed_laws.specs.Deeds.{place_of}
use Rattle.tree_deed_laws.proofs.Exact.{parent_there}
use Rattle.live_tree.specs.Held.{HeldNode, HeldTree, node_of, IsNamed, IsTree}
use Rattle.live_tree_laws.specs.Holds.{IsAt, IsHeldAs, Holds}
use Rattle.live_tree_laws.proofs.Paths.{one_held}
use Rattle.live_tree_laws.proofs.Numbers.{reached}
use Rattle.live_tree_laws.proofs.Files.{places_are_held}
use Rattle.node_changes.specs.Removal.{IsFolderAbove, place_in}

-- below the root: its directory at a path, of identifier i, and its name there
pub record IsBelow (s : Sealing) (tree : Tree) (live : HeldTree) (number : ℕ) (held : HeldNode) : Type 0 where
  pub path : Path
  pub i : List ℕ
  pub name : List ℕ
  pub at_dir : IsAt live path held.kept.parent
  pub dir : get tree.nodes path ≡ Some (Dir i)
  pub named : IsNamed live held.kept.parent name number
  pub node : Node
  pub stands : get tree.nodes (name ∷ path) ≡ Some node
  pub is : IsHeldAs s tree (name ∷ path) node held

module _ (s : Sealing) (d : Disk) (tree : Tree) (live : HeldTree) (of : IsTreeOf s d tree) (holds : Holds s tree live) (number : ℕ) (held : HeldNode) (there : node_of live number ≡ Some held) (below : number ≢ root) where
  below_at : (p : Path) → IsAt live p number → (x : Node) → get tree.nodes p ≡ Some x → IsHeldAs s tree p x held → IsBelow s tree live number held
  below_at [] at x stands is = absurd (below at)
  below_at (n ∷ p) at x stands is =
      let up = parent_there s (folders_of s d) of.owner p n x (sym (of.exact (n ∷ p)) ∙ stands) in
      let same : at.2.node ≡ held = one_held live number at.2.node held at.2.child.there there in
      let parent : at.0 ≡ held.kept.parent = sym at.2.child.inside ∙ ap (λ (z : HeldNode). z.kept.parent) same in
      record {
        path = p;
        i = up.0;
        name = n;
        at_dir = subst (λ (z : ℕ). IsAt live p z) parent at.1;
        dir = of.exact p ∙ up.1;
        named = subst (λ (z : ℕ). IsNamed live z n number) parent at.2;
        node = x;
        stands = stands;
        is = is;
      }

  pub is_below : IsBelow s tree live number held
  is_below =
      let p = reached live holds.is_tree number held there in
      let it = holds.nodes_of p.0 number p.1 in
      let same : it.held ≡ held = one_held live number it.held held it.there there in
      below_at p.0 p.1 it.node it.at (subst (λ (z : HeldNode). IsHeldAs s tree p.0 it.node z) same it.is)

  -- its place is that in the folder that is held of its directory
  pub place_is : (folder : List ℕ) → IsFolderAbove live held folder → (it : IsBelow s tree live number held) → place_of s it.i it.name (tree.long (it.name ∷ it.path)) ≡ place_in folder held
  place_is folder above it = places_are_held s tree live it.path held.kept.parent number it.i it.name folder above.above held holds it.at_dir it.dir it.named above.up above.is there

-- each node is in a directory
some_above : (o : Option HeldNode) → IsSome (option_and_then (λ (parent : HeldNode). folder_in parent.kept.what) o) → (above : HeldNode) × (o ≡ Some above) × IsSome (folder_in above.kept.what)
some_above None h = absurd (true≢false (sym h))
some_above (Some above) h = (above, refl, h)

pub above_there : (live : HeldTree) → IsTree live → (number : ℕ) (held : HeldNode) → node_of live number ≡ Some held
    → (above : HeldNode) × (node_of live held.kept.parent ≡ Some above) × IsSome (folder_in above.kept.what)
above_there live is number held there = go (number == root) refl
  where
    go : (b : Bool) → (number == root) ≡ b → (above : HeldNode) × (node_of live held.kept.parent ≡ Some above) × IsSome (folder_in above.kept.what)
    go true e =
        let top = is.first.1 in
        let same : held ≡ is.first.0 = one_held live number held is.first.0 there (ap (node_of live) (eqb-true number root e) ∙ top.there) in
        (is.first.0, ap (λ (z : HeldNode). node_of live z.kept.parent) same ∙ ap (node_of live) top.own ∙ top.there, top.folder)
    go false e = some_above (node_of live held.kept.parent) (is.parents number held there (λ z. true≢false (sym (eq-eqb number root z) ∙ e))).folder

pub never_absent : (live : HeldTree) → IsTree live → (number parent : ℕ) (held : HeldNode) → node_of live number ≡ Some held → parent ≡ held.kept.parent → node_of live parent ≡ None → ⊥
never_absent live is number parent held there same none =
    let a = above_there live is number held there in
    let e : ◌≡◌ {A = Option HeldNode} None (Some a.0) = sym none ∙ ap (node_of live) same ∙ a.1 in
    cc

pub never_folderless : (live : HeldTree) → IsTree live → (number parent : ℕ) (held above : HeldNode) → node_of live number ≡ Some held → parent ≡ held.kept.parent → node_of live parent ≡ Some above → folder_in above.kept.what ≡ None → ⊥
never_folderless live is number parent held above there same up none =
    let a = above_there live is number held there in
    let e : above ≡ a.0 = one_held live held.kept.parent above a.0 (ap (node_of live) (sym same) ∙ up) a.1 in
    true≢false (sym (subst (λ (o : Option (List ℕ)). IsSome o) (ap (λ (z : HeldNode). folder_in z.kept.what) (sym e) ∙ none) a.2))

pub directory_is : (what : KeptWhat) (i f folder : List ℕ) → what ≡ KeptDir i f → folder_in what ≡ Some folder → what ≡ KeptDir i folder
directory_is what i f folder e is = let w : ◌≡◌ {A = Option (List ℕ)} (Some f) (Some folder) = ap folder_in (sym e) ∙ is in let same : f ≡ folder = cc in e ∙ ap (KeptDir i) same
