-- Which tree in memory holds the tree of a disk.
use Rattle.std.specs.Prelude.{◌≡◌, ⊤, ℕ, List, [], ◌∷◌, Some}
use Rattle.std.specs.FinMap.{get}
use Rattle.tree_model.specs.Rows.{Content, root}
use Rattle.clear_tree.specs.Walk.{Path, Sealing, Node, Dir}
use Rattle.clear_tree.specs.Rows.{content_in}
use Rattle.clear_tree.specs.Kept.{what_of, content_of}
use Rattle.tree_deed_laws.specs.Trees.{Tree}
use Rattle.tree_deed_laws.specs.Deeds.{Place, place_of}
use Rattle.live_tree.specs.Held.{HeldNode, HeldTree, node_of, IsNamed, IsTree}

-- a path leads to a number: the empty one to the root's, and any other from its parent's by its name
abbrev pub IsAt : HeldTree → Path → ℕ → Type 0
IsAt live [] number = number ≡ root
IsAt live (n ∷ p) number = (above : ℕ) × IsAt live p above × IsNamed live above n number

-- the entry that is held of a node, and whether it is long, are those of a place
pub record IsHeldPlace (place : Place) (held : HeldNode) : Type 0 where
  pub entry : held.kept.entry ≡ place.entry
  pub long : held.kept.long ≡ place.long

-- they are those of where the node is in its directory. The root is in none
abbrev pub IsPlaced : Sealing → Tree → Path → HeldNode → Type 0
IsPlaced s tree [] held = ⊤
IsPlaced s tree (n ∷ p) held = (i : List ℕ) → get tree.nodes p ≡ Some (Dir i) → IsHeldPlace (place_of s i n (tree.long (n ∷ p))) held

-- what is held of the node at a path
pub record IsHeldAs (s : Sealing) (tree : Tree) (p : Path) (x : Node) (held : HeldNode) : Type 0 where
  pub what : held.kept.what ≡ what_of s x
  pub place : IsPlaced s tree p held
  pub foreign : held.kept.foreign ≡ tree.marks.foreign p
  pub shadowed : held.kept.shadowed ≡ tree.marks.shadowed p

-- the node of a number is that at a path
pub record HoldsAt (s : Sealing) (tree : Tree) (live : HeldTree) (p : Path) (number : ℕ) : Type 0 where
  pub node : Node
  pub held : HeldNode
  pub at : get tree.nodes p ≡ Some node
  pub there : node_of live number ≡ Some held
  pub is : IsHeldAs s tree p node held

pub record HasNumber (live : HeldTree) (p : Path) : Type 0 where
  pub number : ℕ
  pub at : IsAt live p number

-- The tree in memory holds the tree of a disk: a node for each of its nodes, by path, and no other.
pub record Holds (s : Sealing) (tree : Tree) (live : HeldTree) : Type 0 where
  pub is_tree : IsTree live
  pub nodes_of : (p : Path) (number : ℕ) → IsAt live p number → HoldsAt s tree live p number
  pub numbers_of : (p : Path) (x : Node) → get tree.nodes p ≡ Some x → HasNumber live p
  pub twice : live.twice ≡ tree.marks.twice

-- the contents of files and links, by their numbers, are those of the bytes of their nodes
abbrev pub AreHeldContents : Sealing → Tree → HeldTree → (ℕ → Content) → Type 0
AreHeldContents s tree live contents =
    (p : Path) (number : ℕ) (x : Node) → IsAt live p number → get tree.nodes p ≡ Some x → content_of (what_of s x) (contents number) ≡ content_in s x
