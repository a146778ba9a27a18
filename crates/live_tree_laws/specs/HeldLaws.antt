-- The laws: if the tree in memory held the tree of a disk, after each change it holds the tree after it.
use Rattle.std.specs.Prelude.{◌≡◌, ◌↔◌, ℕ, Bool, List, ◌∷◌, Some, None}
use Rattle.std.specs.FinMap.{get}
use Rattle.outside.specs.Disk.{Disk}
use Rattle.clear_tree.specs.Walk.{Path, Sealing, Node, Dir}
use Rattle.clear_tree.specs.Kept.{what_of}
use Rattle.tree_deed_laws.specs.Trees.{Tree, IsTreeOf, with_node, without_node, with_name}
use Rattle.tree_deed_laws.specs.Deeds.{place_of}
use Rattle.live_tree.specs.Held.{HeldTree, IsNamed, IsFree, IsChildless}
use Rattle.live_tree.specs.Changes.{new_node, added, removed, renamed}
use Rattle.live_tree_laws.specs.Holds.{IsAt, Holds}

-- ---- names and children

-- no node of the tree has a name that is free in the directory's number
abbrev pub FreeNamesAreFree : Type 0
FreeNamesAreFree = (s : Sealing) (tree : Tree) (live : HeldTree) (p : Path) (parent : ℕ) (n : List ℕ)
    → Holds s tree live → IsAt live p parent → IsFree live parent n ↔ (get tree.nodes (n ∷ p) ≡ None)

abbrev pub ChildlessHaveNoChild : Type 0
ChildlessHaveNoChild = (s : Sealing) (tree : Tree) (live : HeldTree) (p : Path) (number : ℕ)
    → Holds s tree live → IsAt live p number → IsChildless live number ↔ ((m : List ℕ) → get tree.nodes (m ∷ p) ≡ None)

-- ---- changes

-- a node made in the directory at p, of identifier i
abbrev pub MakingHolds : Type 0
MakingHolds = (s : Sealing) (d : Disk) (tree : Tree) (live : HeldTree) (p : Path) (parent : ℕ) (i n : List ℕ) (x : Node) (long : Bool) (now : ℕ)
    → IsTreeOf s d tree → Holds s tree live → IsAt live p parent → get tree.nodes p ≡ Some (Dir i) → IsFree live parent n
    → Holds s (with_node tree (n ∷ p) x long) (added live (new_node parent n (what_of s x) (place_of s i n long).entry long now) now)

-- a node without children removed
abbrev pub RemovingHolds : Type 0
RemovingHolds = (s : Sealing) (tree : Tree) (live : HeldTree) (p : Path) (parent number : ℕ) (n : List ℕ) (now : ℕ)
    → Holds s tree live → IsAt live p parent → IsNamed live parent n number → IsChildless live number
    → Holds s (without_node tree (n ∷ p)) (removed live number parent now)

-- a node of the directory at p, of identifier i, given another name
abbrev pub RenamingHolds : Type 0
RenamingHolds = (s : Sealing) (tree : Tree) (live : HeldTree) (p : Path) (parent number : ℕ) (i n k : List ℕ) (long : Bool) (now : ℕ)
    → Holds s tree live → IsAt live p parent → get tree.nodes p ≡ Some (Dir i) → IsNamed live parent n number → IsFree live parent k
    → Holds s (with_name tree (n ∷ p) (k ∷ p) long) (renamed live number parent k (place_of s i k long).entry long now)
