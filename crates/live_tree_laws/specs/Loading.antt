-- A tree as it was loaded holds the tree of its disk.
use Rattle.std.specs.Prelude.{◌↔◌, ℕ, length}
use Rattle.outside.specs.Disk.{Disk, IsTree}
use Rattle.tree_model.specs.Rows.{Content}
use Rattle.clear_tree.specs.Walk.{Sealing}
use Rattle.clear_tree.specs.Kept.{KeptTree, IsKept, AreContents}
use Rattle.tree_deed_laws.specs.Trees.{Tree, IsTreeOf}
use Rattle.live_tree.specs.Held.{HeldTree, loaded}
use Rattle.live_tree_laws.specs.Holds.{Holds, AreHeldContents}

-- the tree of nodes that were loaded of a vault which was unlocked at this second
abbrev pub loaded_tree : ℕ → KeptTree → HeldTree
loaded_tree unlocked kept = loaded unlocked kept.nodes (length kept.nodes) kept.twice

-- a tree of the disk that is held as it was loaded, and which contents are right for it
pub record IsLoaded (s : Sealing) (d : Disk) (kept : KeptTree) (unlocked : ℕ) : Type 0 where
  pub tree : Tree
  pub is : IsTreeOf s d tree
  pub holds : Holds s tree (loaded_tree unlocked kept)
  pub contents : (contents : ℕ → Content) → AreContents s d kept contents ↔ AreHeldContents s tree (loaded_tree unlocked kept) contents

abbrev pub LoadingHolds : Type 0
LoadingHolds = (s : Sealing) (d : Disk) (kept : KeptTree) (unlocked : ℕ) → IsKept s d kept → IsTree d → IsLoaded s d kept unlocked
