-- What one node more leaves of a tree under way, and all of a directory.
use Rattle.std.specs.Prelude.{◌≡◌, ℕ, List, [], ◌∷◌, ◌++◌, Some, Contains, slice_get}
use Rattle.outside.specs.Disk.{Disk}
use Rattle.vault_keys.specs.Keys.{KeyPair}
use Rattle.clear_tree.specs.Walk.{Path, Dir}
use Rattle.clear_tree.specs.Places.{folders_of}
use Rattle.clear_tree.specs.Queue.{Row}
use Rattle.clear_tree.specs.Kept.{KeptNode, KeptTree}
use Rattle.clear_tree.specs.Scan.{Found, IsFound}
use Rattle.clear_tree.specs.Loading.{AreLoaded, AreAdded, with_found}
use Rattle.tree_loading.specs.Format.{sealing_of}
use Rattle.tree_loading.specs.declared.nodes.Loading.{Loading}
use Rattle.tree_loading.specs.Under.{is_claimed, HasOwnFolder}
use Rattle.tree_loading.specs.Settled.{Claims}

-- a node of this name is put after the others, in the directory of this number
pub record Pushes (keys : KeyPair) (old new : KeptTree) (parent : ℕ) (name : List ℕ) : Type 0 where
  pub node : KeptNode
  pub behind : new.nodes ≡ old.nodes ++ node ∷ []
  pub inside : node.parent ≡ parent
  pub named : node.name ≡ name
  pub folder : HasOwnFolder keys node.what

-- one node more, as it was found
pub record AddsNode (keys : KeyPair) (d : Disk) (parent : ℕ) (found : Found) (old new : Loading) : Type 0 where
  pub tree : new.tree ≡ with_found (sealing_of keys) (folders_of (sealing_of keys) d).present (is_claimed old.claims) parent old.tree found
  pub claims : Claims keys old.claims new.claims found.shown

-- All nodes that were found in the directory of a row, after what is kept of the rows.
abbrev pub AddsAll : KeyPair → Disk → ℕ → List Found → Loading → Loading → Type 0
AddsAll keys d parent found old new = (rows : List Row) (above : Path) (identifier : List ℕ) → AreLoaded (sealing_of keys) d rows parent old.tree (is_claimed old.claims)
    → slice_get rows parent ≡ Some (above, Dir identifier) → ((f : Found) → Contains found f → IsFound (sealing_of keys) d identifier f)
    → AreAdded (sealing_of keys) d rows parent above identifier found new.tree (is_claimed new.claims)
