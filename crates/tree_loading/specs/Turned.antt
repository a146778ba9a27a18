-- A turn of the loop that loads a tree.
use Rattle.std.specs.Prelude.{◌≡◌, ℕ, suc, List, [], Option, None, Some}
use Rattle.outside.specs.Disk.{Disk, IsFolder}
use Rattle.outside.specs.Calls.{Told}
use Rattle.vault_keys.specs.Keys.{KeyPair}
use Rattle.clear_tree.specs.Places.{host_folder}
use Rattle.clear_tree.specs.Kept.{KeptDir, KeptNode, KeptTree, folder_in, node_of}
use Rattle.clear_tree.specs.Scan.{IsScanned}
use Rattle.clear_tree.specs.Loading.{IsLoading, HasNodes}
use Rattle.tree_loading.specs.Format.{sealing_of}
use Rattle.tree_loading.specs.Scanned.{ScannedFolder}
use Rattle.tree_loading.specs.declared.nodes.Loading.{Loading}
use Rattle.tree_model.specs.Step.{node_limit}
use Rattle.tree_loading.specs.Under.{is_claimed}

abbrev pub HasRoot : KeyPair → Disk → Type 0
HasRoot keys d = IsFolder d (host_folder ((sealing_of keys).folder_of []))

-- what is under way after some turns is under way after some more
abbrev pub GoesOn : KeyPair → Disk → ℕ → ℕ → Loading → Loading → Type 0
GoesOn keys d turns now old new = HasRoot keys d → IsLoading (sealing_of keys) d turns old.tree (is_claimed old.claims) → IsLoading (sealing_of keys) d now new.tree (is_claimed new.claims)

-- The node of a number is a directory, and this is what its folder shows.
pub record IsScanAt (keys : KeyPair) (contents : Option Disk) (tree : KeptTree) (number : ℕ) (scanned : ScannedFolder) : Type 0 where
  pub node : KeptNode
  pub identifier : List ℕ
  pub folder : List ℕ
  pub there : node_of tree number ≡ Some node
  pub what : node.what ≡ KeptDir identifier folder
  pub told : Told contents (λ d. IsFolder d (host_folder folder) → IsScanned (sealing_of keys) d identifier scanned.found scanned.foreign)

abbrev pub IsNoDirectory : KeptTree → ℕ → Type 0
IsNoDirectory tree number = (node : KeptNode) → node_of tree number ≡ Some node → folder_in node.what ≡ None

-- the disk of a load that is under way has too many nodes
abbrev pub FindsTooMany : KeyPair → Option Disk → ℕ → Loading → ℕ → Type 0
FindsTooMany keys contents turns old count = (count ≡ suc node_limit)
    × Told contents (λ d. HasRoot keys d → IsLoading (sealing_of keys) d turns old.tree (is_claimed old.claims) → HasNodes (sealing_of keys) d count)
