-- A tree under way, as the loop that loads it keeps it.
use Rattle.std.specs.Prelude.{◌≡◌, ◌≢◌, ◌≤◌, ◌<◌, ◌-◌, ℕ, List, length, Bool, Some, IsSome, IsTrue}
use Rattle.std.specs.declared.cmp.Ordering.TheVariants.{Less}
use Rattle.std.specs.BTreeSet.{BTreeSet, contains}
use Rattle.std.specs.Ordering.{nat_cmp}
use Rattle.std.specs.Option.{option_and_then}
use Rattle.std.specs.Cmp.Lexicographic.{slice_cmp}
use Rattle.vault_path.specs.Parts.{is_path}
use Rattle.vault_keys.specs.Keys.{KeyPair}
use Rattle.tree_model.specs.Rows.{root}
use Rattle.tree_model.specs.Step.{node_limit}
use Rattle.clear_tree.specs.Places.{host_folder}
use Rattle.clear_tree.specs.Kept.{What, KeptFile, KeptLink, KeptDir, KeptBad, KeptNode, KeptTree, folder_in, node_of}
use Rattle.clear_tree.specs.Built.{place_cmp, place_of}
use Rattle.tree_loading.specs.Format.{sealing_of}

-- whether a folder is among those that are named
abbrev pub is_claimed : BTreeSet (List ℕ) → List ℕ → Bool
is_claimed claims folder = contains (slice_cmp nat_cmp) claims folder

-- ---- what holds of it on any disk

-- a directory has the folder of its identifier, and paths can be made of it
pub record HasFolder (keys : KeyPair) (identifier folder : List ℕ) : Type 0 where
  pub own : folder ≡ (sealing_of keys).folder_of identifier
  pub path : IsTrue (is_path (host_folder folder))

abbrev pub HasOwnFolder : KeyPair → What → Type 0
HasOwnFolder keys (KeptFile size) = Unit {0}
HasOwnFolder keys (KeptLink size) = Unit {0}
HasOwnFolder keys (KeptDir identifier folder) = HasFolder keys identifier folder
HasOwnFolder keys (KeptBad text) = Unit {0}

abbrev pub HaveOwnFolders : KeyPair → KeptTree → Type 0
HaveOwnFolders keys tree = (number : ℕ) (node : KeptNode) → node_of tree number ≡ Some node → HasOwnFolder keys node.what

-- a name of a directory follows the last node, if that isn't the root
abbrev pub IsBehindLast : KeptTree → ℕ → List ℕ → Type 0
IsBehindLast tree parent name = (last : KeptNode) → node_of tree (length tree.nodes - 1) ≡ Some last → length tree.nodes - 1 ≢ root
    → place_cmp (place_of last) (parent, name) ≡ Less

-- the last node, if that isn't the root, is in a directory before this number
abbrev pub EndsBefore : KeptTree → ℕ → Type 0
EndsBefore tree number = (last : KeptNode) → node_of tree (length tree.nodes - 1) ≡ Some last → length tree.nodes - 1 ≢ root → last.parent < number

-- the node of a number is a directory
abbrev pub IsDirectoryAt : KeptTree → ℕ → Type 0
IsDirectoryAt tree number = IsSome (option_and_then (λ (node : KeptNode). folder_in node.what) (node_of tree number))

-- the tree before the turn of a number
pub record IsReady (keys : KeyPair) (tree : KeptTree) (number : ℕ) : Type 0 where
  pub few : length tree.nodes ≤ node_limit
  pub before : EndsBefore tree number
  pub folders : HaveOwnFolders keys tree
