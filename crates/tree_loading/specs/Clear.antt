-- The clear tree that a vault's disk stands for under its keys (Cryptomator's vault format 8).
use Rattle.std.specs.Prelude.{◌≡◌, ℕ, List, [], Option}
use Rattle.outside.specs.Disk.{Disk}
use Rattle.outside.specs.Calls.{Told}
use Rattle.vault_keys.specs.Keys.{KeyPair}
use Rattle.tree_model.specs.Rows.{Rows}
use Rattle.vault_names.specs.Folder.{folder_of}
use Rattle.clear_tree.specs.Rows.{IsClear as IsClearUnder}
use Rattle.clear_tree.specs.Kept.{KeptTree, IsKept, TellsRows}
use Rattle.clear_tree.specs.Loading.{HasNodes}
use Rattle.tree_loading.specs.Format.{sealing_of}

-- the folder of the root, whose identifier is the empty text
abbrev pub root_folder : KeyPair → List (List ℕ)
root_folder keys = folder_of keys []

-- the rows that a disk stands for under these keys, unlocked at this second
abbrev pub IsClear : KeyPair → Disk → ℕ → Rows → Type 0
IsClear keys disk now rows = IsClearUnder (sealing_of keys) disk now rows

-- What is kept of a disk determines the rows that it stands for, with the contents of its files and
-- links.
abbrev pub LoadingIsClear : Type 0
LoadingIsClear = (keys : KeyPair) (disk : Disk) (tree : KeptTree) → IsKept (sealing_of keys) disk tree → TellsRows (sealing_of keys) disk tree

-- The disk that is told has more nodes than a tree may have: this many at least.
pub record HasTooMany (keys : KeyPair) (contents : Option Disk) (count : ℕ) : Type 0 where
  pub beyond : count ≡ 1048577
  pub nodes : Told contents (λ d. HasNodes (sealing_of keys) d count)
