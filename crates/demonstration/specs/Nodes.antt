-- The nodes of a tree as it was loaded, one after another by their numbers.
use Rattle.std.specs.Prelude.{◌≡◌, ◌≢◌, ℕ, suc, List, [], ◌∷◌, ◌++◌, true, false, Option, Some, slice_get}
use Rattle.outside.specs.Calls.{Told}
use Rattle.outside.specs.Disk.{Disk}
use Rattle.vault_keys.specs.Keys.{KeyPair}
use Rattle.tree_model.specs.Rows.{chunks, root}
use Rattle.file_chunks.specs.File.{content_of}
use Rattle.content_reader.specs.Reading.{IsFileOf}
use Rattle.clear_tree.specs.Walk.{Path}
use Rattle.clear_tree.specs.Kept.{What, KeptFile, KeptLink, KeptDir, KeptBad, KeptNode, KeptTree, node_of, path_of, size_of}
use Rattle.demonstration.specs.declared.rows.DemoRow.{DemoRow}
use Rattle.demonstration.specs.Left.{IsDamaged, IsHashed, path_text}

-- a path leads to the node of a number
abbrev pub IsPlaceOf : KeptTree → ℕ → Path → Type 0
IsPlaceOf tree number [] = number ≡ root
IsPlaceOf tree number (name ∷ above) =
    (node : KeptNode) × (node_of tree number ≡ Some node) × (number ≢ root) × (node.name ≡ name) × IsPlaceOf tree node.parent above

-- the path of a node of this name as text: the name itself in the root, and else after the path of its parent's row
pub data IsTextBelow (rows : List DemoRow) (parent : ℕ) (name text : List ℕ) : Type 0 where
  in_root : parent ≡ root → text ≡ name → IsTextBelow rows parent name text
  below : (i : ℕ) (above : DemoRow) → parent ≡ suc i → slice_get rows i ≡ Some above → text ≡ above.path.items ++ 47 ∷ name → IsTextBelow rows parent name text

-- P of the sealed bytes of the host file of a file or a link, on a disk that is told
pub record HasHost (disk : Option Disk) (tree : KeptTree) (number : ℕ) (P : List ℕ → Type 0) : Type 0 where
  pub path : List (List ℕ)
  pub size : ℕ
  pub path_is : path_of tree number ≡ Some path
  pub size_is : size_of tree number ≡ Some size
  pub bytes : Told disk (λ d. (sealed : List ℕ) → IsFileOf d path size sealed → P sealed)

-- a row is that of what a node is
abbrev pub IsWhat : KeyPair → Option Disk → KeptTree → ℕ → What → DemoRow → Type 0
IsWhat keys disk tree number (KeptFile size) row = (row.is_dir ≡ false) × HasHost disk tree number (λ sealed. IsHashed (content_of keys sealed) row.len row.hash)
IsWhat keys disk tree number (KeptLink size) row = (row.is_dir ≡ false) × HasHost disk tree number (λ sealed. IsHashed (content_of keys sealed) row.len row.hash)
IsWhat keys disk tree number (KeptDir identifier folder) row = row.is_dir ≡ true
IsWhat keys disk tree number (KeptBad text) row = (row.is_dir ≡ false) × IsHashed (chunks true []) row.len row.hash

-- a row is that of the node of a number
pub record IsRowOf (keys : KeyPair) (disk : Option Disk) (tree : KeptTree) (number : ℕ) (row : DemoRow) : Type 0 where
  pub node : KeptNode
  pub there : node_of tree number ≡ Some node
  pub path : Path
  pub at : IsPlaceOf tree number path
  pub text : row.path.items ≡ path_text path
  pub what : IsWhat keys disk tree number node.what row

-- the rows are those of the nodes after the root, by their numbers
abbrev pub AreRowsOf : KeyPair → Option Disk → KeptTree → List DemoRow → Type 0
AreRowsOf keys disk tree rows = (i : ℕ) (row : DemoRow) → slice_get rows i ≡ Some row → IsRowOf keys disk tree (suc i) row

-- ---- why there is no row

-- the content of the node of a number can't be read whole, if it is a file or a link
abbrev pub IsUnreadHost : KeyPair → Option Disk → KeptTree → ℕ → Type 0
IsUnreadHost keys disk tree number = (path : List (List ℕ)) (size : ℕ) → path_of tree number ≡ Some path → size_of tree number ≡ Some size
    → Told disk (λ d. (sealed : List ℕ) → IsFileOf d path size sealed → IsDamaged (content_of keys sealed))

-- it is one, and can't be read whole
abbrev pub IsUnreadWhat : KeyPair → Option Disk → KeptTree → ℕ → What → Type 0
IsUnreadWhat keys disk tree number (KeptFile size) = IsUnreadHost keys disk tree number
IsUnreadWhat keys disk tree number (KeptLink size) = IsUnreadHost keys disk tree number
IsUnreadWhat keys disk tree number (KeptDir identifier folder) = ⊥
IsUnreadWhat keys disk tree number (KeptBad text) = ⊥

-- some node is one
pub record HasUnread (keys : KeyPair) (disk : Option Disk) (tree : KeptTree) : Type 0 where
  pub number : ℕ
  pub host : HasHost disk tree number (λ sealed. IsDamaged (content_of keys sealed))
