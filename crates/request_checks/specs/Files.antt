-- Which files can be written and resized, by what is held of them.
use Rattle.std.specs.Prelude.{◌≡◌, ℕ, ◌+◌, ◌≤◌, Some}
use Rattle.tree_model.specs.Step.{file_limit, gap_limit}
use Rattle.clear_tree.specs.Kept.{KeptFile}
use Rattle.file_chunks.specs.File.{clear_length}
use Rattle.live_tree.specs.Held.{HeldNode, HeldTree, node_of}

-- the node of a number is a file, whose host file of this size has a content of so many bytes
pub record IsFileOf (live : HeldTree) (number size clear : ℕ) : Type 0 where
  pub held : HeldNode
  pub there : node_of live number ≡ Some held
  pub file : held.kept.what ≡ KeptFile size
  pub sized : clear_length size ≡ Some clear

-- a file into which so many bytes can be written at a place
pub record IsWritable (live : HeldTree) (number at count : ℕ) : Type 0 where
  pub size : ℕ
  pub clear : ℕ
  pub is : IsFileOf live number size clear
  pub gap : at ≤ clear + gap_limit
  pub limit : at + count ≤ file_limit

-- a file that can have this length
pub record IsResizable (live : HeldTree) (number len : ℕ) : Type 0 where
  pub size : ℕ
  pub clear : ℕ
  pub is : IsFileOf live number size clear
  pub gap : len ≤ clear + gap_limit
  pub limit : len ≤ file_limit
