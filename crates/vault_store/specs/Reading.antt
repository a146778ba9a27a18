-- Which nodes of a tree have bytes to be read, and what refuses the others.
use Rattle.std.specs.Prelude.{◌≡◌, ⊤, ℕ, false, Option, Some, None, if◌then◌else◌}
use Rattle.outside.specs.Disk.{Disk}
use Rattle.tree_model.specs.Asked.{PlainRequest, look, walk, open_node, create, read, list, write, remove, stat_of, change, sync}
use Rattle.tree_model.specs.Rows.{Content}
use Rattle.tree_model.specs.declared.refusal.Refusal.{Refusal}
use Rattle.tree_model.specs.declared.refusal.Refusal.TheVariants as refusals
use Rattle.file_chunks.specs.File.{is_bad_size}
use Rattle.clear_tree.specs.Walk.{Sealing}
use Rattle.clear_tree.specs.Kept.{What, KeptFile, KeptLink, KeptDir, KeptBad}
use Rattle.live_tree.specs.Held.{HeldNode, HeldTree, node_of, path_of, size_of}
use Rattle.live_tree_laws.specs.Found.{AreLiveContents}
use Rattle.content_reader.specs.declared.reader.SealedFile.{SealedFile}

-- what refuses that a node is read, before its host file is looked at. No content has a bad size
abbrev pub read_fault_of : What → Option Refusal
read_fault_of (KeptFile size) = if is_bad_size size then Some refusals.Damaged else None
read_fault_of (KeptLink size) = if is_bad_size size then Some refusals.Damaged else None
read_fault_of (KeptDir identifier folder) = Some refusals.IsADirectory
read_fault_of (KeptBad text) = Some refusals.Damaged

abbrev pub read_fault : Option HeldNode → Option Refusal
read_fault None = Some refusals.Removed
read_fault (Some node) = read_fault_of node.kept.what

-- the host file of the node of a number, of which the size is good
pub record IsHostOf (tree : HeldTree) (number : ℕ) (host : SealedFile) : Type 0 where
  pub node : HeldNode
  pub there : node_of tree number ≡ Some node
  pub path : path_of tree number ≡ Some host.path
  pub size : size_of tree number ≡ Some host.size
  pub good : is_bad_size host.size ≡ false

-- contents of a tree's files and links on a disk
pub record HasContents (s : Sealing) (live : HeldTree) (d : Disk) : Type 0 where
  pub contents : ℕ → Content
  pub are : AreLiveContents s d live contents

-- the request is no sync
abbrev pub IsUnsynced : PlainRequest → Type 0
IsUnsynced (look n) = ⊤
IsUnsynced (walk n names) = ⊤
IsUnsynced (open_node n mode) = ⊤
IsUnsynced (create n name is_dir mode) = ⊤
IsUnsynced (read n at most) = ⊤
IsUnsynced (list n after most) = ⊤
IsUnsynced (write n at bytes) = ⊤
IsUnsynced (remove n) = ⊤
IsUnsynced (stat_of n) = ⊤
IsUnsynced (change n c) = ⊤
IsUnsynced (sync n) = ⊥
