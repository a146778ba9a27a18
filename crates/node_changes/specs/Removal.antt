-- The removal of a node, by what is held of the tree.
use Rattle.std.specs.Prelude.{◌≡◌, ◌⊎◌, ℕ, List, Option, Some, IsTrue, MatchOption}
use Rattle.vault_path.specs.Parts.{is_part}
use Rattle.deeds.specs.Deeds.{PlainDeed}
use Rattle.tree_model.specs.declared.refusal.Refusal.{Refusal}
use Rattle.tree_model.specs.Rows.{Content}
use Rattle.tree_model.specs.Asked.{remove}
use Rattle.tree_model.specs.Step.{early_refusal}
use Rattle.clear_tree.specs.Kept.{KeptDir, folder_in}
use Rattle.tree_deed_laws.specs.Deeds.{Place, remove_deeds}
use Rattle.live_tree.specs.Held.{HeldNode, HeldTree, node_of, live_rows}
use Rattle.name_places.specs.Laws.{Shrinks}

-- the step's refusal of a removal before the work, whatever the contents are
abbrev pub IsRemovalRefusal : HeldTree → ℕ → Option Refusal → Type 0
IsRemovalRefusal live number refusal = (contents : ℕ → Content) → early_refusal (live_rows contents live) (remove number) ≡ refusal

-- the node is in a directory of this identifier and this folder
pub record IsDirectoryAbove (live : HeldTree) (held : HeldNode) (identifier folder : List ℕ) : Type 0 where
  pub above : HeldNode
  pub up : node_of live held.kept.parent ≡ Some above
  pub is : above.kept.what ≡ KeptDir identifier folder

-- the node is in a directory of this folder
pub record IsFolderAbove (live : HeldTree) (held : HeldNode) (folder : List ℕ) : Type 0 where
  pub above : HeldNode
  pub up : node_of live held.kept.parent ≡ Some above
  pub is : folder_in above.kept.what ≡ Some folder

-- where a node is in this folder
abbrev pub place_in : List ℕ → HeldNode → Place
place_in folder held = record { folder = folder; entry = held.kept.entry; long = held.kept.long }

-- the deeds that remove the node of a number
pub record AreRemoval (live : HeldTree) (number : ℕ) (deeds : List PlainDeed) : Type 0 where
  pub held : HeldNode
  pub there : node_of live number ≡ Some held
  pub folder : List ℕ
  pub above : IsFolderAbove live held folder
  pub are : deeds ≡ remove_deeds (place_in folder held) held.kept.what

-- No disk has such a node: no host path can be made of its entry, or it is a directory whose own folder is that of the directory it is in.
pub record IsMisplaced (live : HeldTree) (number : ℕ) : Type 0 where
  pub held : HeldNode
  pub there : node_of live number ≡ Some held
  pub folder : List ℕ
  pub above : IsFolderAbove live held folder
  pub amiss : (IsTrue (is_part held.kept.entry) → ⊥) ⊎ (folder_in held.kept.what ≡ Some folder)

-- the claim of a node that goes is taken out, if it is a directory
abbrev pub IsUnclaimed : HeldNode → List (List ℕ × ℕ) → List (List ℕ × ℕ) → Type 0
IsUnclaimed held old new = MatchOption (folder_in held.kept.what) (new ≡ old) (λ folder. Shrinks old new folder)
