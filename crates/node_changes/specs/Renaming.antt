-- Which changes of attributes give a node another name, and what such a change came to.
use Rattle.std.specs.Prelude.{◌≡◌, ℕ, List, Option, Some, None, Ok}
use Rattle.outside.specs.Disk.{Disk}
use Rattle.outside.specs.Images.{Log, now}
use Rattle.tree_model.specs.Rows.{Content, Row, row_of}
use Rattle.tree_model.specs.Asked.{PlainChange, change, done}
use Rattle.tree_model.specs.Names.{clear_name}
use Rattle.tree_model.specs.Step.{says, early_refusal, new_length, new_name}
use Rattle.clear_tree.specs.Walk.{Sealing}
use Rattle.live_tree.specs.Held.{HeldTree, live_rows}
use Rattle.node_changes.specs.Changed.{StandsOn, HasChanged}
use Rattle.node_changes.specs.Placed.{taken_for}

-- With these contents the change gives the node of a number this clear name and this mtime, if any, and no other length, and nothing refuses
-- it before the work.
pub record IsRenamingIn (live : HeldTree) (number : ℕ) (name : List ℕ) (modified : Option ℕ) (c : PlainChange) (contents : ℕ → Content) : Type 0 where
  pub row : Row
  pub there : row_of (live_rows contents live) number ≡ Some row
  pub none : early_refusal (live_rows contents live) (change number c) ≡ None
  pub asked : List ℕ
  pub named : new_name row c ≡ Some asked
  pub clear : clear_name asked ≡ Ok name
  pub length : new_length row c ≡ None
  pub dated : c.modified ≡ modified

-- and with all contents that the tree may be on
abbrev pub IsRenaming : Sealing → HeldTree → List (List ℕ × ℕ) → ℕ → List ℕ → Option ℕ → PlainChange → Type 0
IsRenaming s live claims number name modified c = (d : Disk) (contents : ℕ → Content) → StandsOn s d live claims contents → IsRenamingIn live number name modified c contents

-- It was made, at a place that isn't taken.
pub record HasRenamed (s : Sealing) (number : ℕ) (c : PlainChange) (second : ℕ) (live live' : HeldTree) (claims claims' : List (List ℕ × ℕ)) (old new : Log) : Type 0 where
  pub changed : HasChanged s (change number c) second (says done) live live' claims claims' old new
  pub untaken : taken_for s (now old) live (change number c) None ≡ None
