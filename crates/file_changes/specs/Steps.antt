-- Which requests change the content of a file, and what the step makes of them.
use Rattle.std.specs.Prelude.{◌≡◌, ℕ, List, Option, Some, None}
use Rattle.outside.specs.Disk.{Disk}
use Rattle.tree_model.specs.declared.refusal.Refusal.TheVariants as refusals
use Rattle.tree_model.specs.Rows.{Content, Row, row_of}
use Rattle.tree_model.specs.Contents.{resized}
use Rattle.tree_model.specs.Asked.{PlainRequest}
use Rattle.tree_model.specs.Step.{Answer, early_refusal, refuses, set_row, step, stepped, with_content}
use Rattle.clear_tree.specs.Walk.{Sealing}
use Rattle.live_tree.specs.Held.{HeldTree, live_rows}
use Rattle.node_changes.specs.Changed.{StandsOn}

-- the row with an mtime, if one is given
abbrev pub dated : Option ℕ → Row → Row
dated None row = row
dated (Some modified) row = record row { modified = modified }

-- With these contents the step of a request gives the file of a number the content that a change makes of its own, besides an mtime, if one
-- is given, and this answer; if the change makes none of it, the step refuses it as damaged.
pub record IsContentStep (live : HeldTree) (number : ℕ) (change : Content → Option Content) (modified : Option ℕ) (second : ℕ) (request : PlainRequest) (answer : Answer) (contents : ℕ → Content) : Type 0 where
  pub row : Row
  pub there : row_of (live_rows contents live) number ≡ Some row
  pub late : early_refusal (live_rows contents live) request ≡ None
  pub made : (content : Content) → change row.content ≡ Some content
      → step (live_rows contents live) request second ≡ stepped (set_row (live_rows contents live) (dated modified (with_content row content second))) answer
  pub damaged : change row.content ≡ None → (step (live_rows contents live) request second).answer ≡ refuses refusals.Damaged

-- the same with all contents that the tree may be on
abbrev pub ChangesContent : Sealing → HeldTree → List (List ℕ × ℕ) → ℕ → (Content → Option Content) → Option ℕ → ℕ → PlainRequest → Answer → Type 0
ChangesContent s live claims number change modified second request answer =
    (d : Disk) (contents : ℕ → Content) → StandsOn s d live claims contents → IsContentStep live number change modified second request answer contents

-- the request gives the file another length
abbrev pub IsResizing : Sealing → HeldTree → List (List ℕ × ℕ) → ℕ → ℕ → Option ℕ → ℕ → PlainRequest → Answer → Type 0
IsResizing s live claims number len modified second request answer = ChangesContent s live claims number (λ content. resized content len) modified second request answer
