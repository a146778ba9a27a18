-- What refuses a write, a truncation and a creation early, by what is held of the node.
use Rattle.std.proofs.Common.{◌≡◌, ℕ, true, List, length, Option, Some, None, sym, ap, ◌∙◌}
use Rattle.tree_model.specs.declared.refusal.Refusal.{Refusal}
use Rattle.tree_model.specs.declared.refusal.Refusal.TheVariants as refusals
use Rattle.tree_model.specs.Asked.{create, open_node, write}
use Rattle.tree_model.specs.Step.{truncates}
use Rattle.live_tree.specs.Held.{HeldNode, HeldTree, live_row, live_rows, node_of}
use Rattle.request_checks.specs.Plans.{IsCreationRefusal, IsOpenRefusal, IsWriteRefusal}
use Rattle.request_checks.specs.Deciding.{creation_fault, length_fault, write_fault}
use Rattle.request_checks.proofs.Deciding.{creation_is, truncation_is, write_is}
use Rattle.request_checks.proofs.Rows.{early_by, row_absent, row_there, tells_by}

-- ---- of a number without a node

pub write_removed : (live : HeldTree) (number at len : ℕ) → node_of live number ≡ None → IsWriteRefusal live number at len (Some refusals.Removed)
write_removed live number at len none contents have bytes long =
    early_by (live_rows contents live) (write number at bytes) None (row_absent contents live number none)

pub open_removed : (live : HeldTree) (number mode : ℕ) → node_of live number ≡ None → IsOpenRefusal live number mode (Some refusals.Removed)
open_removed live number mode none contents have =
    early_by (live_rows contents live) (open_node number mode) None (row_absent contents live number none)

pub creation_removed : (live : HeldTree) (number : ℕ) (name : List ℕ) → node_of live number ≡ None → IsCreationRefusal live number name (Some refusals.Removed)
creation_removed live number name none contents is_dir mode =
    early_by (live_rows contents live) (create number name is_dir mode) None (row_absent contents live number none)

-- ---- of a node

module _ (live : HeldTree) (number : ℕ) (node : HeldNode) (there : node_of live number ≡ Some node) where
  pub write_refused : (at len : ℕ) (refusal : Option Refusal) → refusal ≡ write_fault node.kept.what at len → IsWriteRefusal live number at len refusal
  write_refused at len refusal is contents have bytes long =
      early_by (live_rows contents live) (write number at bytes) (Some (live_row contents (number, node))) (row_there contents live number node there)
      ∙ write_is node.kept.what (contents number) at (length bytes) (tells_by contents live number node have there)
      ∙ ap (write_fault node.kept.what at) long ∙ sym is

  pub truncation_refused : (mode : ℕ) (refusal : Option Refusal) → truncates mode ≡ true → refusal ≡ length_fault node.kept.what 0 → IsOpenRefusal live number mode refusal
  truncation_refused mode refusal truncating is contents have =
      early_by (live_rows contents live) (open_node number mode) (Some (live_row contents (number, node))) (row_there contents live number node there)
      ∙ truncation_is node.kept.what (contents number) mode truncating (tells_by contents live number node have there) ∙ sym is

  pub creation_refused : (name : List ℕ) (refusal : Option Refusal) → refusal ≡ creation_fault node.kept.what name → IsCreationRefusal live number name refusal
  creation_refused name refusal is contents is_dir mode =
      early_by (live_rows contents live) (create number name is_dir mode) (Some (live_row contents (number, node))) (row_there contents live number node there)
      ∙ creation_is node.kept.what name ∙ sym is
