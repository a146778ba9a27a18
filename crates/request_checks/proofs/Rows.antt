-- The rows of a tree at its numbers, and what the sizes of its host files say of their contents.
use Rattle.std.proofs.Common.{◌≡◌, ℕ, Option, Some, None, ap, ◌∙◌}
use Rattle.std.specs.Option.{option_and_then, option_map, option_map_or}
use Rattle.tree_model.specs.declared.refusal.Refusal.TheVariants as refusals
use Rattle.tree_model.specs.Rows.{Content, Row, Rows, row_of}
use Rattle.tree_model.specs.Asked.{PlainRequest}
use Rattle.tree_model.specs.Step.{early, early_refusal, node_of as node_asked}
use Rattle.clear_tree.specs.Kept.{size_in}
use Rattle.live_tree.specs.Held.{HeldNode, HeldTree, live_row, live_rows, node_of, size_of}
use Rattle.live_tree.proofs.Rows.{row_is}
use Rattle.request_checks.specs.Plans.{HaveSizes}
use Rattle.request_checks.proofs.Deciding.{TellsSize}

pub row_there : (contents : ℕ → Content) (live : HeldTree) (number : ℕ) (node : HeldNode) → node_of live number ≡ Some node → row_of (live_rows contents live) number ≡ Some (live_row contents (number, node))
row_there contents live number node there = row_is contents live number ∙ ap (option_map (λ (node : HeldNode). live_row contents (number, node))) there

pub row_absent : (contents : ℕ → Content) (live : HeldTree) (number : ℕ) → node_of live number ≡ None → row_of (live_rows contents live) number ≡ None
row_absent contents live number none = row_is contents live number ∙ ap (option_map (λ (node : HeldNode). live_row contents (number, node))) none

pub tells_by : (contents : ℕ → Content) (live : HeldTree) (number : ℕ) (node : HeldNode) → HaveSizes live contents → node_of live number ≡ Some node
    → (size : ℕ) → size_in node.kept.what ≡ Some size → TellsSize (contents number) size
tells_by contents live number node have there size is =
    let found : size_of live number ≡ Some size = ap (option_and_then (λ (node : HeldNode). size_in node.kept.what)) there ∙ is in
    record { long = have.lengths number size found; bad = have.bad number size found }

-- what refuses a request early is known from the row of its node, if there is one
pub early_by : (rows : Rows) (request : PlainRequest) (row : Option Row) → row_of rows (node_asked request) ≡ row
    → early_refusal rows request ≡ option_map_or (λ row. early rows row request) row (Some refusals.Removed)
early_by rows request row is = ap (λ (o : Option Row). option_map_or (λ row. early rows row request) o (Some refusals.Removed)) is
