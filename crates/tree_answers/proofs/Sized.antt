-- Answers that are the step's if the contents have the lengths that their sizes give.
use Rattle.std.proofs.Common.{◌≡◌, ◌<◌, ◌^◌, ℕ, List, length, Some, None, refl, sym, ap, ap₂, ◌∙◌}
use Rattle.tree_model.specs.declared.refusal.Refusal.TheVariants as refusals
use Rattle.tree_model.specs.Wire.{spelled_stat}
use Rattle.tree_model.specs.Rows.{stat_at}
use Rattle.tree_model.specs.Asked.{PlainRequest, stat_of, stat}
use Rattle.tree_model.specs.Step.{Answer, refuses, node_of}
use Rattle.tree_model.proofs.Steps.{step_removed, step_worked}
use Rattle.live_tree.specs.Held.{HeldNode, HeldTree, live_row, live_rows, node_of as node_in}
use Rattle.tree_answers.specs.Answers.{IsSizedStepOf, stat_in}
use Rattle.tree_answers.proofs.Rows.{row_there, row_absent}
use Rattle.tree_answers.proofs.Steps.{answer_of}
use Rattle.tree_answers.proofs.Shown.{stat_is}

pub sized_removed : (tree : HeldTree) (request : PlainRequest) → node_in tree (node_of request) ≡ None → IsSizedStepOf tree request (refuses refusals.Removed)
sized_removed tree request none contents sizes second = sym (answer_of (step_removed (live_rows contents tree) request second (row_absent contents tree (node_of request) none)))

abbrev pub shows : ℕ → List ℕ → Answer
shows k bytes = record { reply = stat k; bytes = bytes }

pub stat_answered : (tree : HeldTree) (number : ℕ) (node : HeldNode) → node_in tree number ≡ Some node → node.version < 2 ^ 32 → (k : ℕ) (bytes : List ℕ) → k ≡ length (spelled_stat (stat_in number node)) → bytes ≡ spelled_stat (stat_in number node)
    → IsSizedStepOf tree (stat_of number) (shows k bytes)
stat_answered tree number node there small k bytes long is contents sizes second =
    let row = live_row contents (number, node) in
    let same : spelled_stat (stat_in number node) ≡ spelled_stat (stat_at row) = ap spelled_stat (sym (stat_is contents tree number node sizes small there)) in
    ap₂ shows (long ∙ ap (λ (w : List ℕ). length w) same) (is ∙ same)
    ∙ sym (answer_of (step_worked (live_rows contents tree) (stat_of number) second row (row_there contents tree number node there) refl))
