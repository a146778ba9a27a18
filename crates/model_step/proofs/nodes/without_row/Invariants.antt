use Rattle.std.proofs.Common.{◌≡◌, ◌==◌, ◌++◌, not, filter, drop}
use Rattle.tree_model.specs.Rows.{Row}
use Rattle.model_step.specs.SeenRows.{nodes_seen}
use Rattle.model_step.proofs.nodes.without_row.Given as goal

abbrev pub invariant-loop-row : goal.invariant-loop-row
invariant-loop-row l =
    nodes_seen l.nodes.items ++ filter (λ (row : Row). not (row.number == l.old.number)) (nodes_seen (drop l.row-index l.row-items))
    ≡ filter (λ (row : Row). not (row.number == l.old.number)) (nodes_seen l.row-items)
