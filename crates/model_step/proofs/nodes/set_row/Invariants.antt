use Rattle.std.proofs.Common.{◌≡◌, ◌==◌, ◌++◌, map, drop, if◌then◌else◌}
use Rattle.tree_model.specs.Rows.{Row}
use Rattle.tree_model.specs.Step.{set_row}
use Rattle.model_step.specs.SeenRows.{nodes_seen, row_seen, rows_seen}
use Rattle.model_step.proofs.nodes.set_row.Given as goal

abbrev pub invariant-loop-row : goal.invariant-loop-row
invariant-loop-row l =
    nodes_seen l.nodes.items ++ map (λ (row : Row). if row.number == l.new.number then row_seen l.new else row) (nodes_seen (drop l.row-index l.row-items))
    ≡ (set_row (rows_seen l.rows) (row_seen l.new)).nodes
