use Rattle.std.proofs.Common.{◌≡◌, ◌==◌, drop}
use Rattle.std.specs.List.{find}
use Rattle.tree_model.specs.Rows.{Row, row_of}
use Rattle.model_step.specs.SeenRows.{nodes_seen, rows_seen}
use Rattle.model_step.proofs.rows.row_of.Given as goal

abbrev pub invariant-loop-row : goal.invariant-loop-row
invariant-loop-row l = find (λ (row : Row). row.number == l.number) (nodes_seen (drop l.row-index l.row-items)) ≡ row_of (rows_seen l.rows) l.number
