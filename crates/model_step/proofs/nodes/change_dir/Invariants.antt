use Rattle.std.proofs.Common.{◌≡◌, ◌==◌, ◌++◌, map, drop, if◌then◌else◌}
use Rattle.tree_model.specs.Rows.{Row}
use Rattle.tree_model.specs.Step.{change_dir, changed_at}
use Rattle.model_step.specs.SeenRows.{nodes_seen, rows_seen}
use Rattle.model_step.proofs.nodes.change_dir.Given as goal

abbrev pub invariant-loop-row : goal.invariant-loop-row
invariant-loop-row l =
    nodes_seen l.nodes.items ++ map (λ (row : Row). if row.number == l.number then changed_at l.now row else row) (nodes_seen (drop l.row-index l.row-items))
    ≡ (change_dir (rows_seen l.rows) l.number l.now).nodes
