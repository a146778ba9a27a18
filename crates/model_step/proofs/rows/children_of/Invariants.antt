use Rattle.std.proofs.Common.{◌≡◌, ◌++◌, filter, drop}
use Rattle.tree_model.specs.Rows.{children_of, is_child}
use Rattle.model_step.specs.SeenRows.{nodes_seen, rows_seen}
use Rattle.model_step.proofs.rows.children_of.Given as goal

abbrev pub invariant-loop-row : goal.invariant-loop-row
invariant-loop-row l =
    nodes_seen l.children.items ++ filter (is_child l.parent) (nodes_seen (drop l.row-index l.row-items)) ≡ children_of (rows_seen l.rows) l.parent
