use Rattle.std.proofs.Common.{◌≡◌, drop}
use Rattle.std.specs.List.{list_any}
use Rattle.tree_model.specs.Rows.{is_child}
use Rattle.tree_model.specs.Step.{has_children}
use Rattle.model_step.specs.SeenRows.{nodes_seen, rows_seen}
use Rattle.model_step.proofs.rows.has_children.Given as goal

abbrev pub invariant-loop-row : goal.invariant-loop-row
invariant-loop-row l = list_any (is_child l.number) (nodes_seen (drop l.row-index l.row-items)) ≡ has_children (rows_seen l.rows) l.number
