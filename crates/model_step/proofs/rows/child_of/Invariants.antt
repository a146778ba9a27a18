use Rattle.std.proofs.Common.{◌≡◌, ◌==◌, ◌&&◌, not, drop}
use Rattle.std.specs.List.{find}
use Rattle.std.specs.Str.{bytes_eq}
use Rattle.tree_model.specs.Rows.{Row, child_of, root}
use Rattle.model_step.specs.SeenRows.{nodes_seen, rows_seen}
use Rattle.model_step.proofs.rows.child_of.Given as goal

abbrev pub invariant-loop-row : goal.invariant-loop-row
invariant-loop-row l =
    find (λ (row : Row). (row.parent == l.parent) && bytes_eq row.name l.name && not (row.number == root)) (nodes_seen (drop l.row-index l.row-items))
    ≡ child_of (rows_seen l.rows) l.parent l.name
