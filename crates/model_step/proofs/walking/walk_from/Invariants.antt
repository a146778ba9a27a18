use Rattle.std.proofs.Common.{◌≡◌, ◌++◌, drop}
use Rattle.tree_model.specs.Step.{walk_from}
use Rattle.model_step.specs.SeenRows.{bytes_seen, row_seen, rows_seen}
use Rattle.model_step.proofs.walking.walk_from.Given as goal

abbrev pub invariant-loop-name : goal.invariant-loop-name
invariant-loop-name l =
    let rest = walk_from (rows_seen l.rows) (row_seen l.at) (bytes_seen (drop l.name-index l.names)) in
    (l.qids.items ++ rest.0, rest.1) ≡ walk_from (rows_seen l.rows) (row_seen l.from) (bytes_seen l.names)
