use Rattle.std.proofs.Common.{◌≡◌, take, map}
use Rattle.std.specs.List.{flat_map}
use Rattle.demonstration.specs.Summary.{row_line, plain_row}
use Rattle.demonstration.proofs.rows.row_lines.Given as goal

abbrev pub invariant-loop-node : goal.invariant-loop-node
invariant-loop-node l = l.lines.items ≡ flat_map row_line (map plain_row (take l.node-index l.nodes))
