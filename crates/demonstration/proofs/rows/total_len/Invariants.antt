use Rattle.std.proofs.Common.{◌≡◌, ◌*◌, ◌≤◌, ◌^◌, take, map, sum_by}
use Rattle.demonstration.specs.Summary.{bytes_in, plain_row}
use Rattle.demonstration.proofs.rows.total_len.Given as goal

abbrev pub invariant-loop-node : goal.invariant-loop-node
invariant-loop-node l = record {
  summed : l.total ≡ sum_by bytes_in (map plain_row (take l.node-index l.nodes));
  small : l.total ≤ l.node-index * 2 ^ 64;
}
