use Rattle.std.proofs.Common.{◌≡◌, ◌+◌, length}
use Rattle.outside.specs.Images.{disk_in}
use Rattle.demonstration.specs.Nodes.{AreRowsOf}
use Rattle.demonstration.proofs.nodes.rows_of.Given as goal

-- the rows of the nodes before this one
abbrev pub invariant-loop-number : goal.invariant-loop-number
invariant-loop-number g l = record {
  log : g.R.Reads.log l.folder ≡ g.R.Reads.log l.fn.folder;
  count : length l.rows.items + 1 ≡ l.number;
  rows : AreRowsOf l.keys (disk_in (g.R.Reads.log l.fn.folder)) l.tree l.rows.items;
}
