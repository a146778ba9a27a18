use Rattle.std.proofs.Common.{◌≡◌, ◌≤◌, ◌-◌, length}
use Rattle.outside.specs.Calls.{Told}
use Rattle.outside.specs.Images.{disk_in}
use Rattle.tree_model.specs.Step.{node_limit}
use Rattle.tree_loading.specs.Under.{IsReady}
use Rattle.tree_loading.specs.Turned.{GoesOn}
use Rattle.tree_loading.proofs.loading.walk.Given as goal

-- the nodes so far had their turn
abbrev pub invariant-loop-number : goal.invariant-loop-number
invariant-loop-number g l =
    record {
      log : g.R.Reads.log l.from ≡ g.R.Reads.log l.fn.from;
      changes : g.R.Reads.changes l.from ≡ g.R.Reads.changes l.fn.from;
      later : g.R.Reads.faults l.fn.from ≤ g.R.Reads.faults l.from;
      ready : IsReady l.keys l.loading.tree l.number;
      inside : l.number ≤ length l.loading.tree.nodes;
      turned : Told (disk_in (g.R.Reads.log l.fn.from)) (λ d. GoesOn l.keys d 0 l.number l.fn.loading l.loading);
    }

abbrev pub decreases-loop-number : goal.decreases-loop-number
decreases-loop-number g l = node_limit - l.number
