use Rattle.std.proofs.Common.{◌≡◌, ◌-◌, ◌≤◌, length, take}
use Rattle.outside.specs.Calls.{Extends}
use Rattle.sync_client.proofs.full.write_full.Given as goal

abbrev pub invariant-loop-count : goal.invariant-loop-count
invariant-loop-count g l = record {
  within : l.count ≤ length l.message;
  wrote : Extends (g.L.Link.taken l.fn.link) (g.L.Link.taken l.link) (take l.count l.message);
  later : g.L.Link.write_faults l.fn.link ≤ g.L.Link.write_faults l.link;
  left : g.L.Link.left l.link ≡ g.L.Link.left l.fn.link;
  reads : g.L.Link.read_faults l.link ≡ g.L.Link.read_faults l.fn.link;
}

abbrev pub decreases-loop-count : goal.decreases-loop-count
decreases-loop-count g l = length l.message - l.count
