use Rattle.std.proofs.Common.{◌≡◌, ◌-◌, ◌≤◌, length, take}
use Rattle.outside.specs.Calls.{TakesFront}
use Rattle.sync_client.proofs.full.read_full.Given as goal

abbrev pub invariant-loop-count : goal.invariant-loop-count
invariant-loop-count g l = record {
  within : l.count ≤ length l.out;
  read : TakesFront (g.L.Link.left l.fn.link) (g.L.Link.left l.link) (take l.count l.out);
  later : g.L.Link.read_faults l.fn.link ≤ g.L.Link.read_faults l.link;
  taken : g.L.Link.taken l.link ≡ g.L.Link.taken l.fn.link;
  writes : g.L.Link.write_faults l.link ≡ g.L.Link.write_faults l.fn.link;
}

abbrev pub decreases-loop-count : goal.decreases-loop-count
decreases-loop-count g l = length l.initial.out - l.count
