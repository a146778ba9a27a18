use Rattle.std.proofs.Common.{◌≡◌, ◌+◌, ◌≤◌, ◌++◌, List, length, reverse, vec_capacity}
use Rattle.shared_tree.specs.Workers.{AreCrewsOf, AreReady}
use Rattle.shared_tree.proofs.workers.dismiss.Given as goal

abbrev pub invariant-loop-crew : goal.invariant-loop-crew
invariant-loop-crew g l = record {
  room : (length l.seats.items + length l.crews.items ≤ vec_capacity l.seats) × (length l.workers.items + length l.crews.items ≤ vec_capacity l.workers);
  ready : AreReady g.B.Start.is g.E.Entropy.faults (reverse l.seats.items) (reverse l.workers.items);
  dismissed : (cs : List _) × (l.fn.crews.items ≡ l.crews.items ++ cs) × AreCrewsOf (reverse l.seats.items) (reverse l.workers.items) cs;
}

abbrev pub decreases-loop-crew : goal.decreases-loop-crew
decreases-loop-crew g l = length l.crews.items
