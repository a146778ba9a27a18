use Rattle.std.proofs.Common.{◌≡◌, ◌+◌, ◌≤◌, length, vec_capacity}
use Rattle.std.specs.List.{AllByRecursion}
use Rattle.shared_tree.specs.Workers.{AreReady}
use Rattle.shared_tree.proofs.Crews.{Hired}
use Rattle.shared_tree.proofs.workers.hire.Given as goal

abbrev pub invariant-loop-seat : goal.invariant-loop-seat
invariant-loop-seat g l = record {
  here : AllByRecursion (λ seat. seat.lock ≡ l.shared.id) l.seats.items;
  ready : AreReady g.B.Start.is g.E.Entropy.faults l.seats.items l.workers.items;
  room : length l.crews.items + length l.workers.items ≤ vec_capacity l.crews;
  caps : (vec_capacity l.seats ≡ vec_capacity l.fn.seats) × (vec_capacity l.workers ≡ vec_capacity l.fn.workers);
  hired : Hired l.fn.seats.items l.seats.items l.fn.workers.items l.workers.items l.crews.items;
}

abbrev pub decreases-loop-seat : goal.decreases-loop-seat
decreases-loop-seat g l = length l.seats.items
