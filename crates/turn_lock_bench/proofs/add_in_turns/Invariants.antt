use Rattle.turn_lock.specs.Seats.{IsIdle}
use Rattle.turn_lock_bench.proofs.add_in_turns.Given as goal

abbrev pub invariant-loop : goal.invariant-loop
invariant-loop g l = IsIdle l.lock.id l.seat
