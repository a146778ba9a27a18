use Rattle.std.proofs.Common.{arith, ◌≡◌, List, sym, subst, ◌∙◌}
use Rattle.std.specs.List.{All}
use Rattle.turn_lock.specs.SeatView.{SeatView}
use Rattle.turn_lock.specs.Seats.{IsIdle}
use Rattle.turn_lock.proofs.SeatLists.{new_seats_idle, length-new_seats}
use Rattle.turn_lock_bench.proofs.counted_in_turns.Goals as goal

pub all_in_turns-requires-after_bounds : goal.all_in_turns-requires-after_bounds
all_in_turns-requires-after_bounds g c κs within = subst (λ (l : List (SeatView (Unit {0}))). All (IsIdle c.in-Ok.lock.id) l) (sym (c.as_mut_slice.ensures.value ∙ c.in-Ok.ensures.ok.1))
    (new_seats_idle c.in-Ok.lock.id 0 c.args.threads)

pub close-requires-clause-all : goal.close-requires-clause-all
close-requires-clause-all g c =
    let count = length-new_seats c.in-Ok.lock.id 0 c.args.threads c.in-Ok.seats.items c.in-Ok.ensures.ok.1 in
    let len = c.in-Ok.seats.ok in
    let some_seat = c.requires in
    let all : c.args.threads ≡ c.in-Ok.seats.len = omega arith in
    (omega arith, c.in-Ok.ensures.ok.0 ∙ all)
