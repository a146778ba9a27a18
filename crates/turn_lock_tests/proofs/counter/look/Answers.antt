use Rattle.std.proofs.Common.{arith, ◌≡◌, None, refl, sym, ap, ◌∙◌}
use Rattle.turn_lock.specs.SeatView.{SeatView}
use Rattle.turn_lock_tests.specs.declared.counter.Added.{Added}
use Rattle.turn_lock_tests.specs.Counting.{entries}
use Rattle.turn_lock_tests.proofs.Entries.{entries-append}
use Rattle.turn_lock_tests.proofs.counter.look.Goals as goal

pub end-requires-clause-right : goal.end-requires-clause-right
end-requires-clause-right g c =
    let turn = c.in_ok-turn.ensures.turn in
    let seen = ap (λ (s : SeatView Added). s.seen) turn.after in
    let count : c.in_ok-turn.turn.count ≡ entries c.take.new.seat.seen = turn.right ∙ ap entries (sym seen) in
    let more = entries-append c.take.new.seat.seen record { by = c.take.new.seat.number; entry = None } in record {
      entry = None;
      told = refl;
      right = omega arith;
    }
