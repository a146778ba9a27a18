use Rattle.std.proofs.Common.{rules, arith, ◌≡◌, ◌+◌, ℕ, Some, sym, ap, ◌∙◌}
use Rattle.turn_lock.specs.SeatView.{SeatView}
use Rattle.turn_lock_tests.specs.declared.counter.Counter.{Counter}
use Rattle.turn_lock_tests.specs.declared.counter.Added.{Added}
use Rattle.turn_lock_tests.specs.Counting.{entries}
use Rattle.turn_lock_tests.proofs.Entries.{entries-append, entries-length}
use Rattle.turn_lock_tests.proofs.counter.add.Goals as goal

pub overflow_add-value_mut : goal.overflow_add-value_mut
overflow_add-value_mut g c =
    let turn = c.in_ok-turn.ensures.turn in
    let count : c.value_mut.result.now.count ≡ entries turn.history = ap (λ (k : Counter). k.count) c.value_mut.ensures.value ∙ turn.right in
    let low = entries-length turn.history in
    let early = turn.early in omega arith

pub end-requires-clause-right : goal.end-requires-clause-right
end-requires-clause-right g c =
    let turn = c.in_ok-turn.ensures.turn in
    let seen = ap (λ (s : SeatView Added). s.seen) turn.after in
    let count : c.value_mut.result.now.count ≡ entries c.take.new.seat.seen = ap (λ (k : Counter). k.count) c.value_mut.ensures.value ∙ (turn.right ∙ ap entries (sym seen)) in record {
      entry = Some record {};
      told = search rules;
      right = ap (λ (n : ℕ). n + 1) count ∙ sym (entries-append c.take.new.seat.seen record { by = c.take.new.seat.number; entry = Some record {} });
    }
