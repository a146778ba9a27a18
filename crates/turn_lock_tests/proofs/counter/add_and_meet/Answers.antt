use Rattle.std.proofs.Common.{ap}
use Rattle.turn_lock.specs.SeatView.{SeatView}
use Rattle.turn_lock_tests.specs.declared.counter.Added.{Added}
use Rattle.turn_lock_tests.proofs.Entries.{one_more}
use Rattle.turn_lock_tests.proofs.counter.add_and_meet.Goals as goal

pub returns-clause-both : goal.returns-clause-both
returns-clause-both g c =
    let first = c.meet.ensures.first in
    let second = c.meet.ensures.second in (
      one_more c.args.first.now c.add.new.seat c.in_ok-told_first.told_first _ c.meet.new.second.seen c.in_ok-told_first.ensures.added first.follows (ap (λ (s : SeatView Added). s.seen) second.after),
      one_more c.args.second.now c.add-2.new.seat c.in_ok-told_second.told_second _ c.meet.new.first.seen c.in_ok-told_second.ensures.added second.follows (ap (λ (s : SeatView Added). s.seen) first.after),
    )
