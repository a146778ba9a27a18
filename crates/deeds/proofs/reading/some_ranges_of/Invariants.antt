use Rattle.std.proofs.Common.{◌≡◌, ◌-◌}
use Rattle.deeds.specs.Plain.{plain_ranges}
use Rattle.deeds.specs.Reading.{items_at, range_at}
use Rattle.deeds.proofs.Loop.{with_front}
use Rattle.deeds.proofs.reading.some_ranges_of.Given as goal

abbrev pub invariant-loop : goal.invariant-loop
invariant-loop l = with_front (plain_ranges l.ranges.items) (items_at range_at (l.count - l.counter) l.rest) ≡ items_at range_at l.count l.bytes
