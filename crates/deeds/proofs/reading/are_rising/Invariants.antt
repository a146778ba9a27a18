use Rattle.std.proofs.Common.{◌≡◌, drop}
use Rattle.deeds.specs.Plain.{plain_ranges}
use Rattle.deeds.specs.Grammar.{rise_within}
use Rattle.deeds.proofs.reading.are_rising.Given as goal

abbrev pub invariant-loop-range : goal.invariant-loop-range
invariant-loop-range l = rise_within l.from l.len (plain_ranges (drop l.range-index l.ranges)) ≡ rise_within 0 l.len (plain_ranges l.ranges)
