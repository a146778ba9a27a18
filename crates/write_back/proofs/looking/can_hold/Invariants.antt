use Rattle.std.proofs.Common.{drop}
use Rattle.std.specs.Prelude.{◌↔◌}
use Rattle.deeds.specs.Plain.{plain_ranges}
use Rattle.write_back.specs.Headers.{CanHold}
use Rattle.write_back.proofs.looking.can_hold.Given as goal

abbrev pub invariant-loop-range : goal.invariant-loop-range
invariant-loop-range l = CanHold l.len l.held (plain_ranges (drop l.range-index l.ranges)) ↔ CanHold l.len l.fn.held (plain_ranges l.ranges)
