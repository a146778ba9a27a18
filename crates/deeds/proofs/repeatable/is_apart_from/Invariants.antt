use Rattle.std.specs.Prelude.{◌↔◌}
use Rattle.std.proofs.Common.{drop}
use Rattle.deeds.specs.Deeds.{ApartFrom}
use Rattle.deeds.specs.Plain.{plain, plains}
use Rattle.deeds.proofs.repeatable.is_apart_from.Given as goal

abbrev pub invariant-loop-other : goal.invariant-loop-other
invariant-loop-other l = ApartFrom (plain l.deed) (plains (drop l.other-index l.others)) ↔ ApartFrom (plain l.deed) (plains l.others)
