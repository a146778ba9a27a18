use Rattle.std.specs.Prelude.{◌↔◌}
use Rattle.std.proofs.Common.{drop}
use Rattle.deeds.specs.Deeds.{AreApart}
use Rattle.deeds.specs.Plain.{plains}
use Rattle.deeds.proofs.repeatable.all_apart.Given as goal

abbrev pub invariant-loop-index : goal.invariant-loop-index
invariant-loop-index l = AreApart (plains (drop l.index l.deeds)) ↔ AreApart (plains l.deeds)
