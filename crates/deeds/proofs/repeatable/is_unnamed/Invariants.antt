use Rattle.std.specs.Prelude.{◌↔◌}
use Rattle.std.proofs.Common.{drop}
use Rattle.deeds.specs.Deeds.{Unnamed}
use Rattle.deeds.specs.Plain.{plains}
use Rattle.deeds.proofs.repeatable.is_unnamed.Given as goal

abbrev pub invariant-loop-deed : goal.invariant-loop-deed
invariant-loop-deed l = Unnamed l.path (plains (drop l.deed-index l.deeds)) ↔ Unnamed l.path (plains l.deeds)
