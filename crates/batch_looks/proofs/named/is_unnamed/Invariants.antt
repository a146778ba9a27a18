use Rattle.std.specs.Prelude.{◌↔◌}
use Rattle.std.proofs.Common.{[], ◌∷◌, ◌++◌, drop}
use Rattle.deeds.specs.Deeds.{Unnamed}
use Rattle.deeds.specs.Plain.{plains}
use Rattle.batch_looks.proofs.named.is_unnamed.Given as goal

abbrev pub invariant-loop-deed : goal.invariant-loop-deed
invariant-loop-deed l = Unnamed (l.folder ++ l.entry ∷ []) (plains (drop l.deed-index l.deeds)) ↔ Unnamed (l.folder ++ l.entry ∷ []) (plains l.deeds)
