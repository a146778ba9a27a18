use Rattle.std.proofs.Common.{◌≡◌, ◌++◌, take}
use Rattle.deeds.specs.Deeds.{named}
use Rattle.deeds.specs.Plain.{plains}
use Rattle.chunk_journal.proofs.loose.add_named.Given as goal

abbrev pub invariant-loop-deed : goal.invariant-loop-deed
invariant-loop-deed l = l.paths.items ≡ l.fn.paths.items ++ named (take l.deed-index (plains l.deeds))
