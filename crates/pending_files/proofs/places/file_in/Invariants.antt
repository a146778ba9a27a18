use Rattle.std.proofs.Common.{◌≡◌, drop}
use Rattle.deeds.specs.Plain.{plains}
use Rattle.pending_files.specs.Pending.{file_of}
use Rattle.pending_files.proofs.places.file_in.Given as goal

abbrev pub invariant-loop-deed : goal.invariant-loop-deed
invariant-loop-deed l = file_of l.path (plains (drop l.deed-index l.deeds)) ≡ file_of l.path (plains l.deeds)
