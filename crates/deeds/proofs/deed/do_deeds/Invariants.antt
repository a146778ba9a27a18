use Rattle.deeds.specs.Plain.{plains}
use Rattle.deeds.proofs.InPhase.{IsDoneTo}
use Rattle.deeds.proofs.deed.do_deeds.Given as goal

abbrev pub invariant-loop-index : goal.invariant-loop-index
invariant-loop-index g l = IsDoneTo l.phase (plains l.deeds) l.index (g.F.Reads.log l.fn.folder) (g.F.Reads.log l.folder) (g.F.Reads.faults l.fn.folder) (g.F.Reads.faults l.folder)
