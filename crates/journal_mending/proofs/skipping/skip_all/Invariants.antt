use Rattle.journal_mending.proofs.Skips.{HasSkippedSoFar}
use Rattle.journal_mending.proofs.skipping.skip_all.Given as goal

abbrev pub invariant-loop-deed : goal.invariant-loop-deed
invariant-loop-deed g l = HasSkippedSoFar l.yielded l.states.items (g.F.Reads.log l.fn.folder) (g.F.Reads.log l.folder) (g.F.Reads.faults l.fn.folder) (g.F.Reads.faults l.folder)
