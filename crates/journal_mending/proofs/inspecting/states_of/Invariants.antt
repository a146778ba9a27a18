use Rattle.journal_mending.proofs.Looked.{HasLookedSoFar}
use Rattle.journal_mending.proofs.inspecting.states_of.Given as goal

abbrev pub invariant-loop-deed : goal.invariant-loop-deed
invariant-loop-deed g l =
    HasLookedSoFar l.yielded l.states.items (g.R.Reads.log l.fn.folder) (g.R.Reads.log l.folder) (g.R.Reads.changes l.fn.folder) (g.R.Reads.changes l.folder) (g.R.Reads.faults l.fn.folder) (g.R.Reads.faults l.folder)
