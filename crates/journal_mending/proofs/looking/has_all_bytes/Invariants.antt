use Rattle.std.proofs.Common.{take}
use Rattle.deeds.specs.Plain.{plain_ranges}
use Rattle.journal_mending.proofs.Looked.{HasReadSoFar}
use Rattle.journal_mending.proofs.looking.has_all_bytes.Given as goal

abbrev pub invariant-loop-range : goal.invariant-loop-range
invariant-loop-range g l =
    HasReadSoFar l.path (take l.range-index (plain_ranges l.ranges)) (g.R.Reads.log l.fn.folder) (g.R.Reads.log l.folder) (g.R.Reads.changes l.fn.folder) (g.R.Reads.changes l.folder) (g.R.Reads.faults l.fn.folder) (g.R.Reads.faults l.folder)
