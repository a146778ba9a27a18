use Rattle.deeds.proofs.Reshaping.{IsReshapedTo}
use Rattle.deeds.proofs.writes.do_reshape.Given as goal

abbrev pub invariant-loop-range : goal.invariant-loop-range
invariant-loop-range g l = IsReshapedTo l.path l.len l.ranges l.range-index (g.F.Reads.log l.fn.folder) (g.F.Reads.log l.folder) (g.F.Reads.faults l.fn.folder) (g.F.Reads.faults l.folder)
