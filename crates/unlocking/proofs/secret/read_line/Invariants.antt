use Rattle.std.proofs.Common.{◌≤◌, ◌-◌, length, take}
use Rattle.outside.specs.Calls.{Changes}
use Rattle.unlocking.proofs.Lines.{HasFront}
use Rattle.unlocking.proofs.secret.read_line.Given as goal

abbrev pub invariant-loop-byte : goal.invariant-loop-byte
invariant-loop-byte g l =
    (l.count ≤ length l.line)
    × Changes (g.S.Source.left l.fn.secret) (g.S.Source.left l.secret) (HasFront (take l.count l.line))
    × (g.S.Source.faults l.fn.secret ≤ g.S.Source.faults l.secret)

abbrev pub decreases-loop-byte : goal.decreases-loop-byte
decreases-loop-byte g l = length l.initial.line - l.count
