-- A read that was cut short consumes nothing.
use Rattle.std.specs.Io.KnownBytes.{Keeps}
use Rattle.host_streams.proofs.transfer.read_once.Given as goal

abbrev pub invariant-loop : goal.invariant-loop
invariant-loop g l = Keeps (g.I.Read.remaining l.initial.input) (g.I.Read.remaining l.input)
