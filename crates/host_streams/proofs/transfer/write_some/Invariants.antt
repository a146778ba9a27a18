-- A write that was cut short appends nothing.
use Rattle.std.specs.Io.KnownBytes.{Keeps}
use Rattle.host_streams.proofs.transfer.write_some.Given as goal

abbrev pub invariant-loop : goal.invariant-loop
invariant-loop g l = Keeps (g.O.Write.contents l.initial.output) (g.O.Write.contents l.output)
