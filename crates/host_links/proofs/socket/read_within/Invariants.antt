-- As long as nothing comes the buffer is as it was.
use Rattle.std.proofs.Common.{◌≡◌}
use Rattle.host_links.proofs.socket.read_within.Given as goal

abbrev pub invariant-loop : goal.invariant-loop
invariant-loop l = l.out ≡ l.initial.out
