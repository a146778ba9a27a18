use Rattle.std.proofs.Common.{reverse, take}
use Rattle.host_calls.specs.Names.{MayName}
use Rattle.mem_host.proofs.naming.MemNaming.left.Given as goal

abbrev pub invariant-loop-pending : goal.invariant-loop-pending
invariant-loop-pending l = MayName l.self.base (reverse (take l.pending-index l.pending-items)) l.names
