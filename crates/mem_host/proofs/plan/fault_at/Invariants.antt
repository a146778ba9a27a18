use Rattle.std.proofs.Common.{◌≡◌, drop}
use Rattle.mem_host.specs.Plan.{fault_at}
use Rattle.mem_host.proofs.plan.fault_at.Given as goal

abbrev pub invariant-loop-fault : goal.invariant-loop-fault
invariant-loop-fault l = fault_at (drop l.fault-index l.faults) l.call ≡ fault_at l.faults l.call
