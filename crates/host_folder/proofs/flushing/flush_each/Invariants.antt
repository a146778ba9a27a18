-- What is at the paths so far has come to the disk.
use Rattle.std.proofs.Common.{drop, string_bytes}
use Rattle.host_folder.specs.Held.{IsSure}
use Rattle.host_folder.proofs.FlushSteps.{IsFlushing}
use Rattle.host_folder.proofs.flushing.flush_each.Given as goal

abbrev pub invariant-loop-path : goal.invariant-loop-path
invariant-loop-path g l =
    IsFlushing (string_bytes l.initial.paths.base) (g.H.HostCalls.top l.initial.host) (string_bytes l.paths.base) (g.H.HostCalls.top l.host) (g.H.HostCalls.story l.initial.host) (g.H.HostCalls.story l.host)
    (λ s t. IsSure s l.touched → IsSure t (drop l.path-index l.touched))
