-- What is at the paths so far, and in their folders, has come to the disk.
use Rattle.std.proofs.Common.{string_bytes}
use Rattle.host_folder.proofs.FlushSteps.{IsFlushing}
use Rattle.host_folder.proofs.OpeningSteps.{ComesTo}
use Rattle.host_folder.proofs.flushing.flush_with_folders.Given as goal

abbrev pub invariant-loop-path : goal.invariant-loop-path
invariant-loop-path g l =
    IsFlushing (string_bytes l.initial.paths.base) (g.H.HostCalls.top l.initial.host) (string_bytes l.paths.base) (g.H.HostCalls.top l.host) (g.H.HostCalls.story l.initial.host) (g.H.HostCalls.story l.host)
    (ComesTo l.touched l.path-index)
