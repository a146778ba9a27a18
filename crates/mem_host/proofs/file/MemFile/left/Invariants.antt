use Rattle.std.proofs.Common.{take}
use Rattle.host_calls.specs.Bytes.{MayHold}
use Rattle.mem_host.specs.Steps.{file_steps_of}
use Rattle.mem_host.proofs.file.MemFile.left.Given as goal

abbrev pub invariant-loop-step : goal.invariant-loop-step
invariant-loop-step l = MayHold l.self.lasting (file_steps_of (take l.step-index l.step-items)) l.bytes.items
