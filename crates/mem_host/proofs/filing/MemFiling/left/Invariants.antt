use Rattle.std.proofs.Common.{take}
use Rattle.mem_host.proofs.Cuts.{AreEachLeft}
use Rattle.mem_host.proofs.filing.MemFiling.left.Given as goal

abbrev pub invariant-loop-file : goal.invariant-loop-file
invariant-loop-file l = AreEachLeft (take l.file-index l.file-items) l.files.items
