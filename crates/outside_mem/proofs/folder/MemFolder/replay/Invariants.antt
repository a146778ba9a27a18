use Rattle.std.proofs.Common.{◌≡◌, take}
use Rattle.outside.specs.Images.{now}
use Rattle.outside_mem.specs.Kept.{disk_by}
use Rattle.outside_mem.proofs.folder.MemFolder.replay.Given as goal

abbrev pub invariant-loop-call : goal.invariant-loop-call
invariant-loop-call l =
    (l.self.log.start ≡ l.fn.self.log.start)
    × (now l.self.log ≡ disk_by (now l.fn.self.log) (take l.call-index l.calls))
