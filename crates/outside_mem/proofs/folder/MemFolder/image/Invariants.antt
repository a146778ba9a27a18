use Rattle.std.proofs.Common.{◌≡◌, take}
use Rattle.outside.specs.Images.{now}
use Rattle.outside_mem.specs.Held.{bare}
use Rattle.outside_mem.specs.Kept.{all_calls}
use Rattle.outside_mem.proofs.Pictures.{IsPicture}
use Rattle.outside_mem.proofs.folder.MemFolder.image.Given as goal

abbrev pub invariant-loop-index : goal.invariant-loop-index
invariant-loop-index l = record {
  start : l.image.log.start ≡ bare;
  picture : IsPicture l.choice l.self.log.start (all_calls l.self.log.start (take l.index l.calls)) (now l.image.log);
}
