use Rattle.std.proofs.Common.{map, take}
use Rattle.std.specs.List.{AllByRecursion}
use Rattle.outside_mem.specs.Kept.{IsStopped}
use Rattle.outside_mem.specs.Pictures.{changes_since, synced_disk, ArePictures}
use Rattle.outside_mem.specs.Choices.{chosen}
use Rattle.outside_mem.specs.declared.images.Choice.{Choice}
use Rattle.outside_mem.proofs.folder.MemFolder.images.Given as goal

abbrev pub invariant-loop-number : goal.invariant-loop-number
invariant-loop-number l = record {
  stopped : AllByRecursion (IsStopped l.self.log) l.images.items;
  pictured :
      ArePictures (synced_disk l.self.log.start l.self.log.calls)
      (map (λ (c : Choice). chosen c (changes_since l.self.log.calls)) (take l.number l.choices.items)) l.images.items;
}
