use Rattle.outside_mem.proofs.Disks.{held_removed}
use Rattle.outside_mem.proofs.disk.MemDisk.unset.Goals as goal

pub returns : goal.returns
returns c = held_removed c.self.inside.held.entries _ c.args.path.now c.args.self.now c.self.view_is c.remove.ensures.updates.0
