use Rattle.mem_host.proofs.Entries.{held_removed}
use Rattle.mem_host.proofs.names.MemNames.unset.Goals as goal

pub returns : goal.returns
returns c = held_removed c.self.inside.held.entries _ c.args.path.now c.args.self.now c.self.view_is c.remove.ensures.updates.0
