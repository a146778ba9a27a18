use Rattle.mem_host.proofs.Entries.{held_put}
use Rattle.mem_host.proofs.names.MemNames.set.Goals as goal

pub returns-clause-ok : goal.returns-clause-ok
returns-clause-ok c = held_put c.self.inside.held.entries _ _ _ _ _ c.copied.ensures c.self.view_is c.in_ok-insert.ensures.updates.0
