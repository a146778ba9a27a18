use Rattle.std.proofs.Common.{◌∙◌}
use Rattle.mem_host.proofs.Entries.{entry_found}
use Rattle.mem_host.proofs.names.MemNames.at.Goals as goal

pub returns : goal.returns
returns c = rw (← c.self.view_is) (entry_found c.self.inside.held.entries c.args.path.now c.copied.result (c.copied.ensures ∙ c.get.ensures.value))
