use Rattle.vault_make.proofs.First.{first_in}
use Rattle.vault_make.proofs.entries.first_entry.Goals as goal

pub returns-clause-entry : goal.returns-clause-entry
returns-clause-entry g c =
    first_in (g.D.Reads.log c.args.folder.now) (g.D.Reads.log c.kind.new.self) c.root-top.result _ _ c.kind.ensures.log c.root-top.ensures c.kind.ensures.tree
    c.in_ok-names.ensures.names c.least.ensures
