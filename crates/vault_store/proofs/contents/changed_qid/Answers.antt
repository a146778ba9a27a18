use Rattle.vault_store.proofs.ContentTurns.{qid_changes}
use Rattle.vault_store.proofs.contents.changed_qid.Goals as goal

pub returns : goal.returns
returns c = qid_changes c.args.tree.now c.args.number c.requires.0 c.version.result c.in-Some.node.now c.requires.1 c.in-Some.ensures c.version.ensures
