use Rattle.node_changes.proofs.Refusing.{has_nodes_is}
use Rattle.node_changes.proofs.removing.has_nodes.Goals as goal

pub returns : goal.returns
returns c = λ contents.
    has_nodes_is c.args.live.now c.len-count.ensures.tree contents c.args.number c.next_after.result c.is_some.result c.is_some.ensures c.next_after.ensures.next c.next_after.ensures.none
