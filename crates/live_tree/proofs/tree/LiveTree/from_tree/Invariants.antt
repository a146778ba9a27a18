use Rattle.std.specs.Vec.Iter.{into_iter_items}
use Rattle.live_tree.proofs.Loading.{IsUnderWay}
use Rattle.live_tree.proofs.tree.LiveTree.from_tree.Given as goal

abbrev pub invariant-loop-node : goal.invariant-loop-node
invariant-loop-node l = IsUnderWay l.unlocked l.fn.tree l.live (into_iter_items l.node-iterator)
