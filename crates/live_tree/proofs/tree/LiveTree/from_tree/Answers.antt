use Rattle.std.proofs.Common.{arith}
use Rattle.live_tree.proofs.Loading.{next_parent, next_free, goes_on, loaded_whole, rows_whole}
use Rattle.live_tree.proofs.tree.LiveTree.from_tree.Goals as goal

pub append-requires-clause-parent : goal.append-requires-clause-parent
append-requires-clause-parent c =
    next_parent c.args.unlocked c.args.tree c.len-count.ensures.tree c.loop-node.live c.in-Some.node _ _ c.loop-node.invariant c.in-Some.ensures.steps.0 c.in_ok-loaded.field-0 c.in_ok-loaded.ensures

pub append-requires-clause-free : goal.append-requires-clause-free
append-requires-clause-free c =
    next_free c.args.unlocked c.args.tree c.len-count.ensures.tree c.loop-node.live c.in-Some.node _ _ c.loop-node.invariant c.in-Some.ensures.steps.0 c.in_ok-loaded.field-0 c.in_ok-loaded.ensures

pub loop-node-preserved : goal.loop-node-preserved
loop-node-preserved c =
    goes_on c.args.unlocked c.args.tree c.len-count.ensures.tree c.loop-node.live c.in-Some.node _ _ c.loop-node.invariant c.in-Some.ensures.steps.0 c.in_ok-loaded.field-0 c.in_ok-loaded.ensures
    c.append.new.self c.in_ok-append.ensures.appended

pub returns-clause-rows : goal.returns-clause-rows
returns-clause-rows c =
    rows_whole c.loop-node.live c.args.unlocked c.args.tree
    (loaded_whole c.args.unlocked c.args.tree c.loop-node.live _ c.loop-node.invariant (let zero = c.in-None.ensures.steps.0 in omega (arith, zero, c.loop-node.node-iterator.rest.ok)))
