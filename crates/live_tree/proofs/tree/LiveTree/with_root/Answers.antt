use Rattle.std.proofs.Common.{refl}
use Rattle.live_tree.proofs.Loading.{only_entry, root_held, root_is}
use Rattle.live_tree.proofs.tree.LiveTree.with_root.Goals as goal

pub invariant_of-result : goal.invariant_of-result
invariant_of-result c =
    root_held c.new-names.result c.open_directory.new.names c.args.unlocked c.args.first c.args.twice c.requires.own c.requires.folder c.new-names.ensures.empty
    c.open_directory.ensures.grown (c.in_ok-open_directory.ensures.there refl) c.insert.new.self.entries
    (only_entry c.new-nodes.result.entries c.insert.new.self.entries c.in_ok-node.node _ c.new-nodes.ensures.empty c.in_ok-insert.ensures.entries c.in_ok-node.ensures)

pub returns : goal.returns
returns c =
    root_is c.args.unlocked c.args.first c.args.twice c.insert.new.self.entries
    (only_entry c.new-nodes.result.entries c.insert.new.self.entries c.in_ok-node.node _ c.new-nodes.ensures.empty c.in_ok-insert.ensures.entries c.in_ok-node.ensures)
