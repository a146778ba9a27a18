use Rattle.std.proofs.Common.{sym}
use Rattle.live_tree.proofs.Dropped.{nameless_mid}
use Rattle.live_tree.proofs.Steps.{childless_in, drop_is, drop_held}
use Rattle.live_tree.proofs.tree.LiveTree.drop_node.Goals as goal

pub close_directory-requires : goal.close_directory-requires
close_directory-requires c =
    nameless_mid c.self.inside.names c.take.new.names c.take.new.names _ c.args.number c.self.invariant c.in-Some.node (sym c.in-Some.ensures.value) c.requires.below
    (childless_in _ c.args.self.now c.args.number c.self.view_is c.requires.childless) (rw (c.parent.ensures, c.name.ensures.bytes) at c.take.ensures)

pub invariant_of-self : goal.invariant_of-self
invariant_of-self c =
    drop_held c.self.inside.names c.take.new.names c.close_directory.new.names _ c.args.self.now c.args.number c.in-Some.node c.self.invariant c.self.view_is (sym c.in-Some.ensures.value) c.requires.below
    c.requires.childless (rw (c.parent.ensures, c.name.ensures.bytes) at c.take.ensures) c.close_directory.ensures c.remove.new.self.entries c.remove.ensures.entries c.remove.ensures.ordered

pub returns : goal.returns
returns c = drop_is c.self.inside.names _ c.args.self.now c.args.number c.self.invariant c.self.view_is c.remove.new.self.entries c.remove.ensures.entries
