use Rattle.std.proofs.Common.{◌≡◌, ◌∙◌, sym}
use Rattle.live_tree.proofs.Held.{held_grows, grows_same}
use Rattle.live_tree.proofs.Steps.{parent_names, rename_is, rename_held}
use Rattle.live_tree.proofs.tree.LiveTree.give_name.Goals as goal

pub put-requires : goal.put-requires
put-requires c = rw c.parent.ensures (parent_names c.self.inside.names _ c.args.number c.in-Some.node.now c.self.invariant (sym c.in-Some.ensures.value) c.requires.below)

pub invariant_of-self : goal.invariant_of-self
invariant_of-self c = held_grows c.self.inside.names c.put.new.names _ c.self.invariant (grows_same c.self.inside.names c.put.new.names c.in_err-put.ensures.same)

pub invariant_of-self-2 : goal.invariant_of-self-2
invariant_of-self-2 c =
    let called : c.in_ok-copy.copy ≡ c.args.name = c.in_ok-copy.ensures ∙ c.as_bytes.ensures in
    rename_held c.self.inside.names c.put.new.names c.take.new.names _ c.args.self.now c.args.number c.args.name c.args.entry c.args.long c.in-Some.node.now c.self.invariant c.self.view_is
    (sym c.in-Some.ensures.value) c.requires.below c.requires.free (rw (c.parent.ensures, called) at c.in_ok-put.ensures.set) (rw (c.parent-2.ensures, c.name-2.ensures.bytes) at c.take.ensures)
    c.rename_node.new.nodes.entries c.rename_node.ensures

pub returns-clause-named : goal.returns-clause-named
returns-clause-named c =
    rename_is _ c.args.self.now c.args.number c.args.name c.args.entry c.args.long c.self.view_is c.rename_node.new.nodes.entries c.rename_node.ensures
