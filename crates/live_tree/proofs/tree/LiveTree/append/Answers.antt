use Rattle.std.proofs.Common.{◌≡◌, ◌∙◌, ◌+◌, arith}
use Rattle.live_tree.proofs.Held.{nameless_next, held_grows, grows_same, grows_twice}
use Rattle.live_tree.proofs.Steps.{directory_there, opened_from, append_is, append_held, append_undone}
use Rattle.live_tree.proofs.tree.LiveTree.append.Goals as goal

pub open_directory-requires : goal.open_directory-requires
open_directory-requires c = nameless_next c.self.inside.names _ c.self.invariant

pub invariant_of-self : goal.invariant_of-self
invariant_of-self c = held_grows c.self.inside.names c.open_directory.new.names _ c.self.invariant c.open_directory.ensures.grown

pub put-requires : goal.put-requires
put-requires c =
    rw c.parent.ensures
    (directory_there c.self.inside.names c.open_directory.new.names _ c.args.self.now c.args.node.kept.parent c.self.invariant c.self.view_is c.open_directory.ensures.grown c.requires.parent)

pub invariant_of-self-in_err-put : goal.invariant_of-self-in_err-put
invariant_of-self-in_err-put c =
    held_grows c.self.inside.names c.put.new.names _ c.self.invariant
    (grows_twice c.self.inside.names c.open_directory.new.names c.put.new.names c.open_directory.ensures.grown (grows_same c.open_directory.new.names c.put.new.names c.in_err-put.ensures.same))

pub invariant_of-self-in-Err : goal.invariant_of-self-in-Err
invariant_of-self-in-Err c =
    let called : c.in_ok-name.name ≡ c.args.node.kept.name = c.in_ok-name.ensures ∙ c.as_bytes.ensures ∙ c.name.ensures.bytes in
    append_undone c.self.inside.names _ c.args.self.now c.self.invariant c.self.view_is c.args.node c.open_directory.new.names c.put.new.names c.take.new.names c.open_directory.ensures.grown
    (rw (c.parent.ensures, called) at c.in_ok-put.ensures.set) (rw (c.parent-in-Err.ensures, c.name-in-Err.ensures.bytes, c.in-Err.ensures.refused) at c.take.ensures) c.requires.free
    c.insert_node.new.nodes.entries c.in-Err.ensures.same

pub invariant_of-self-in-Ok : goal.invariant_of-self-in-Ok
invariant_of-self-in-Ok c =
    let called : c.in_ok-name.name ≡ c.args.node.kept.name = c.in_ok-name.ensures ∙ c.as_bytes.ensures ∙ c.name.ensures.bytes in
    append_held c.self.inside.names _ c.args.self.now c.self.invariant c.self.view_is c.args.node c.open_directory.new.names c.put.new.names c.open_directory.ensures.grown
    (opened_from c.folder.result _ c.is_some-is_directory.result _ c.folder.ensures.value c.is_some-is_directory.ensures c.in_ok-open_directory.ensures.there)
    (rw (c.parent.ensures, called) at c.in_ok-put.ensures.set) c.requires.parent c.requires.free c.requires.fresh c.insert_node.new.nodes.entries (c.self.inside.next + 1) c.in-Ok.ensures.inserted c.insert_node.ensures.ordered
    (omega arith)

pub returns-in-Ok-clause-appended : goal.returns-in-Ok-clause-appended
returns-in-Ok-clause-appended c =
    append_is c.self.inside.names _ c.args.self.now c.self.invariant c.self.view_is c.args.node c.insert_node.new.nodes.entries (c.self.inside.next + 1) c.in-Ok.ensures.inserted (omega arith)
