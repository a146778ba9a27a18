use Rattle.std.proofs.Common.{◌≡◌, suc, arith}
use Rattle.clear_tree.proofs.Building.{kept_marked_root, kept_written, tree_written, node_read}
use Rattle.clear_tree.proofs.tree.Tree.mark_foreign.Goals as goal

pub invariant_of-self : goal.invariant_of-self
invariant_of-self c = rw c.mark_foreign.ensures (kept_marked_root c.self.inside.root c.self.inside.others.items c.self.invariant c.args.foreign)

pub invariant_of-self-in-Some : goal.invariant_of-self-in-Some
invariant_of-self-in-Some c =
    let s = c.in-Some.ensures in
    kept_written c.self.inside.root c.self.inside.others.items c.self.invariant c.in-Some.index c.args.foreign c.index_mut.result.now c.mark_foreign-in-Some.new.self
    (node_read c.args.self.now c.self.inside.root c.self.inside.others.items c.self.inside.twice c.args.number c.in-Some.index c.index_mut.result.now c.self.view_is c.requires s.0 s.1 c.index_mut.ensures.value)
    c.mark_foreign-in-Some.ensures

pub returns-in-Some : goal.returns-in-Some
returns-in-Some c =
    let s = c.in-Some.ensures in
    let numbered : c.args.number ≡ suc c.in-Some.index = omega arith in
    rw (← c.self.view_is)
    (tree_written c.self.inside.root c.self.inside.others.items c.self.inside.twice c.args.number c.in-Some.index c.args.foreign c.index_mut.result.now c.mark_foreign-in-Some.new.self numbered
    (node_read c.args.self.now c.self.inside.root c.self.inside.others.items c.self.inside.twice c.args.number c.in-Some.index c.index_mut.result.now c.self.view_is c.requires s.0 s.1 c.index_mut.ensures.value)
    c.mark_foreign-in-Some.ensures)
