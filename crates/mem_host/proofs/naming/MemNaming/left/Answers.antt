use Rattle.std.proofs.Common.{◌≡◌, ◌≤◌, length, take, reverse, List, ap, subst, ◌∙◌, arith}
use Rattle.std.proofs.lemmas.List.{take_all}
use Rattle.host_calls.specs.Names.{Pending, IsTaken, MayName}
use Rattle.mem_host.specs.Entries.{names_of}
use Rattle.mem_host.specs.Holding.{Naming}
use Rattle.mem_host.proofs.Cuts.{name_more}
use Rattle.mem_host.proofs.naming.MemNaming.left.Goals as goal

pub loop-pending-init : goal.loop-pending-init
loop-pending-init c = c.in_ok-names.ensures ∙ ap names_of c.deref.ensures.value ∙ ap (λ (n : Naming). n.base) c.self.view_is

pub loop-pending-preserved : goal.loop-pending-preserved
loop-pending-preserved c =
    let taken = subst (λ (p : Pending). IsTaken p c.loop-pending.names c.in_ok-names-2.names) c.pending-item.is c.in_ok-names-2.ensures in
    name_more c.args.self.now.base c.deref-pending-items.result.now c.loop-pending.pending-index c.pending-item.result c.loop-pending.names c.in_ok-names-2.names
    c.loop-pending-test.true c.loop-pending.invariant taken

pub returns : goal.returns
returns c =
    let past : length c.deref-pending-items.result.now ≤ c.loop-pending.pending-index = omega (arith, c.loop-pending-test.false) in
    let whole : reverse (take c.loop-pending.pending-index c.deref-pending-items.result.now) ≡ c.args.self.now.steps =
    ap reverse (take_all c.loop-pending.pending-index c.deref-pending-items.result.now past ∙ c.deref-pending-items.ensures.value) ∙ ap (λ (n : Naming). n.steps) c.self.view_is in
    subst (λ (l : List Pending). MayName c.args.self.now.base l c.loop-pending.names) whole c.loop-pending.invariant
