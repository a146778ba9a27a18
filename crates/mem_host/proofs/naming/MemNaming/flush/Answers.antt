use Rattle.std.proofs.Common.{◌≡◌, List, map, reverse, ap, ◌∙◌}
use Rattle.std.specs.Vec.{with_items}
use Rattle.host_calls.specs.Names.{Pending, flushed}
use Rattle.mem_host.specs.Entries.{names_of}
use Rattle.mem_host.specs.Holding.{Naming}
use Rattle.mem_host.proofs.Taking.{all_changed, flushed_steps, names_flushed}
use Rattle.mem_host.proofs.naming.MemNaming.flush.Goals as goal

pub invariant_of-self : goal.invariant_of-self
invariant_of-self c =
    let steps = c.self.inside.steps in
    let new = c.flush.new.steps in
    let changed : new ≡ map (flushed c.args.folder.now) steps.items = c.flush.ensures ∙ ap (map (flushed c.args.folder.now)) c.deref_mut.ensures.value in
    let is : reverse (with_items steps new).items ≡ map (flushed c.args.folder.now) (reverse steps.items) =
    ap reverse (all_changed steps (flushed c.args.folder.now) c.deref_mut.result.now new c.flush.ensures c.deref_mut.ensures.value) ∙ flushed_steps steps.items new c.args.folder.now changed in
    names_flushed (names_of c.self.inside.base.items) c.args.folder.now (reverse steps.items) (reverse (with_items steps new).items) c.self.inside.current is c.self.invariant

pub returns : goal.returns
returns c =
    let steps = c.self.inside.steps in
    let new = c.flush.new.steps in
    let changed : new ≡ map (flushed c.args.folder.now) steps.items = c.flush.ensures ∙ ap (map (flushed c.args.folder.now)) c.deref_mut.ensures.value in
    let is : reverse (with_items steps new).items ≡ map (flushed c.args.folder.now) (reverse steps.items) =
    ap reverse (all_changed steps (flushed c.args.folder.now) c.deref_mut.result.now new c.flush.ensures c.deref_mut.ensures.value) ∙ flushed_steps steps.items new c.args.folder.now changed in
    ap (λ (s : List Pending). record { base = names_of c.self.inside.base.items; steps = s }) is
    ∙ ap (λ (n : Naming). record { base = n.base; steps = map (flushed c.args.folder.now) n.steps }) c.self.view_is
