use Rattle.std.proofs.Common.{◌≡◌, List, ◌∷◌, map, reverse, sym, ap, ◌∙◌}
use Rattle.std.specs.Vec.{with_items}
use Rattle.host_calls.specs.Names.{NameStep, Dropped, Pending, begun, before_step, after_step, without_folder}
use Rattle.mem_host.specs.Entries.{names_of}
use Rattle.mem_host.specs.Steps.{step_of}
use Rattle.mem_host.specs.Holding.{Naming}
use Rattle.mem_host.proofs.Taking.{all_changed, dropped_steps, names_taken}
use Rattle.mem_host.proofs.naming.MemNaming.take.Goals as goal

pub invariant_of-self-in-Dropped : goal.invariant_of-self-in-Dropped
invariant_of-self-in-Dropped c =
    let p = c.in-Dropped.path in
    let pushed = c.push.new.self in
    let new = c.lose_folder.new.steps in
    let kind : step_of c.args.step ≡ Dropped p = ap step_of c.in-Dropped.is in
    let one : c.begun.result ≡ begun (Dropped p) = c.begun.ensures ∙ ap begun (c.copied.ensures ∙ kind) in
    let went : new ≡ map (without_folder p) pushed.items = c.lose_folder.ensures ∙ ap (map (without_folder p)) c.deref_mut.ensures.value in
    let is : reverse (with_items pushed new).items ≡ begun (Dropped p) ∷ before_step (Dropped p) (reverse c.self.inside.steps.items) =
    ap reverse (all_changed pushed (without_folder p) c.deref_mut.result.now new c.lose_folder.ensures c.deref_mut.ensures.value)
    ∙ dropped_steps c.self.inside.steps.items pushed.items new p c.begun.result c.in_ok-push.ensures.items one went in
    names_taken (names_of c.self.inside.base.items) (Dropped p) (reverse c.self.inside.steps.items) (reverse (with_items pushed new).items) c.self.inside.current c.apply.new.self
    is c.self.invariant (c.in_default.ensures.ok ∙ ap (λ (s : NameStep). after_step s c.self.inside.current) kind)

pub returns-in-Dropped-clause-ok : goal.returns-in-Dropped-clause-ok
returns-in-Dropped-clause-ok c =
    let p = c.in-Dropped.path in
    let pushed = c.push.new.self in
    let new = c.lose_folder.new.steps in
    let older = reverse c.self.inside.steps.items in
    let kind : step_of c.args.step ≡ Dropped p = ap step_of c.in-Dropped.is in
    let one : c.begun.result ≡ begun (Dropped p) = c.begun.ensures ∙ ap begun (c.copied.ensures ∙ kind) in
    let went : new ≡ map (without_folder p) pushed.items = c.lose_folder.ensures ∙ ap (map (without_folder p)) c.deref_mut.ensures.value in
    let is : reverse (with_items pushed new).items ≡ begun (step_of c.args.step) ∷ before_step (step_of c.args.step) older =
    ap reverse (all_changed pushed (without_folder p) c.deref_mut.result.now new c.lose_folder.ensures c.deref_mut.ensures.value)
    ∙ dropped_steps c.self.inside.steps.items pushed.items new p c.begun.result c.in_ok-push.ensures.items one went
    ∙ ap (λ (s : NameStep). begun s ∷ before_step s older) (sym kind) in
    ap (λ (s : List Pending). record { base = names_of c.self.inside.base.items; steps = s }) is
    ∙ ap (λ (n : Naming). record { base = n.base; steps = begun (step_of c.args.step) ∷ before_step (step_of c.args.step) n.steps }) c.self.view_is
