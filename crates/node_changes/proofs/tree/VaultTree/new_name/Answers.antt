use Rattle.std.proofs.Common.{sym, ◌∙◌, subst, arith}
use Rattle.std.proofs.lemmas.Result.{err_from_is_err_and}
use Rattle.tree_model.specs.Names.{IsClearName}
use Rattle.clear_tree.proofs.Owner.{is_name-true}
use Rattle.node_changes.proofs.Naming.{lacks_memory, refuses_named, refuses_held, free_name, not_shadowed, named_once}
use Rattle.node_changes.proofs.tree.VaultTree.new_name.Goals as goal

pub returns-in_err-node-clause-refusal : goal.returns-in_err-node-clause-refusal
returns-in_err-node-clause-refusal c =
    let p = err_from_is_err_and c.from_residual.result c.from_residual.ensures.1 in
    rw (p.1, p.2) (c.in_err-node.ensures.refusal c.args.name)

pub returns-in_default-clause-refusal : goal.returns-in_default-clause-refusal
returns-in_default-clause-refusal c = lacks_memory c.args.self.now.live c.args.number c.args.name

pub returns-then-is_some-clause-refusal : goal.returns-then-is_some-clause-refusal
returns-then-is_some-clause-refusal c =
    let node = c.in_ok-node.ensures.node in
    refuses_named c.args.self.now.live c.args.number c.args.name c.nameable.ensures.tree c.in_ok-node.node.now node.there node.below c.look.result (sym c.is_some.ensures ∙ c.if-is_some.true)
    (rw (c.parent.ensures, c.into_text-name.ensures) at c.look.ensures.found)

pub returns-then-is_held-clause-refusal : goal.returns-then-is_held-clause-refusal
returns-then-is_held-clause-refusal c =
    let node = c.in_ok-node.ensures.node in
    refuses_held c.args.self.now.live c.args.number c.args.name c.nameable.ensures.tree c.in_ok-node.node.now node.there node.below
    (free_name c.args.self.now.live c.in_ok-node.node.now.kept.parent c.args.name c.look.result (sym c.is_some.ensures ∙ c.if-is_some.false) (rw (c.parent.ensures, c.into_text-name.ensures) at c.look.ensures.none))
    (sym c.is_held.ensures ∙ c.if-is_held.true)

pub returns-clause-new : goal.returns-clause-new
returns-clause-new c =
    let named = is_name-true c.args.name _ c.in-Ok.ensures.named in
    let short = c.are_ciphers.ensures.short c.directory_above-above.result.identifier.now c.args.name named in
    record {
      held = c.in_ok-node.node.now;
      node = c.in_ok-node.ensures.node;
      clean = not_shadowed _ _ (sym c.is_held.ensures ∙ c.if-is_held.false);
      once = named_once _ _ _ (sym c.is_held.ensures ∙ c.if-is_held.false);
      identifier = c.directory_above-above.result.identifier.now;
      above = c.directory_above-above.ensures.above;
      path = c.directory_above-above.ensures.path;
      clear = subst IsClearName (c.name.view_is ∙ sym c.into_text-name.ensures) c.name.invariant;
      free = free_name c.args.self.now.live c.in_ok-node.node.now.kept.parent c.into_text-name.result c.look.result (sym c.is_some.ensures ∙ c.if-is_some.false) (rw c.parent.ensures at c.look.ensures.none);
      threshold = c.args.self.now.threshold;
      place = rw c.into_text-name.ensures c.in-Ok.ensures;
      short = rw c.in-Ok.ensures.text (omega (arith, short));
    }
