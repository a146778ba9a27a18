use Rattle.std.proofs.Common.{sym, ap, ◌∙◌}
use Rattle.clear_tree.specs.Kept.{What}
use Rattle.request_checks.specs.Deciding.{creation_fault}
use Rattle.request_checks.proofs.Early.{creation_refused, creation_removed}
use Rattle.request_checks.proofs.creating.creation_refusal.Goals as goal

pub returns-in-Some-clause-refusal : goal.returns-in-Some-clause-refusal
returns-in-Some-clause-refusal c =
    creation_refused c.args.tree.now c.args.number c.in-Some.node.now (sym c.in-Some.ensures) c.args.name.now c.refusal_to_create.result
    (c.refusal_to_create.ensures ∙ ap (λ (what : What). creation_fault what c.args.name.now) c.what.ensures)

pub returns-in-None-clause-refusal : goal.returns-in-None-clause-refusal
returns-in-None-clause-refusal c = creation_removed c.args.tree.now c.args.number c.args.name.now (sym c.in-None.ensures)
