use Rattle.std.proofs.Common.{sym, ap, ◌∙◌}
use Rattle.clear_tree.specs.Kept.{What}
use Rattle.request_checks.specs.Deciding.{length_fault}
use Rattle.request_checks.proofs.Early.{open_removed, truncation_refused}
use Rattle.request_checks.proofs.contents.truncation_refusal.Goals as goal

pub returns-in-Some-clause-refusal : goal.returns-in-Some-clause-refusal
returns-in-Some-clause-refusal c =
    truncation_refused c.args.tree.now c.args.number c.in-Some.node.now (sym c.in-Some.ensures) c.args.mode c.length_refusal.result c.requires
    (c.length_refusal.ensures ∙ ap (λ (what : What). length_fault what 0) c.what.ensures)

pub returns-in-None-clause-refusal : goal.returns-in-None-clause-refusal
returns-in-None-clause-refusal c = open_removed c.args.tree.now c.args.number c.args.mode (sym c.in-None.ensures)
