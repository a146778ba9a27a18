use Rattle.std.proofs.Common.{sym, ap, ◌∙◌}
use Rattle.tree_model.specs.Asked.{open_node}
use Rattle.clear_tree.specs.Kept.{What}
use Rattle.tree_answers.specs.Answers.{open_fault}
use Rattle.tree_answers.proofs.Rows.{none_of}
use Rattle.tree_answers.proofs.Steps.{removed, opened, open_refused}
use Rattle.tree_answers.proofs.nodes.open_node.Goals as goal

pub returns-in_default-clause-answer : goal.returns-in_default-clause-answer
returns-in_default-clause-answer c =
    removed c.args.tree.now (open_node c.args.number c.args.mode) (sym (rw (none_of c.node.result c.in_default.not-Some) at c.node.ensures))

pub returns-in-Some-open_refusal-clause-answer : goal.returns-in-Some-open_refusal-clause-answer
returns-in-Some-open_refusal-clause-answer c =
    open_refused c.args.tree.now c.args.number c.args.mode c.in-Some.node.now (sym c.in-Some.ensures) c.requires c.in-Some-open_refusal.refusal
    (ap (λ (w : What). open_fault w c.args.mode) (sym c.what.ensures) ∙ sym c.open_refusal.ensures ∙ c.in-Some-open_refusal.is)

pub returns-in-None-clause-answer : goal.returns-in-None-clause-answer
returns-in-None-clause-answer c =
    opened c.args.tree.now c.args.number c.args.mode c.in-Some.node.now (sym c.in-Some.ensures) c.requires c.qid.result
    (ap (λ (w : What). open_fault w c.args.mode) (sym c.what.ensures) ∙ sym c.open_refusal.ensures ∙ c.in-None.is) c.qid.ensures.version c.qid.ensures.qid
