use Rattle.std.proofs.Common.{sym}
use Rattle.tree_model.specs.Asked.{look}
use Rattle.tree_answers.proofs.Steps.{looked, removed}
use Rattle.tree_answers.proofs.nodes.look.Goals as goal

pub returns-in-Some-clause-answer : goal.returns-in-Some-clause-answer
returns-in-Some-clause-answer c = looked c.args.tree.now c.args.number c.in-Some.node.now c.qid.result (sym c.in-Some.ensures) c.qid.ensures.version c.qid.ensures.qid

pub returns-in-None-clause-answer : goal.returns-in-None-clause-answer
returns-in-None-clause-answer c = removed c.args.tree.now (look c.args.number) (sym c.in-None.ensures)
