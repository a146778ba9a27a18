use Rattle.std.proofs.Common.{sym}
use Rattle.tree_model.specs.Asked.{sync}
use Rattle.tree_answers.proofs.Steps.{synced, removed}
use Rattle.tree_answers.proofs.nodes.sync.Goals as goal

pub returns-in-Some-clause-answer : goal.returns-in-Some-clause-answer
returns-in-Some-clause-answer c = synced c.args.tree.now c.args.number c.in-Some.field-0.now (sym c.in-Some.ensures)

pub returns-in-None-clause-answer : goal.returns-in-None-clause-answer
returns-in-None-clause-answer c = removed c.args.tree.now (sync c.args.number) (sym c.in-None.ensures)
