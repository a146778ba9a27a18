use Rattle.std.proofs.Common.{take, sym}
use Rattle.tree_model.specs.Names.{names_in}
use Rattle.tree_model.specs.Asked.{walk, plain_reply}
use Rattle.tree_answers.proofs.Rows.{none_of}
use Rattle.tree_answers.proofs.Steps.{removed}
use Rattle.tree_answers.proofs.Walks.{walk_reached}
use Rattle.tree_answers.proofs.walking.walk.Goals as goal

pub returns-in_default-clause-answer : goal.returns-in_default-clause-answer
returns-in_default-clause-answer c =
    removed c.args.tree.now (walk c.args.from (names_in c.args.names.now.count c.args.names.now.bytes.now)) (sym (rw (none_of c.node.result c.in_default.not-Some) at c.node.ensures))

pub returns-clause-answer : goal.returns-clause-answer
returns-clause-answer c =
    walk_reached c.args.tree.now c.args.from (names_in c.args.names.now.count c.args.names.now.bytes.now) (take c.in_ok-way.way.count c.in_ok-way.way.qids) c.in_ok-way.way.end
    (plain_reply c.walk_reply.result) c.in-Some.field-0.now (sym c.in-Some.ensures) c.in_ok-way.ensures.way c.walk_reply.ensures.answer

pub returns-clause-form : goal.returns-clause-form
returns-clause-form c = c.walk_reply.ensures.form c.args.from (names_in c.args.names.now.count c.args.names.now.bytes.now) c.in_ok-way.ensures.whole
