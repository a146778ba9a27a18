use Rattle.std.proofs.Common.{◌<◌, ◌^◌, arith, List, ℕ}
use Rattle.sync_client.specs.Steps.{message_of}
use Rattle.sync_client.specs.Replies.{IsRefusal, IsText}
use Rattle.sync_client.proofs.Answers.{refuses, refused, by_fields}
use Rattle.sync_client.proofs.question.Question.is_refused_by.Goals as goal

pub returns : goal.returns
returns c =
    let frame : List ℕ = c.args.frame.now in
    let asked = message_of c.args.self in
    let low : asked.tag < 2 ^ 16 = omega (arith, c.tag.ensures, c.tag.type_inv) in
    by_fields 107 asked.tag frame IsText (IsRefusal asked frame) c.fields_of.result c.is_some_and.result (rw c.tag.ensures at c.fields_of.ensures.found) (rw c.tag.ensures at c.fields_of.ensures.none)
    c.is_some_and.ensures (λ fields e t. refuses asked frame fields low e t) (refused asked frame)
