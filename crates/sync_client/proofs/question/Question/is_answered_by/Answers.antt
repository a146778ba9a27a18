use Rattle.std.proofs.Common.{◌≡◌, arith, [], List, ℕ, length}
use Rattle.sync_client.specs.Messages.{no_tag, one_tag, version_message, attach_message, sync_message}
use Rattle.sync_client.specs.Replies.{IsAnswer, IsAgreement, qid_size}
use Rattle.sync_client.proofs.Answers.{version_answers, version_answered, attach_answers, attach_answered, sync_answers, sync_answered, by_fields}
use Rattle.sync_client.proofs.question.Question.is_answered_by.Goals as goal

pub returns-in-Version : goal.returns-in-Version
returns-in-Version c =
    let frame : List ℕ = c.args.frame.now in
    rw c.in-Version.is
    (by_fields 101 no_tag frame IsAgreement (IsAnswer version_message frame) c.fields_of.result c.is_some_and.result c.fields_of.ensures.found c.fields_of.ensures.none
    c.is_some_and.ensures (version_answers frame) (λ a. version_answered frame a.reply a.is a.answers))

pub returns-in-Attach : goal.returns-in-Attach
returns-in-Attach c =
    let frame : List ℕ = c.args.frame.now in
    rw c.in-Attach.is
    (by_fields 105 one_tag frame (λ fields. length fields ≡ qid_size) (IsAnswer attach_message frame) c.fields_of-in-Attach.result c.is_some_and-in-Attach.result
    c.fields_of-in-Attach.ensures.found c.fields_of-in-Attach.ensures.none c.is_some_and-in-Attach.ensures
    (attach_answers frame (λ i. omega (arith, c.type_inv.frame i))) (λ a. attach_answered frame a.reply a.is a.answers))

pub returns-in-Sync : goal.returns-in-Sync
returns-in-Sync c =
    let frame : List ℕ = c.args.frame.now in
    rw c.in-Sync.is
    (by_fields 127 one_tag frame (λ fields. fields ≡ []) (IsAnswer sync_message frame) c.fields_of-in-Sync.result c.is_some_and-in-Sync.result
    c.fields_of-in-Sync.ensures.found c.fields_of-in-Sync.ensures.none c.is_some_and-in-Sync.ensures
    (sync_answers frame) (λ a. sync_answered frame a.reply a.is a.answers))
