use Rattle.sync_client.proofs.Messages.{version_formed, attach_formed}
use Rattle.sync_client.proofs.question.Question.message.Goals as goal

pub returns-in-Version-clause-formed : goal.returns-in-Version-clause-formed
returns-in-Version-clause-formed c = rw c.in-Version.is version_formed

pub returns-in-Attach-clause-formed : goal.returns-in-Attach-clause-formed
returns-in-Attach-clause-formed c = rw c.in-Attach.is attach_formed
