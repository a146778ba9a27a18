use Rattle.std.proofs.Common.{map}
use Rattle.std.specs.String.{string_bytes}
use Rattle.clap.specs.Words.{kind_of}
use Rattle.vault_words.specs.Read.{IsRequestFor, job_data}
use Rattle.vault_words.specs.declared.job.Job.{Job}
use Rattle.vault_words.proofs.Refusals.{IfErr-each, IfOk-each}
use Rattle.vault_words.proofs.job.read_words.Goals as goal

pub returns-in-Err-clause-job : goal.returns-in-Err-clause-job
returns-in-Err-clause-job c =
    IfOk-each c.request_of.result (kind_of c.in-Err.error) c.topic_at.result (map string_bytes c.args.words.now) c.topic_at.ensures
    c.in-Err.ensures.faults c.request_of.ensures

pub returns-in-Err-clause-cause : goal.returns-in-Err-clause-cause
returns-in-Err-clause-cause c =
    IfErr-each c.request_of.result (λ (job : Job). IsRequestFor (kind_of c.in-Err.error) c.topic_at.result (job_data job)) (kind_of c.in-Err.error)
    (map string_bytes c.args.words.now) c.in-Err.ensures.faults c.request_of.ensures
