use Rattle.std.proofs.Common.{sym, inl, inr}
use Rattle.std.proofs.lemmas.Result.{IfOk-weaker}
use Rattle.vault_words.specs.Read.{job_data, recovering_data, serving_data}
use Rattle.vaultd.proofs.starting.start.Goals as goal

pub returns-in-Ok-Serve : goal.returns-in-Ok-Serve
returns-in-Ok-Serve g c =
    let asks = rw c.in-Ok-Serve.field-0-is at c.in-Ok-Serve.ensures.job in
    IfOk-weaker c.serve_told.result _ _ (λ started run. rw (sym c.behind_name-words.ensures) (inl (serving_data c.in-Ok-Serve.serving, asks, run))) c.serve_told.ensures

pub returns-in-Ok-Recover : goal.returns-in-Ok-Recover
returns-in-Ok-Recover g c =
    let asks = rw c.in-Ok-Recover.field-0-is at c.in-Ok-Recover.ensures.job in
    IfOk-weaker c.recover.result _ _ (λ started run. rw (sym c.behind_name-words.ensures) (inr (inr (inl (recovering_data c.in-Ok-Recover.recovering, asks, run))))) c.recover.ensures

pub returns-in-Ok-Make : goal.returns-in-Ok-Make
returns-in-Ok-Make g c =
    let arm = c.in-Ok-Make in
    IfOk-weaker c.run_alone.result _ _ (λ started run. rw (sym c.behind_name-words.ensures)
    (inr (inr (inr (inl (job_data arm.field-0, arm.ensures.job, rw arm.field-0-is tt, rw arm.field-0-is run)))))) c.run_alone.ensures

pub returns-in-Ok-Demo : goal.returns-in-Ok-Demo
returns-in-Ok-Demo g c =
    let arm = c.in-Ok-Demo in
    IfOk-weaker c.run_alone-in-Ok-Demo.result _ _ (λ started run. rw (sym c.behind_name-words.ensures)
    (inr (inr (inr (inl (job_data arm.field-0, arm.ensures.job, rw arm.field-0-is tt, rw arm.field-0-is run)))))) c.run_alone-in-Ok-Demo.ensures

pub returns-in-Ok-Help : goal.returns-in-Ok-Help
returns-in-Ok-Help g c =
    let arm = c.in-Ok-Help in
    IfOk-weaker c.run_alone-in-Ok-Help.result _ _ (λ started run. rw (sym c.behind_name-words.ensures)
    (inr (inr (inr (inl (job_data arm.field-0, arm.ensures.job, rw arm.field-0-is tt, rw arm.field-0-is run)))))) c.run_alone-in-Ok-Help.ensures

pub returns-in-Ok-Version : goal.returns-in-Ok-Version
returns-in-Ok-Version g c =
    let arm = c.in-Ok-Version in
    IfOk-weaker c.run_alone-in-Ok-Version.result _ _ (λ started run. rw (sym c.behind_name-words.ensures)
    (inr (inr (inr (inl (job_data arm.field-0, arm.ensures.job, rw arm.field-0-is tt, rw arm.field-0-is run)))))) c.run_alone-in-Ok-Version.ensures

pub returns-in-Err-Refused : goal.returns-in-Err-Refused
returns-in-Err-Refused g c =
    let refused = rw c.in-Err-Refused.field-0-is at c.in-Err-Refused.ensures.cause in
    IfOk-weaker c.run_alone-in-Err-Refused.result _ _ (λ started run. rw (sym c.behind_name-words.ensures) (inr (inr (inr (inr (refused, run))))))
    c.run_alone-in-Err-Refused.ensures
