use Rattle.std.proofs.lemmas.Result.{IfOk-weaker}
use Rattle.vaultd.proofs.Starts.{streams_on}
use Rattle.vaultd.proofs.starting.run_alone.Goals as goal

pub returns : goal.returns
returns g c =
    IfOk-weaker c.run_over_streams-started.result _ _ (λ started run. streams_on _ _ c.in_ok-folder.ensures run) c.run_over_streams-started.ensures
