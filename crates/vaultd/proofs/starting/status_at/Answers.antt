use Rattle.std.proofs.Common.{inl, inr}
use Rattle.std.proofs.lemmas.Result.{IfOk-weaker}
use Rattle.vaultd.proofs.Starts.{run_on}
use Rattle.vaultd.proofs.starting.status_at.Goals as goal

pub returns-in_default : goal.returns-in_default
returns-in_default g c = inr (inl c.report_in_use.ensures)

pub returns-then-not-can : goal.returns-then-not-can
returns-then-not-can g c = inr (inr (c.in_ok-can.ensures c.if-not-can.true, c.report_unfit.ensures))

pub returns : goal.returns
returns g c = IfOk-weaker c.serve_socket.result _ _ (λ status run. inl (run_on _ _ c.in_ok-folder.ensures run)) c.serve_socket.ensures
