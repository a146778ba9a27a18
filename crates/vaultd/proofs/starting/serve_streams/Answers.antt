use Rattle.std.proofs.Common.{refl, inl, inr}
use Rattle.std.proofs.lemmas.Result.{IfOk-weaker}
use Rattle.vaultd.proofs.Starts.{streams_on}
use Rattle.vaultd.proofs.starting.serve_streams.Goals as goal

pub returns-in_default : goal.returns-in_default
returns-in_default g c = inr (record { before = _; after = _; reported = inl c.report_in_use.ensures; removed = refl })

pub returns-then-not-can : goal.returns-then-not-can
returns-then-not-can g c = inr (record {
  before = _;
  after = _;
  reported = inr (c.in_ok-can.ensures c.if-not-can.true, c.report_unfit.ensures);
  removed = refl;
})

pub returns : goal.returns
returns g c =
    IfOk-weaker c.run_over_streams.result _ _ (λ started run. inl (streams_on _ _ c.in_ok-folder.ensures run)) c.run_over_streams.ensures
