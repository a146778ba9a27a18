use Rattle.vaultd.proofs.probing.report_unfit.Goals as goal

pub returns : goal.returns
returns g c = c.report.ensures.written
