use Rattle.vaultd.proofs.exit.started.Goals as goal

pub returns-in_ok-started-in-Ok : goal.returns-in_ok-started-in-Ok
returns-in_ok-started-in-Ok g c = (_, c.in_ok-started-in-Ok.ensures)
