use Rattle.std.proofs.Common.{refl, inl, inr}
use Rattle.vaultd.proofs.exit.exit_status.Goals as goal

pub returns-in_default : goal.returns-in_default
returns-in_default g c = inr refl

pub returns : goal.returns
returns g c = inl (c.started-started.result, c.started-started.ensures, c.status_after.ensures)
