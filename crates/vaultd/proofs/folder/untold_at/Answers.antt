use Rattle.std.proofs.Common.{refl}
use Rattle.vaultd.proofs.folder.untold_at.Goals as goal

pub returns : goal.returns
returns g c = rw c.in_ok-folder.ensures (refl, refl, refl)
