use Rattle.std.proofs.Common.{◌∙◌, ap}
use Rattle.vaultd.proofs.folder.settled_at.Goals as goal

pub returns : goal.returns
returns g c = (c.settle.ensures.base ∙ ap (λ folder. folder.base) c.in_ok-folder.ensures, c.settle.ensures.tells)
