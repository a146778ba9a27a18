use Rattle.std.proofs.Common.{rules}
use Rattle.siv_mode.specs.Siv.{siv_sealed}
use Rattle.model_contents.proofs.siv.siv_sealed.Goals as goal

pub returns : goal.returns
unfolding siv_sealed
returns c = search rules
