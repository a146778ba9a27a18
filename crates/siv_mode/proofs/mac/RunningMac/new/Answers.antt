use Rattle.std.proofs.Common.{refl}
use Rattle.siv_mode.specs.Cmac.{chained}
use Rattle.siv_mode.proofs.mac.RunningMac.new.Goals as goal

pub returns : goal.returns
unfolding chained
returns c = λ cipher. record { chained_before = refl; last = refl }
