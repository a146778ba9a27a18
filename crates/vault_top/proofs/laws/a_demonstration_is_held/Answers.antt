use Rattle.vault_top.proofs.SoundDemo.{held}
use Rattle.vault_top.proofs.laws.a_demonstration_is_held.Goals as goal

pub returns : goal.returns
returns g c = λ views span d ending asked reason. held span d asked views ending reason
