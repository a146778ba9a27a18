use Rattle.vault_top.proofs.Soundness.{sound}
use Rattle.vault_top.proofs.laws.a_sound_vault_is_served.Goals as goal

pub returns : goal.returns
returns g c = λ views span ending is faultless reason. sound views span ending is faultless reason
