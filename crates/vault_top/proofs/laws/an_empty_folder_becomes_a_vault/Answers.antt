use Rattle.vault_top.proofs.SoundMaking.{sound_to_make}
use Rattle.vault_top.proofs.laws.an_empty_folder_becomes_a_vault.Goals as goal

pub returns : goal.returns
returns g c = λ views span ending is faultless random reason. sound_to_make views span ending is faultless random reason
