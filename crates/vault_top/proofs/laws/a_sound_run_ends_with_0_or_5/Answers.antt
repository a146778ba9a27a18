use Rattle.vault_top.proofs.SoundStatus.{sound_status}
use Rattle.vault_top.proofs.laws.a_sound_run_ends_with_0_or_5.Goals as goal

pub returns : goal.returns
returns g c = λ views words secret second folder workers workers' sink ended is. sound_status views words secret second folder workers workers' sink ended is
