use Rattle.vault_top.proofs.SoundServing.{has_served_soundly}
use Rattle.vault_top.proofs.laws.a_sound_run_answers_as_the_step.Goals as goal

pub returns : goal.returns
returns g c = λ views span ending reason told faultless random. has_served_soundly views span ending reason told faultless random
