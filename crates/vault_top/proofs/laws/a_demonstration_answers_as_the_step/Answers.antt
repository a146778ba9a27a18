use Rattle.vault_top.proofs.SoundServing.{held_soundly}
use Rattle.vault_top.proofs.laws.a_demonstration_answers_as_the_step.Goals as goal

pub returns : goal.returns
returns g c = λ span text is. held_soundly span text is
