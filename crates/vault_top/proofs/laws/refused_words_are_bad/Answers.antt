use Rattle.vault_top.proofs.SoundWords.{bad_or_full}
use Rattle.vault_top.proofs.laws.refused_words_are_bad.Goals as goal

pub returns : goal.returns
returns g c = λ views span ending bad reason. bad_or_full span bad views ending reason
