use Rattle.unlocking.specs.FromFiles.{bad_secret}
use Rattle.unlocking.proofs.Opening.{keys_found-no_password, unlocked-refused}
use Rattle.unlocking.proofs.laws.a_bad_secret_is_told_first.Goals as goal

pub returns : goal.returns
returns c = λ secret masterkey vault none. unlocked-refused secret masterkey vault bad_secret (keys_found-no_password secret masterkey none)
