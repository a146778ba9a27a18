use Rattle.unlocking.proofs.Opening.{unlocked-refused}
use Rattle.unlocking.proofs.laws.the_vault_file_waits.Goals as goal

pub returns : goal.returns
returns c = λ secret masterkey vault cause err. unlocked-refused secret masterkey vault cause err
