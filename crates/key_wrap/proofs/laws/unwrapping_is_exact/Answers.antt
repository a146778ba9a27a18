use Rattle.std.proofs.Common.{inr}
use Rattle.aes_block.specs.Aes.{aes, inverse_aes}
use Rattle.key_wrap.proofs.Undone.{Undoes-aes, Undoes-inverse_aes, unwrapped-wrapped, wrapped-unwrapped}
use Rattle.key_wrap.proofs.laws.unwrapping_is_exact.Goals as goal

pub returns-clause-undone : goal.returns-clause-undone
returns-clause-undone c = λ kek key long bytes long' bytes'.
    unwrapped-wrapped (aes kek) (inverse_aes kek) key (Undoes-aes kek (inr long, bytes)) long' bytes'

pub returns-clause-exact : goal.returns-clause-exact
returns-clause-exact c = λ kek key form long bytes long' bytes' opened.
    wrapped-unwrapped (aes kek) (inverse_aes kek) form key (Undoes-inverse_aes kek (inr long, bytes)) (record { long = long'; bytes = bytes' }) opened
