-- The accepted algorithms as the code has them.
use Rattle.vault_config.specs.Token as token
use Rattle.vault_config.specs.declared.token.Algorithm.{Algorithm}
use Rattle.vault_config.specs.declared.token.Algorithm.TheVariants.{Hs256, Hs384, Hs512}

abbrev pub algorithm_data : Algorithm → token.Algorithm
algorithm_data Hs256 = token.hs256
algorithm_data Hs384 = token.hs384
algorithm_data Hs512 = token.hs512
