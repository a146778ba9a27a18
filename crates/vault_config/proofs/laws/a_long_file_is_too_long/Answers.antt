use Rattle.vault_config.proofs.Reading.{config_of-long}
use Rattle.vault_config.proofs.laws.a_long_file_is_too_long.Goals as goal

pub returns : goal.returns
returns c = λ keys bytes long. config_of-long keys bytes long
