use Rattle.std.proofs.Common.{length, ap}
use Rattle.std.proofs.lemmas.Bool.{lt-ltb}
use Rattle.std.specs.Result.{result_map_both}
use Rattle.vault_keys.specs.Keys.{KeyPair}
use Rattle.masterkey_file.proofs.Members.{keys_of-long}
use Rattle.vault_config.proofs.Reading.{config_of-long}
use Rattle.unlocking.specs.FromFiles.{bad_masterkey_file}
use Rattle.unlocking.proofs.Opening.{with_keys}
use Rattle.unlocking.proofs.laws.long_files_are_too_long.Goals as goal

pub returns-clause-masterkey : goal.returns-clause-masterkey
returns-clause-masterkey c = λ password bytes long.
    ap (result_map_both (λ (keys : KeyPair). keys) bad_masterkey_file) (keys_of-long bytes password (lt-ltb 65536 (length bytes) long))

pub returns-clause-vault : goal.returns-clause-vault
returns-clause-vault c = λ keys bytes long. ap (with_keys keys) (config_of-long keys bytes long)
