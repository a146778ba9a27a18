-- The bytes of a new vault's key files.
use Rattle.std.specs.Prelude.{◌≡◌, ℕ, List, Ok}
use Rattle.vault_layout.specs.Limits.{default_threshold}
use Rattle.masterkey_file.specs.KeyFile.{key_file, keys_of}
use Rattle.vault_config.specs.Config.{config_file, config_of, identifier_of}
use Rattle.vault_make.specs.Draws.{NewSecrets}
use Rattle.vault_make.specs.declared.files.KeyFiles.{KeyFiles}

-- the files of these secrets under a password, which open to them
pub record AreFilesOf (password : List ℕ) (secrets : NewSecrets) (files : KeyFiles) : Type 0 where
  pub masterkey : files.masterkey.items ≡ key_file secrets.keys password secrets.salt
  pub config : files.config.items ≡ config_file secrets.keys default_threshold (identifier_of secrets.jti)
  pub opens : keys_of files.masterkey.items password ≡ Ok secrets.keys
  pub unlocks : config_of secrets.keys files.config.items ≡ Ok default_threshold
