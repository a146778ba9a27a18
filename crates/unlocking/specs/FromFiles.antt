-- What a secret and a vault's two key files unlock, or why not.
use Rattle.std.specs.Prelude.{ℕ, List, ◌++◌, Option, Some, None, Result, Ok, Err, codes}
use Rattle.std.specs.Option.{ok_or}
use Rattle.std.specs.Result.{result_map_both}
use Rattle.vault_keys.specs.Keys.{KeyPair}
use Rattle.json_members.specs.Steps.{result_and_then}
use Rattle.masterkey_file.specs.KeyFile as masterkey
use Rattle.masterkey_file.specs.KeyFile.{keys_of}
use Rattle.masterkey_file.specs.Password.{password_of}
use Rattle.vault_config.specs.Config as config
use Rattle.vault_config.specs.Config.{config_of}

-- a file of the vault's root folder as it is found: nothing has its name, or what isn't a file, or a file with these bytes
pub data FoundFile : Type 0 where
  absent : FoundFile
  folder : FoundFile
  file : List ℕ → FoundFile

-- what unlocks a vault
pub record UnlockedVault : Type 0 where
  pub keys : KeyPair
  pub threshold : ℕ

-- why a vault isn't unlocked, in the order of the tests
pub data Cause : Type 0 where
  bad_secret : Cause
  no_masterkey_file : Cause
  bad_masterkey_file : masterkey.Fault → Cause
  no_vault_file : Cause
  bad_vault_file : config.Fault → Cause

abbrev pub masterkey_too_long : ℕ → Cause
masterkey_too_long n = bad_masterkey_file (masterkey.too_long n)

abbrev pub vault_too_long : ℕ → Cause
vault_too_long n = bad_vault_file (config.too_long n)

abbrev pub bytes_in : FoundFile → Option (List ℕ)
bytes_in absent = None
bytes_in folder = None
bytes_in (file bytes) = Some bytes

-- the keys that a password opens in the masterkey file
abbrev pub masterkey_opened : List ℕ → FoundFile → Result KeyPair Cause
masterkey_opened password found =
    result_and_then (λ bytes. result_map_both (λ keys. keys) bad_masterkey_file (keys_of bytes password)) (ok_or (bytes_in found) no_masterkey_file)

-- the keys with the threshold that the vault file says under them
abbrev pub vault_opened : KeyPair → FoundFile → Result UnlockedVault Cause
vault_opened keys found =
    result_and_then (λ bytes. result_map_both (λ n. record { keys = keys; threshold = n }) bad_vault_file (config_of keys bytes))
    (ok_or (bytes_in found) no_vault_file)

-- the secret goes before the masterkey file
unfoldable pub keys_found : List ℕ → FoundFile → Result KeyPair Cause
keys_found secret found = result_and_then (λ password. masterkey_opened password found) (ok_or (password_of secret) bad_secret)

-- the masterkey file goes before the vault file
unfoldable pub unlocked : List ℕ → FoundFile → FoundFile → Result UnlockedVault Cause
unlocked secret masterkey vault = result_and_then (λ keys. vault_opened keys vault) (keys_found secret masterkey)

-- ---- status and report

abbrev pub masterkey_text : masterkey.Fault → List ℕ
masterkey_text (masterkey.too_long n) = codes "vault refused: masterkey file: " ++ masterkey.fault_text (masterkey.too_long n)
masterkey_text masterkey.not_json = codes "vault refused: masterkey file: " ++ masterkey.fault_text masterkey.not_json
masterkey_text (masterkey.bad_field f) = codes "vault refused: masterkey file: " ++ masterkey.fault_text (masterkey.bad_field f)
masterkey_text masterkey.bad_cost = codes "vault refused: masterkey file: " ++ masterkey.fault_text masterkey.bad_cost
masterkey_text masterkey.wrong_password = codes "wrong password"

abbrev pub masterkey_status : masterkey.Fault → ℕ
masterkey_status (masterkey.too_long n) = 3
masterkey_status masterkey.not_json = 3
masterkey_status (masterkey.bad_field f) = 3
masterkey_status masterkey.bad_cost = 3
masterkey_status masterkey.wrong_password = 2

-- the line of the report, without its LF
abbrev pub cause_text : Cause → List ℕ
cause_text bad_secret = codes "bad secret"
cause_text no_masterkey_file = codes "vault refused: no masterkey file"
cause_text (bad_masterkey_file fault) = masterkey_text fault
cause_text no_vault_file = codes "vault refused: no vault file"
cause_text (bad_vault_file fault) = codes "vault refused: vault file: " ++ config.fault_text fault

-- the program's status
abbrev pub cause_status : Cause → ℕ
cause_status bad_secret = 2
cause_status no_masterkey_file = 3
cause_status (bad_masterkey_file fault) = masterkey_status fault
cause_status no_vault_file = 3
cause_status (bad_vault_file fault) = 3
