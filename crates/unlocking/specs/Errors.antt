-- The errors of `unlock_found` as causes.
use Rattle.std.specs.Prelude.{◌≡◌, ℕ, List, ◌++◌, Option, Some, None, Result, Err, codes, ⊤}
use Rattle.masterkey_file.specs.KeyFile as masterkey
use Rattle.masterkey_file.specs.Faults.{field_of}
use Rattle.masterkey_file.specs.declared.secret.PasswordErr.{PasswordErr}
use Rattle.masterkey_file.specs.declared.secret.PasswordErr.TheVariants as password_errors
use Rattle.masterkey_file.specs.declared.reading.KeyFileErr.{KeyFileErr}
use Rattle.masterkey_file.specs.declared.reading.KeyFileErr.TheVariants as key_errors
use Rattle.vault_config.specs.Config as config
use Rattle.vault_config.specs.Faults.{claim_of, error_text as config_error_text}
use Rattle.vault_config.specs.declared.config.ConfigErr.{ConfigErr}
use Rattle.vault_config.specs.declared.config.ConfigErr.TheVariants as config_errors
use Rattle.unlocking.specs.FromFiles as unlock
use Rattle.unlocking.specs.declared.errors.UnlockErr.{UnlockErr}
use Rattle.unlocking.specs.declared.errors.UnlockErr.TheVariants.{BadSecret, NoMasterkeyFile, MasterkeyFile, NoVaultFile, VaultFile, Memory}

abbrev pub of_password : PasswordErr → UnlockErr
of_password password_errors.BadSecret = BadSecret
of_password password_errors.Memory = Memory

abbrev pub of_key_file : KeyFileErr → UnlockErr
of_key_file (key_errors.TooLong n) = MasterkeyFile (key_errors.TooLong n)
of_key_file key_errors.NotJson = MasterkeyFile key_errors.NotJson
of_key_file (key_errors.Field name) = MasterkeyFile (key_errors.Field name)
of_key_file key_errors.Cost = MasterkeyFile key_errors.Cost
of_key_file key_errors.WrongPassword = MasterkeyFile key_errors.WrongPassword
of_key_file key_errors.Memory = Memory

abbrev pub of_config : ConfigErr → UnlockErr
of_config (config_errors.TooLong n) = VaultFile (config_errors.TooLong n)
of_config config_errors.NotToken = VaultFile config_errors.NotToken
of_config config_errors.Algorithm = VaultFile config_errors.Algorithm
of_config config_errors.Kid = VaultFile config_errors.Kid
of_config config_errors.BadSignature = VaultFile config_errors.BadSignature
of_config (config_errors.Claim name) = VaultFile (config_errors.Claim name)
of_config (config_errors.Format n) = VaultFile (config_errors.Format n)
of_config config_errors.Combo = VaultFile config_errors.Combo
of_config config_errors.Memory = Memory

abbrev pub key_fault : KeyFileErr → Option masterkey.Fault
key_fault (key_errors.TooLong n) = Some (masterkey.too_long n)
key_fault key_errors.NotJson = Some masterkey.not_json
key_fault (key_errors.Field name) = Some (masterkey.bad_field (field_of name))
key_fault key_errors.Cost = Some masterkey.bad_cost
key_fault key_errors.WrongPassword = Some masterkey.wrong_password
key_fault key_errors.Memory = None

abbrev pub config_fault : ConfigErr → Option config.Fault
config_fault (config_errors.TooLong n) = Some (config.too_long n)
config_fault config_errors.NotToken = Some config.not_token
config_fault config_errors.Algorithm = Some config.algorithm
config_fault config_errors.Kid = Some config.kid
config_fault config_errors.BadSignature = Some config.bad_signature
config_fault (config_errors.Claim name) = Some (config.bad_claim (claim_of name))
config_fault (config_errors.Format n) = Some (config.other_format n)
config_fault config_errors.Combo = Some config.other_combo
config_fault config_errors.Memory = None

-- the answer is this cause
abbrev pub IsOf : {A F : Type 0} → (F → unlock.Cause) → Option F → Result A unlock.Cause → Type 0
IsOf of (Some fault) found = found ≡ Err (of fault)
IsOf of None found = ⊥

-- the error is the cause that was found; running out of memory says nothing
abbrev pub IsCause : {A : Type 0} → UnlockErr → Result A unlock.Cause → Type 0
IsCause BadSecret found = found ≡ Err unlock.bad_secret
IsCause NoMasterkeyFile found = found ≡ Err unlock.no_masterkey_file
IsCause (MasterkeyFile e) found = IsOf unlock.bad_masterkey_file (key_fault e) found
IsCause NoVaultFile found = found ≡ Err unlock.no_vault_file
IsCause (VaultFile e) found = IsOf unlock.bad_vault_file (config_fault e) found
IsCause Memory found = ⊤

-- ---- an error as it is shown, and its status

abbrev pub key_text : KeyFileErr → List ℕ
key_text (key_errors.TooLong n) = unlock.masterkey_text (masterkey.too_long n)
key_text key_errors.NotJson = unlock.masterkey_text masterkey.not_json
key_text (key_errors.Field name) = unlock.masterkey_text (masterkey.bad_field (field_of name))
key_text key_errors.Cost = unlock.masterkey_text masterkey.bad_cost
key_text key_errors.WrongPassword = unlock.masterkey_text masterkey.wrong_password
key_text key_errors.Memory = codes "vault refused: masterkey file: out of memory"

abbrev pub error_text : UnlockErr → List ℕ
error_text BadSecret = unlock.cause_text unlock.bad_secret
error_text NoMasterkeyFile = unlock.cause_text unlock.no_masterkey_file
error_text (MasterkeyFile e) = key_text e
error_text NoVaultFile = unlock.cause_text unlock.no_vault_file
error_text (VaultFile e) = codes "vault refused: vault file: " ++ config_error_text e
error_text Memory = codes "out of memory"

abbrev pub key_status : KeyFileErr → ℕ
key_status (key_errors.TooLong n) = unlock.masterkey_status (masterkey.too_long n)
key_status key_errors.NotJson = unlock.masterkey_status masterkey.not_json
key_status (key_errors.Field name) = unlock.masterkey_status (masterkey.bad_field (field_of name))
key_status key_errors.Cost = unlock.masterkey_status masterkey.bad_cost
key_status key_errors.WrongPassword = unlock.masterkey_status masterkey.wrong_password
key_status key_errors.Memory = 3

abbrev pub status_of : UnlockErr → ℕ
status_of BadSecret = unlock.cause_status unlock.bad_secret
status_of NoMasterkeyFile = unlock.cause_status unlock.no_masterkey_file
status_of (MasterkeyFile e) = key_status e
status_of NoVaultFile = unlock.cause_status unlock.no_vault_file
status_of (VaultFile e) = 3
status_of Memory = 5
