-- What a secret and two files unlock, step by step.
use Rattle.std.proofs.Common.{◌≡◌, ℕ, List, Option, Some, None, Result, Ok, Err, refl, ap}
use Rattle.std.specs.Option.{ok_or}
use Rattle.std.specs.Result.{result_map_both}
use Rattle.vault_keys.specs.Keys.{KeyPair}
use Rattle.json_members.specs.Steps.{result_and_then}
use Rattle.masterkey_file.specs.KeyFile.{keys_of}
use Rattle.masterkey_file.specs.Password.{password_of}
use Rattle.masterkey_file.specs.declared.secret.PasswordErr.{PasswordErr}
use Rattle.masterkey_file.specs.declared.secret.PasswordErr.TheVariants as password_errors
use Rattle.masterkey_file.specs.declared.reading.KeyFileErr.TheVariants as key_errors
use Rattle.masterkey_file.specs.KeyFile as masterkey
use Rattle.vault_config.specs.Config as config
use Rattle.vault_config.specs.Config.{config_of}
use Rattle.vault_config.specs.declared.config.ConfigErr.TheVariants as config_errors
use Rattle.unlocking.specs.FromFiles.{FoundFile, file, UnlockedVault, Cause, bad_secret, bad_vault_file, bytes_in, masterkey_opened, vault_opened, keys_found, unlocked}
use Rattle.unlocking.specs.Errors.{IsCause, of_password}
use Rattle.unlocking.specs.declared.errors.UnlockErr.{UnlockErr}
use Rattle.unlocking.specs.declared.errors.UnlockErr.TheVariants.{BadSecret, NoMasterkeyFile, MasterkeyFile, NoVaultFile, VaultFile, Memory}

-- a configuration's threshold with the keys
abbrev pub with_keys : KeyPair → Result ℕ config.Fault → Result UnlockedVault Cause
with_keys keys found = result_map_both (λ n. record { keys = keys; threshold = n }) bad_vault_file found

-- a cause stays one, whatever would have followed it
pub IsCause-then : {A B : Type 0} (e : UnlockErr) (found : Result A Cause) (rest : A → Result B Cause) → IsCause e found → IsCause e (result_and_then rest found)
IsCause-then BadSecret found rest h = ap (result_and_then rest) h
IsCause-then NoMasterkeyFile found rest h = ap (result_and_then rest) h
IsCause-then (MasterkeyFile key_errors.NotJson) found rest h = ap (result_and_then rest) h
IsCause-then (MasterkeyFile (key_errors.TooLong n)) found rest h = ap (result_and_then rest) h
IsCause-then (MasterkeyFile (key_errors.Field name)) found rest h = ap (result_and_then rest) h
IsCause-then (MasterkeyFile key_errors.Cost) found rest h = ap (result_and_then rest) h
IsCause-then (MasterkeyFile key_errors.WrongPassword) found rest h = ap (result_and_then rest) h
IsCause-then (MasterkeyFile key_errors.Memory) found rest h = h
IsCause-then NoVaultFile found rest h = ap (result_and_then rest) h
IsCause-then (VaultFile (config_errors.TooLong n)) found rest h = ap (result_and_then rest) h
IsCause-then (VaultFile config_errors.NotToken) found rest h = ap (result_and_then rest) h
IsCause-then (VaultFile config_errors.Algorithm) found rest h = ap (result_and_then rest) h
IsCause-then (VaultFile config_errors.Kid) found rest h = ap (result_and_then rest) h
IsCause-then (VaultFile config_errors.BadSignature) found rest h = ap (result_and_then rest) h
IsCause-then (VaultFile (config_errors.Claim name)) found rest h = ap (result_and_then rest) h
IsCause-then (VaultFile (config_errors.Format n)) found rest h = ap (result_and_then rest) h
IsCause-then (VaultFile config_errors.Combo) found rest h = ap (result_and_then rest) h
IsCause-then (VaultFile config_errors.Memory) found rest h = h
IsCause-then Memory found rest h = tt

-- ---- one stage after the other

-- a secret without a password
pub keys_found-no_password : (secret : List ℕ) (found : FoundFile) → password_of secret ≡ None → keys_found secret found ≡ Err bad_secret
unfolding keys_found
keys_found-no_password secret found none =
    ap (λ (o : Option (List ℕ)). result_and_then (λ password. masterkey_opened password found) (ok_or o bad_secret)) none

-- a secret with a password
pub keys_found-password : (secret password : List ℕ) (found : FoundFile) → password_of secret ≡ Some password
    → keys_found secret found ≡ masterkey_opened password found
unfolding keys_found
keys_found-password secret password found some =
    ap (λ (o : Option (List ℕ)). result_and_then (λ p. masterkey_opened p found) (ok_or o bad_secret)) some

-- a masterkey file that doesn't open
pub unlocked-refused : (secret : List ℕ) (masterkey vault : FoundFile) (cause : Cause) → keys_found secret masterkey ≡ Err cause
    → unlocked secret masterkey vault ≡ Err cause
unfolding unlocked
unlocked-refused secret masterkey vault cause err = ap (λ (found : Result KeyPair Cause). result_and_then (λ keys. vault_opened keys vault) found) err

-- a masterkey file that opens
pub unlocked-opened : (secret : List ℕ) (masterkey vault : FoundFile) (keys : KeyPair) → keys_found secret masterkey ≡ Ok keys
    → unlocked secret masterkey vault ≡ vault_opened keys vault
unfolding unlocked
unlocked-opened secret masterkey vault keys ok = ap (λ (found : Result KeyPair Cause). result_and_then (λ k. vault_opened k vault) found) ok

-- an error of the masterkey file is one of the vault
pub IsCause-unlocked : (e : UnlockErr) (secret password : List ℕ) (masterkey vault : FoundFile) → password_of secret ≡ Some password
    → IsCause e (masterkey_opened password masterkey) → IsCause e (unlocked secret masterkey vault)
unfolding unlocked
IsCause-unlocked e secret password masterkey vault some h =
    IsCause-then e (keys_found secret masterkey) (λ keys. vault_opened keys vault) (rw (keys_found-password secret password masterkey some) h)

-- an error of the password is one of the vault
pub IsCause-password : (e : PasswordErr) (secret : List ℕ) (masterkey vault : FoundFile) → (e ≡ password_errors.BadSecret → password_of secret ≡ None)
    → IsCause (of_password e) (unlocked secret masterkey vault)
IsCause-password password_errors.BadSecret secret masterkey vault none =
    unlocked-refused secret masterkey vault bad_secret (keys_found-no_password secret masterkey (none refl))
IsCause-password password_errors.Memory secret masterkey vault none = tt
