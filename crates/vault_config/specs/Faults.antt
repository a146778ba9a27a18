-- The errors of `read` as faults, and what they are shown as.
use Rattle.std.specs.Prelude.{◌≡◌, ℕ, List, Result, Err, codes, ⊤}
use Rattle.vault_config.specs.Config as config
use Rattle.vault_config.specs.declared.config.ConfigErr.{ConfigErr}
use Rattle.vault_config.specs.declared.config.ConfigErr.TheVariants.{TooLong, NotToken, Algorithm, Kid, BadSignature, Claim, Format, Combo, Memory}
use Rattle.vault_config.specs.declared.config.ClaimName.{ClaimName}
use Rattle.vault_config.specs.declared.config.ClaimName.TheVariants as names

abbrev pub claim_of : ClaimName → config.Claim
claim_of names.Format = config.format
claim_of names.CipherCombo = config.cipher_combo
claim_of names.ShorteningThreshold = config.shortening_threshold

-- the error is the first fault; running out of memory says nothing
abbrev pub IsFault : ConfigErr → Result ℕ config.Fault → Type 0
IsFault (TooLong n) checked = checked ≡ Err (config.too_long n)
IsFault NotToken checked = checked ≡ Err config.not_token
IsFault Algorithm checked = checked ≡ Err config.algorithm
IsFault Kid checked = checked ≡ Err config.kid
IsFault BadSignature checked = checked ≡ Err config.bad_signature
IsFault (Claim name) checked = checked ≡ Err (config.bad_claim (claim_of name))
IsFault (Format n) checked = checked ≡ Err (config.other_format n)
IsFault Combo checked = checked ≡ Err config.other_combo
IsFault Memory checked = ⊤

-- an error as it is shown
abbrev pub error_text : ConfigErr → List ℕ
error_text (TooLong n) = config.fault_text (config.too_long n)
error_text NotToken = config.fault_text config.not_token
error_text Algorithm = config.fault_text config.algorithm
error_text Kid = config.fault_text config.kid
error_text BadSignature = config.fault_text config.bad_signature
error_text (Claim name) = config.fault_text (config.bad_claim (claim_of name))
error_text (Format n) = config.fault_text (config.other_format n)
error_text Combo = config.fault_text config.other_combo
error_text Memory = codes "out of memory"
