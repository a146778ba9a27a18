-- The signed configuration of a vault (Cryptomator's vault format 8, `vault.cryptomator`).
use Rattle.std.specs.Prelude.{ℕ, List, ◌∷◌, ◌++◌, length, Bool, false, ◌&&◌, not, Option, Some, None, option_and_then, Result, Err, codes, decimal, ◌==◌, nat_lt, nat_le, if◌then◌else◌}
use Rattle.std.specs.Option.{option_map_or, ok_or}
use Rattle.std.specs.Str.{bytes_eq}
use Rattle.base64.specs.GeneralPurpose.{encode_of}
use Rattle.base64.specs.Engines.{url_safe_no_pad}
use Rattle.serde_json.specs.Data.{Data, number, string, object, unsigned, member, no_members}
use Rattle.serde_json.specs.Written.{compact_text}
use Rattle.uuid.specs.Parts.{with_version, with_variant}
use Rattle.uuid.specs.Text.{hyphenated_text, lower}
use Rattle.uuid.specs.declared.Version.TheVariants.{Random}
use Rattle.uuid.specs.declared.Variant.TheVariants.{RFC4122}
use Rattle.vault_keys.specs.Keys.{KeyPair}
use Rattle.json_members.specs.Members.{text_at, integer_at}
use Rattle.json_members.specs.Steps.{result_and_then}
use Rattle.vault_layout.specs.Names.{masterkey_file}
use Rattle.vault_layout.specs.Limits.{key_file_limit, max_threshold}
use Rattle.vault_config.specs.Token.{Token, token_of, Algorithm, hs256, algorithm_of, signature_of}

-- the claims that are looked at
pub data Claim : Type 0 where
  format : Claim
  cipher_combo : Claim
  shortening_threshold : Claim

abbrev pub name_of : Claim → List ℕ
name_of format = codes "format"
name_of cipher_combo = codes "cipherCombo"
name_of shortening_threshold = codes "shorteningThreshold"

-- why a configuration isn't accepted
pub data Fault : Type 0 where
  too_long : ℕ → Fault
  not_token : Fault
  algorithm : Fault
  kid : Fault
  bad_signature : Fault
  bad_claim : Claim → Fault
  other_format : ℕ → Fault
  other_combo : Fault

-- a fault as the report has it
abbrev pub fault_text : Fault → List ℕ
fault_text (too_long n) = codes "too long " ++ decimal n
fault_text not_token = codes "not a token"
fault_text algorithm = codes "algorithm"
fault_text kid = codes "kid"
fault_text bad_signature = codes "signature"
fault_text (bad_claim c) = codes "claim " ++ name_of c
fault_text (other_format n) = codes "format " ++ decimal n
fault_text other_combo = codes "combo"

abbrev pub key_id : List ℕ
key_id = codes "masterkeyfile:" ++ masterkey_file

abbrev pub combo : List ℕ
combo = codes "SIV_GCM"

-- both keys, the encryption key first: what signs
abbrev pub signing_key : KeyPair → List ℕ
signing_key keys = keys.enc ++ keys.mac

abbrev pub has_text : List ℕ → List ℕ → Data → Bool
has_text name text value = option_map_or (λ t. bytes_eq t text) (text_at name value) false

abbrev pub in_range : ℕ → Option ℕ
in_range n = if nat_lt 0 n && nat_le n max_threshold then Some n else None

-- the claims, in the order of their tests: the format, the combination, the threshold from 1 character up to the largest
abbrev pub threshold_of : Data → Result ℕ Fault
threshold_of claims = ok_or (option_and_then in_range (integer_at (name_of shortening_threshold) claims)) (bad_claim shortening_threshold)

abbrev pub combo_checked : Data → Result ℕ Fault
combo_checked claims =
    result_and_then (λ c. if bytes_eq c combo then threshold_of claims else Err other_combo) (ok_or (text_at (name_of cipher_combo) claims) (bad_claim cipher_combo))

abbrev pub claims_checked : Data → Result ℕ Fault
claims_checked claims =
    result_and_then (λ n. if n == 8 then combo_checked claims else Err (other_format n)) (ok_or (integer_at (name_of format) claims) (bad_claim format))

-- the signature is that of the text as it came, and is looked at before any claim
abbrev pub signature_checked : KeyPair → Token → Algorithm → Result ℕ Fault
signature_checked keys token a =
    if not (has_text (codes "kid") key_id token.header) then Err kid
    else if bytes_eq (signature_of a (signing_key keys) token.text) token.signature then claims_checked token.claims
    else Err bad_signature

abbrev pub token_checked : KeyPair → Token → Result ℕ Fault
token_checked keys token = result_and_then (signature_checked keys token) (ok_or (algorithm_of token) algorithm)

-- the threshold of the configuration that bytes are, signed by these keys
unfoldable pub config_of : KeyPair → List ℕ → Result ℕ Fault
config_of keys bytes =
    if nat_lt key_file_limit (length bytes) then Err (too_long (length bytes))
    else result_and_then (token_checked keys) (ok_or (token_of bytes) not_token)

-- ---- what is written

-- the version 4 UUID of 16 bytes (RFC 9562, section 5.4), as text in lower case with hyphens
abbrev pub identifier_of : List ℕ → List ℕ
identifier_of bytes = hyphenated_text lower (with_version (with_variant bytes RFC4122) Random)

-- the header and the claims that are written: compact, members in the order of their names' bytes
abbrev pub written_header : Data
written_header = object (member (codes "alg") (string (codes "HS256"))
    (member (codes "kid") (string key_id) (member (codes "typ") (string (codes "JWT")) no_members)))

abbrev pub written_claims : ℕ → List ℕ → Data
written_claims threshold identifier = object (member (codes "cipherCombo") (string combo)
    (member (codes "format") (number (unsigned 8))
    (member (codes "jti") (string identifier) (member (codes "shorteningThreshold") (number (unsigned threshold)) no_members))))

abbrev pub piece_of : List ℕ → List ℕ
piece_of bytes = encode_of url_safe_no_pad bytes

abbrev pub signed_text : ℕ → List ℕ → List ℕ
signed_text threshold identifier = piece_of (compact_text written_header) ++ 46 ∷ piece_of (compact_text (written_claims threshold identifier))

-- the file with this threshold and identifier, signed by these keys
unfoldable pub config_file : KeyPair → ℕ → List ℕ → List ℕ
config_file keys threshold identifier =
    signed_text threshold identifier ++ 46 ∷ piece_of (signature_of hs256 (signing_key keys) (signed_text threshold identifier))
