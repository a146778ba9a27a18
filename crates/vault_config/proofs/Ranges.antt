-- An accepted configuration's threshold is from 1 to the largest.
use Rattle.std.proofs.Common.{◌≡◌, ℕ, ◌<◌, ◌≤◌, Bool, true, false, cond, not, ◌&&◌, nat_lt, nat_le, ◌==◌, codes, List, length, Option, Some, None, Result, Ok, Err, arith, refl}
use Rattle.std.proofs.lemmas.Bool.{ltb-true, leb-true}
use Rattle.std.specs.Option.{option_and_then, ok_or}
use Rattle.std.specs.Str.{bytes_eq}
use Rattle.serde_json.specs.Data.{Data}
use Rattle.vault_keys.specs.Keys.{KeyPair}
use Rattle.json_members.specs.Members.{text_at, integer_at}
use Rattle.json_members.specs.Steps.{result_and_then}
use Rattle.vault_layout.specs.Limits.{key_file_limit, max_threshold}
use Rattle.vault_config.specs.Token.{Token, Algorithm, algorithm_of, signature_of, token_of}
use Rattle.vault_config.specs.Config.{Fault, format, cipher_combo, shortening_threshold, name_of, too_long, not_token, algorithm, kid, bad_signature, bad_claim, other_format, other_combo, combo, key_id, signing_key, has_text, in_range, threshold_of, combo_checked, claims_checked, signature_checked, token_checked, config_of}

-- what is accepted is from 1 to the largest
abbrev Within : Result ℕ Fault → Type 0
Within found = (n : ℕ) → found ≡ Ok n → (1 ≤ n) × (n ≤ max_threshold)

refused : (e : Fault) → Within (Err e)
refused e n is = cc

then_within : {A : Type 0} (f : A → Result ℕ Fault) (found : Result A Fault) → ((x : A) → Within (f x)) → Within (result_and_then f found)
then_within f (Ok x) h = h x
then_within f (Err e) h = refused e

if_within : (b : Bool) (found other : Result ℕ Fault) → Within found → Within other → Within (cond b found other)
if_within true found other f o = f
if_within false found other f o = o

kept : (a b : Bool) (m n : ℕ) (e : Fault) → ok_or (cond (a && b) (Some m) None) e ≡ Ok n → (a ≡ true) × (b ≡ true) × (m ≡ n)
kept true true m n e is = (refl, refl, cc)
kept true false m n e is = cc
kept false b m n e is = cc

in_range_within : (o : Option ℕ) (e : Fault) → Within (ok_or (option_and_then in_range o) e)
in_range_within None e n is = cc
in_range_within (Some m) e n is =
    let p = kept (nat_lt 0 m) (nat_le m max_threshold) m n e is in
    let low : 0 < m = ltb-true 0 m p.0 in
    let high : m ≤ max_threshold = leb-true m max_threshold p.1 in
    (omega (arith, p.2), omega (arith, p.2))

threshold_within : (claims : Data) → Within (threshold_of claims)
threshold_within claims = in_range_within (integer_at (name_of shortening_threshold) claims) (bad_claim shortening_threshold)

combo_within : (claims : Data) → Within (combo_checked claims)
combo_within claims =
    then_within (λ c. cond (bytes_eq c combo) (threshold_of claims) (Err other_combo)) (ok_or (text_at (name_of cipher_combo) claims) (bad_claim cipher_combo))
    (λ c. if_within (bytes_eq c combo) (threshold_of claims) (Err other_combo) (threshold_within claims) (refused other_combo))

claims_within : (claims : Data) → Within (claims_checked claims)
claims_within claims =
    then_within (λ n. cond (n == 8) (combo_checked claims) (Err (other_format n))) (ok_or (integer_at (name_of format) claims) (bad_claim format))
    (λ n. if_within (n == 8) (combo_checked claims) (Err (other_format n)) (combo_within claims) (refused (other_format n)))

signature_within : (keys : KeyPair) (token : Token) (a : Algorithm) → Within (signature_checked keys token a)
signature_within keys token a =
    let signed = cond (bytes_eq (signature_of a (signing_key keys) token.text) token.signature) (claims_checked token.claims) (Err bad_signature) in
    if_within (not (has_text (codes "kid") key_id token.header)) (Err kid) signed (refused kid)
    (if_within (bytes_eq (signature_of a (signing_key keys) token.text) token.signature) (claims_checked token.claims) (Err bad_signature)
    (claims_within token.claims) (refused bad_signature))

token_within : (keys : KeyPair) (token : Token) → Within (token_checked keys token)
token_within keys token = then_within (signature_checked keys token) (ok_or (algorithm_of token) algorithm) (signature_within keys token)

-- the threshold of an accepted configuration is from 1 to the largest
pub config_of-range : (keys : KeyPair) (bytes : List ℕ) (n : ℕ) → config_of keys bytes ≡ Ok n → (1 ≤ n) × (n ≤ max_threshold)
unfolding config_of
config_of-range keys bytes =
    if_within (nat_lt key_file_limit (length bytes)) (Err (too_long (length bytes))) (result_and_then (token_checked keys) (ok_or (token_of bytes) not_token))
    (refused (too_long (length bytes))) (then_within (token_checked keys) (ok_or (token_of bytes) not_token) (token_within keys))
