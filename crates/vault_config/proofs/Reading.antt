-- What bytes are as a token, step by step.
use Rattle.std.proofs.Common.{◌≡◌, ℕ, ◌<◌, ◌≤◌, List, [], ◌∷◌, ◌++◌, length, Option, Some, None, Err, refl, sym, ap, ◌∙◌}
use Rattle.std.proofs.lemmas.Bool.{lt-ltb, le-ltb}
use Rattle.std.specs.Option.{ok_or}
use Rattle.serde_json.specs.Data.{Data}
use Rattle.vault_keys.specs.Keys.{KeyPair}
use Rattle.vault_config.specs.Token.{Token, trimmed, pieces_of, decoded, decoded_object, token_of_pieces, token_of}
use Rattle.json_members.specs.Steps.{result_and_then}
use Rattle.vault_config.specs.Config.{too_long, not_token, token_checked, config_of}

pub token_of-pieces : (bytes text : List ℕ) (pieces : List (List ℕ)) → text ≡ trimmed bytes → pieces_of text ≡ pieces → token_of bytes ≡ token_of_pieces pieces
unfolding token_of
token_of-pieces bytes text pieces same is = ap (λ t. token_of_pieces (pieces_of t)) (sym same) ∙ ap token_of_pieces is

pub token_of-no_header : (bytes text header payload signature : List ℕ) → text ≡ trimmed bytes → pieces_of text ≡ header ∷ payload ∷ signature ∷ []
    → None ≡ decoded_object header → token_of bytes ≡ None
token_of-no_header bytes text header payload signature same is none = token_of-pieces bytes text _ same is ∙ rw (← none) refl

pub token_of-no_payload : (bytes text header payload signature : List ℕ) (h : Data) → text ≡ trimmed bytes → pieces_of text ≡ header ∷ payload ∷ signature ∷ []
    → Some h ≡ decoded_object header → None ≡ decoded_object payload → token_of bytes ≡ None
token_of-no_payload bytes text header payload signature h same is some none = token_of-pieces bytes text _ same is ∙ rw (← some, ← none) refl

pub token_of-no_signature : (bytes text header payload signature : List ℕ) (h p : Data) → text ≡ trimmed bytes → pieces_of text ≡ header ∷ payload ∷ signature ∷ []
    → Some h ≡ decoded_object header → Some p ≡ decoded_object payload → decoded signature ≡ None → token_of bytes ≡ None
token_of-no_signature bytes text header payload signature h p same is some more none =
    token_of-pieces bytes text _ same is ∙ rw (← some, ← more, none) refl

pub token_of-whole : (bytes text signed header payload signature : List ℕ) (h p : Data) (s : List ℕ) → text ≡ trimmed bytes
    → pieces_of text ≡ header ∷ payload ∷ signature ∷ [] → signed ≡ header ++ 46 ∷ payload
    → Some h ≡ decoded_object header → Some p ≡ decoded_object payload → decoded signature ≡ Some s
    → token_of bytes ≡ Some (record { text = signed; header = h; claims = p; signature = s })
token_of-whole bytes text signed header payload signature h p s same is joined some more last =
    token_of-pieces bytes text _ same is ∙ rw (← some, ← more, last, joined) refl

-- ---- a configuration

pub checked_none : (keys : KeyPair) (o : Option Token) → o ≡ None → result_and_then (token_checked keys) (ok_or o not_token) ≡ Err not_token
checked_none keys o none = ap (λ (t : Option Token). result_and_then (token_checked keys) (ok_or t not_token)) none

pub checked_some : (keys : KeyPair) (o : Option Token) (token : Token) → o ≡ Some token
    → result_and_then (token_checked keys) (ok_or o not_token) ≡ token_checked keys token
checked_some keys o token some = ap (λ (t : Option Token). result_and_then (token_checked keys) (ok_or t not_token)) some

pub config_of-long : (keys : KeyPair) (bytes : List ℕ) → 65536 < length bytes → config_of keys bytes ≡ Err (too_long (length bytes))
unfolding config_of
config_of-long keys bytes long = rw (lt-ltb 65536 (length bytes) long) refl

pub config_of-short : (keys : KeyPair) (bytes : List ℕ) → length bytes ≤ 65536
    → config_of keys bytes ≡ result_and_then (token_checked keys) (ok_or (token_of bytes) not_token)
unfolding config_of
config_of-short keys bytes short = rw (le-ltb 65536 (length bytes) short) refl
