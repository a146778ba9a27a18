-- A JSON Web Token in compact form (RFC 7519; RFC 7515, section 7.1): header, payload and signature, each in base64url without padding
-- (RFC 4648, section 5), with dots between them.
use Rattle.std.specs.Prelude.{ℕ, List, [], ◌∷◌, ◌++◌, Option, Some, None, option_and_then, option_map, codes, ◌==◌, if◌then◌else◌}
use Rattle.std.specs.Result.{result_ok}
use Rattle.std.specs.List.{list_all}
use Rattle.std.specs.Str.{bytes_eq}
use Rattle.std.specs.Char.{is_ascii_whitespace}
use Rattle.base64.specs.GeneralPurpose.{decode_of}
use Rattle.base64.specs.Engines.{url_safe_no_pad}
use Rattle.sha2.specs.Sha256.{sha256}
use Rattle.sha2.specs.Sha512.{sha384, sha512}
use Rattle.serde_json.specs.Data.{Data}
use Rattle.hmac_sha.specs.Hmac.{hmac}
use Rattle.json_members.specs.Members.{object_of, text_at}

-- without the ASCII white space at the end: tab, line feed, form feed, carriage return, space
unfoldable pub trimmed : List ℕ → List ℕ
trimmed [] = []
trimmed (b ∷ bytes) = if list_all is_ascii_whitespace (b ∷ bytes) then [] else b ∷ trimmed bytes

-- the pieces between the dots
abbrev pub onto_first : ℕ → List (List ℕ) → List (List ℕ)
onto_first b [] = (b ∷ []) ∷ []
onto_first b (piece ∷ pieces) = (b ∷ piece) ∷ pieces

unfoldable pub pieces_of : List ℕ → List (List ℕ)
pieces_of [] = [] ∷ []
pieces_of (b ∷ bytes) = if b == 46 then [] ∷ pieces_of bytes else onto_first b (pieces_of bytes)

-- a token: the text that is signed, and the objects and the signature that its pieces hold
pub record Token : Type 0 where
  pub text : List ℕ
  pub header : Data
  pub claims : Data
  pub signature : List ℕ

abbrev pub decoded : List ℕ → Option (List ℕ)
decoded piece = result_ok (decode_of url_safe_no_pad piece)

abbrev pub decoded_object : List ℕ → Option Data
decoded_object piece = option_and_then object_of (decoded piece)

abbrev pub token_of_pieces : List (List ℕ) → Option Token
token_of_pieces (header ∷ payload ∷ signature ∷ []) =
    option_and_then (λ h. option_and_then (λ p. option_map (λ s. record { text = header ++ 46 ∷ payload; header = h; claims = p; signature = s }) (decoded signature))
    (decoded_object payload)) (decoded_object header)
token_of_pieces pieces = None

-- the token that bytes are, and None if they are none: other than three pieces, a piece that is no base64url, a header or a payload that is no
-- JSON object
unfoldable pub token_of : List ℕ → Option Token
token_of bytes = token_of_pieces (pieces_of (trimmed bytes))

-- the algorithms that are accepted (RFC 7518, section 3.2)
pub data Algorithm : Type 0 where
  hs256 : Algorithm
  hs384 : Algorithm
  hs512 : Algorithm

abbrev pub algorithm_named : List ℕ → Option Algorithm
algorithm_named name =
    if bytes_eq name (codes "HS256") then Some hs256
    else if bytes_eq name (codes "HS384") then Some hs384
    else if bytes_eq name (codes "HS512") then Some hs512
    else None

abbrev pub algorithm_of : Token → Option Algorithm
algorithm_of token = option_and_then algorithm_named (text_at (codes "alg") token.header)

abbrev pub signature_of : Algorithm → List ℕ → List ℕ → List ℕ
signature_of hs256 key text = hmac sha256 64 key text
signature_of hs384 key text = hmac sha384 128 key text
signature_of hs512 key text = hmac sha512 128 key text
