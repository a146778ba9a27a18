-- Sealed names (Cryptomator's vault format 8): a clear name in NFC is sealed by SIV with the identifier of its directory as the
-- associated string, written in base64url with padding (RFC 4648, section 5), and followed by `.c9r`.
use Rattle.std.specs.Prelude.{◌≡◌, ℕ, ◌-◌, List, [], ◌∷◌, ◌++◌, length, take, drop, Option, Some, None, if◌then◌else◌}
use Rattle.std.specs.Option.{option_and_then}
use Rattle.std.specs.Result.{result_ok}
use Rattle.std.specs.Str.{bytes_eq}
use Rattle.base64.specs.GeneralPurpose.{encode_of, decode_of}
use Rattle.base64.specs.Engines.{url_safe}
use Rattle.aes_block.specs.Aes.{aes}
use Rattle.vault_keys.specs.Keys.{KeyPair}
use Rattle.siv_mode.specs.Siv.{siv_sealed, siv_opened}
use Rattle.tree_model.specs.Names.{clear_name, IsClearName}

-- `.c9r`
abbrev pub suffix : List ℕ
suffix = 46 ∷ 99 ∷ 57 ∷ 114 ∷ []

-- the sealed name of a clear name in the directory of this identifier
unfoldable pub sealed_name : KeyPair → List ℕ → List ℕ → List ℕ
sealed_name keys parent name = encode_of url_safe (siv_sealed (aes keys.mac) (aes keys.enc) (Some parent) name) ++ suffix

-- a text is the sealed name of a valid clear name
pub record IsSealedName (keys : KeyPair) (parent text name : List ℕ) : Type 0 where
  pub valid : IsClearName name
  pub sealed : text ≡ sealed_name keys parent name

-- ---- the same as a function of the text

-- what is before the suffix, if the text ends with it
abbrev pub before_suffix : List ℕ → Option (List ℕ)
before_suffix text = if bytes_eq (drop (length text - 4) text) suffix then Some (take (length text - 4) text) else None

abbrev pub decoded : List ℕ → Option (List ℕ)
decoded text = result_ok (decode_of url_safe text)

-- the name itself, if it is a valid clear name as it stands
abbrev pub valid_name : List ℕ → Option (List ℕ)
valid_name name = option_and_then (λ clear. if bytes_eq clear name then Some name else None) (result_ok (clear_name name))

-- the clear name of a sealed name, and None of any other text
unfoldable pub opened_name : KeyPair → List ℕ → List ℕ → Option (List ℕ)
opened_name keys parent text =
    option_and_then valid_name (option_and_then (siv_opened (aes keys.mac) (aes keys.enc) (Some parent)) (option_and_then decoded (before_suffix text)))
