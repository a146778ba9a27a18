-- The two places of a sealed name (Cryptomator's vault format 8): a short name is at its own text, `X.c9r`; a long one in a folder that
-- is named by the hash of that text, and whose `name.c9s` holds it.
use Rattle.std.specs.Prelude.{◌≡◌, ℕ, ◌≤◌, List, [], ◌∷◌, ◌++◌, length, nat_le, if◌then◌else◌}
use Rattle.base64.specs.GeneralPurpose.{encode_of}
use Rattle.base64.specs.Engines.{url_safe}
use Rattle.sha1.specs.Sha1.{sha1}
use Rattle.vault_names.specs.declared.place.Place.{Place}
use Rattle.vault_names.specs.declared.place.Place.TheVariants.{Short, Long}

-- `.c9s`
abbrev pub long_suffix : List ℕ
long_suffix = 46 ∷ 99 ∷ 57 ∷ 115 ∷ []

-- the folder of a text at its long place: the SHA-1 hash of the text in base64url with padding (RFC 4648, section 5), and `.c9s`
unfoldable pub long_folder : List ℕ → List ℕ
long_folder text = encode_of url_safe (sha1 text) ++ long_suffix

-- where a text is placed: short if it has at most `threshold` characters
abbrev pub place_of : ℕ → List ℕ → Place
place_of threshold text = if nat_le (length text) threshold then Short else Long (long_folder text)

-- the longest text of a sealed name, that of a clear name of 1,024 bytes
abbrev pub longest_text : ℕ
longest_text = 1392

-- a folder stands for the text that its `name.c9s` holds
pub record ReadsLong (folder text : List ℕ) : Type 0 where
  pub short : length text ≤ longest_text
  pub hashed : folder ≡ long_folder text
