-- The secret: a line with a password, or with 128 hexadecimal digits, the encryption key and then the MAC key.
use Rattle.std.specs.Prelude.{◌≡◌, ◌⊎◌, ℕ, ◌+◌, ◌≤◌, List, [], ◌∷◌, ◌++◌, length, take, drop, Option, None, ◌==◌, if◌then◌else◌}
use Rattle.std.specs.Option.{option_map}
use Rattle.std.specs.Result.{result_ok}
use Rattle.hex.specs.Hex.{decode_of}
use Rattle.vault_keys.specs.Keys.{KeyPair}
use Rattle.masterkey_file.specs.Password.{line_of}
use Rattle.vault_layout.specs.Limits.{password_limit}
use Rattle.unlocking.specs.declared.from_folder.SecretKind.{SecretKind}
use Rattle.unlocking.specs.declared.from_folder.SecretKind.TheVariants.{Password, RawKeys}

-- two keys of 32 bytes, one after the other
abbrev pub pair_of : List ℕ → KeyPair
pair_of keys = record { enc = take 32 keys; mac = drop 32 keys }

-- the keys of a line, and None if it isn't 128 hexadecimal digits
unfoldable pub raw_keys : List ℕ → Option KeyPair
raw_keys line = if length line == 128 then option_map pair_of (result_ok (decode_of line)) else None

-- at most n bytes were taken from the front
abbrev pub TakesAtMost : ℕ → List ℕ → List ℕ → Type 0
TakesAtMost n bytes left = (taken : List ℕ) × (bytes ≡ taken ++ left) × (length taken ≤ n)

-- what is left after the first line: its LF was taken, if there is one, and nothing after it
abbrev pub IsAfterLine : List ℕ → List ℕ → Type 0
IsAfterLine bytes left = (bytes ≡ line_of bytes ++ 10 ∷ left) ⊎ ((bytes ≡ line_of bytes) × (left ≡ []))

-- how much is taken of a secret that unlocks nothing: no more than its longest line and one byte
abbrev pub taken_limit : SecretKind → ℕ
taken_limit Password = password_limit + 1
taken_limit RawKeys = 129
