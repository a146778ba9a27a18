-- The folder of a directory (Cryptomator's vault format 8): the SHA-1 hash of its identifier, sealed by SIV without an associated
-- string, in base32 (RFC 4648, section 6).
use Rattle.std.specs.Prelude.{ℕ, ◌+◌, ◌-◌, ◌/◌, ◌%◌, ◌^◌, List, [], ◌∷◌, take, drop, map, None, nat_lt, if◌then◌else◌}
use Rattle.std.specs.List.{range_with_len}
use Rattle.aes_block.specs.Bytes.{number_of}
use Rattle.aes_block.specs.Aes.{aes}
use Rattle.sha1.specs.Sha1.{sha1}
use Rattle.vault_layout.specs.Names.{folders}
use Rattle.vault_keys.specs.Keys.{KeyPair}
use Rattle.siv_mode.specs.Siv.{siv_sealed}

-- a digit of 5 bits: `A` to `Z`, then `2` to `7` (RFC 4648, table 3)
abbrev pub base32_digit : ℕ → ℕ
base32_digit n = if nat_lt n 26 then 65 + n else 24 + n

-- 20 bytes as 32 digits of 5 bits, the most significant first
unfoldable pub base32 : List ℕ → List ℕ
base32 hash = map (λ i. base32_digit (number_of hash / 32 ^ (31 - i) % 32)) (range_with_len 0 32)

-- the hash of an identifier
abbrev pub hash_of : KeyPair → List ℕ → List ℕ
hash_of keys identifier = sha1 (siv_sealed (aes keys.mac) (aes keys.enc) None identifier)

-- the path of these digits: below the folder of all directories' folders the first 2, then the other 30
abbrev pub folder_path : List ℕ → List (List ℕ)
folder_path digits = folders ∷ take 2 digits ∷ drop 2 digits ∷ []

unfoldable pub folder_of : KeyPair → List ℕ → List (List ℕ)
folder_of keys identifier = folder_path (base32 (hash_of keys identifier))
