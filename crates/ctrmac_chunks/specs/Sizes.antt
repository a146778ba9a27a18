-- The sizes of a content file, in bytes (Cryptomator's vault format 8, combination SIV_CTRMAC).
use Rattle.std.specs.Prelude.{ℕ, ◌+◌}

-- a nonce, which is the first counter block
abbrev pub nonce_length : ℕ
nonce_length = 16

-- an HMAC-SHA-256
abbrev pub tag_length : ℕ
tag_length = 32

-- what sealing adds: a nonce and an HMAC
abbrev pub sealing_length : ℕ
sealing_length = nonce_length + tag_length

-- what is before the content key in a header's plaintext
abbrev pub unused_length : ℕ
unused_length = 8

-- a key of AES-256
abbrev pub key_length : ℕ
key_length = 32

abbrev pub header_length : ℕ
header_length = 88

-- a chunk's index
abbrev pub index_length : ℕ
index_length = 8

-- the plaintext of a full chunk
abbrev pub chunk_length : ℕ
chunk_length = 32768

-- a full chunk, sealed
abbrev pub sealed_length : ℕ
sealed_length = chunk_length + sealing_length
