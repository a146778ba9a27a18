-- The sizes of a content file, in bytes (Cryptomator's vault format 8, combination SIV_GCM).
use Rattle.std.specs.Prelude.{ℕ, ◌+◌}

-- a nonce of GCM
abbrev pub nonce_length : ℕ
nonce_length = 12

-- a tag of GCM
abbrev pub tag_length : ℕ
tag_length = 16

-- what sealing adds: a nonce and a tag
abbrev pub sealing_length : ℕ
sealing_length = nonce_length + tag_length

-- what is before the content key in a header's plaintext
abbrev pub unused_length : ℕ
unused_length = 8

-- a key of AES-256
abbrev pub key_length : ℕ
key_length = 32

abbrev pub header_length : ℕ
header_length = 68

-- a chunk's index
abbrev pub index_length : ℕ
index_length = 8

-- the plaintext of a full chunk
abbrev pub chunk_length : ℕ
chunk_length = 32768

-- a full chunk, sealed
abbrev pub sealed_length : ℕ
sealed_length = chunk_length + sealing_length
