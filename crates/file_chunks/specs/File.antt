-- A whole content file: a header and chunks, of which the last may be short.
use Rattle.std.specs.Prelude.{◌≡◌, ℕ, ◌+◌, ◌-◌, ◌*◌, ◌/◌, ◌%◌, List, length, take, drop, map, Bool, ◌||◌, ◌&&◌, nat_lt, Option, Some, None, if◌then◌else◌}
use Rattle.std.specs.Option.{is_some, option_map_or, option_and_then}
use Rattle.std.specs.List.{range_with_len}
use Rattle.aes_block.specs.Aes.{aes}
use Rattle.gcm_mode.specs.Gcm.{gcm_opened}
use Rattle.vault_keys.specs.Keys.{KeyPair}
use Rattle.tree_model.specs.Rows.{Cell, good, damaged, Content, bad_size, chunks}
use Rattle.file_chunks.specs.Header.{Head, header_opens}
use Rattle.file_chunks.specs.Chunk.{chunk_opens}
use Rattle.file_chunks.specs.Sizes.{header_length, key_length, sealed_length, sealing_length}

-- no content has this size: it is shorter than a header, or its last chunk shorter than an empty one
abbrev pub is_bad_size : ℕ → Bool
is_bad_size size = nat_lt size header_length || (nat_lt 0 ((size - header_length) % sealed_length) && nat_lt ((size - header_length) % sealed_length) sealing_length)

-- how many sealed chunks are in a file of this size
abbrev pub chunk_count : ℕ → ℕ
chunk_count size = (size - header_length + (sealed_length - 1)) / sealed_length

-- the sealed chunk of an index
abbrev pub sealed_at : List ℕ → ℕ → List ℕ
sealed_at bytes index = take sealed_length (drop (header_length + sealed_length * index) bytes)

-- a chunk's plaintext, if header and chunk open; else how long it would be
abbrev pub cell_of : Option Head → ℕ → List ℕ → Cell
cell_of head index sealed = option_map_or good (option_and_then (λ h. chunk_opens h index sealed) head) (damaged (length sealed - sealing_length))

-- the content of a host file's bytes
unfoldable pub content_of : KeyPair → List ℕ → Content
content_of keys bytes =
    if is_bad_size (length bytes) then bad_size
    else chunks (is_some (header_opens keys (take header_length bytes)))
    (map (λ i. cell_of (header_opens keys (take header_length bytes)) i (sealed_at bytes i)) (range_with_len 0 (chunk_count (length bytes))))

-- the length of the content of a file of this size
abbrev pub clear_length : ℕ → Option ℕ
clear_length size = if is_bad_size size then None else Some (size - header_length - sealing_length * chunk_count size)

-- a key of AES-256
abbrev pub IsKey : List ℕ → Type 0
IsKey key = length key ≡ key_length

-- what GCM opens is as long as its ciphertext
abbrev pub KeepsLength : Type 0
KeepsLength =
    (key nonce ad ciphertext tag plaintext : List ℕ) → IsKey key → gcm_opened (aes key) nonce ad ciphertext tag ≡ Some plaintext
    → length plaintext ≡ length ciphertext
