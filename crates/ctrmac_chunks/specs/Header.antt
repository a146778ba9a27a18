-- The header of a content file (Cryptomator's vault format 8, combination SIV_CTRMAC), 88 bytes: a nonce of 16; AES in counter mode
-- under the encryption key of 8 bytes that aren't looked at and a content key of 32; HMAC-SHA-256 under the MAC key of nonce and ciphertext.
use Rattle.std.specs.Prelude.{ℕ, List, [], ◌++◌, take, drop, replicate, Option}
use Rattle.std.specs.Option.{option_map}
use Rattle.aes_block.specs.Aes.{aes}
use Rattle.vault_keys.specs.Keys.{KeyPair}
use Rattle.ctrmac_chunks.specs.Envelope.{envelope_opens, sealed_envelope}
use Rattle.ctrmac_chunks.specs.Sizes.{nonce_length, unused_length}

-- what a header says of its file, and the vault's MAC key, which its chunks are authenticated by
pub record Head : Type 0 where
  pub nonce : List ℕ
  pub key : List ℕ
  pub mac : List ℕ

-- the header of these bytes, by what they open to
abbrev pub head_of : KeyPair → List ℕ → List ℕ → Head
head_of keys bytes payload = record { nonce = take nonce_length bytes; key = drop unused_length payload; mac = keys.mac }

-- the header that these 88 bytes are, and None if the HMAC isn't theirs
unfoldable pub header_opens : KeyPair → List ℕ → Option Head
header_opens keys bytes = option_map (head_of keys bytes) (envelope_opens (aes keys.enc) keys.mac [] bytes)

-- the header of this nonce and content key, with eight bytes FF before the key
unfoldable pub sealed_header : KeyPair → Head → List ℕ
sealed_header keys head = sealed_envelope (aes keys.enc) keys.mac [] head.nonce (replicate unused_length 255 ++ head.key)
