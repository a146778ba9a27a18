-- The header of a content file (Cryptomator's vault format 8, combination SIV_GCM), 68 bytes: a nonce of 12; GCM under the encryption
-- key, without associated data, of 8 bytes that aren't looked at and a content key of 32; the tag of 16.
use Rattle.std.specs.Prelude.{ℕ, List, [], ◌++◌, take, drop, replicate, Option}
use Rattle.std.specs.Option.{option_map}
use Rattle.vault_keys.specs.Keys.{KeyPair}
use Rattle.file_chunks.specs.Envelope.{envelope_opens, sealed_envelope}
use Rattle.file_chunks.specs.Sizes.{nonce_length, unused_length}

-- what a header says of its file
pub record Head : Type 0 where
  pub nonce : List ℕ
  pub key : List ℕ

-- the header of these bytes, by what they open to
abbrev pub head_of : List ℕ → List ℕ → Head
head_of bytes payload = record { nonce = take nonce_length bytes; key = drop unused_length payload }

-- the header that these 68 bytes are, and None if the tag isn't GCM's
unfoldable pub header_opens : KeyPair → List ℕ → Option Head
header_opens keys bytes = option_map (head_of bytes) (envelope_opens keys.enc [] bytes)

-- the header of this nonce and content key, with eight bytes FF before the key
unfoldable pub sealed_header : KeyPair → Head → List ℕ
sealed_header keys head = sealed_envelope keys.enc [] head.nonce (replicate unused_length 255 ++ head.key)
