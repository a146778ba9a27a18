-- A chunk of a content file (Cryptomator's vault format 8, combination SIV_GCM): a nonce of 12 bytes; up to 32,768 bytes under GCM with
-- the content key, the associated data being the chunk's index and the header's nonce; the tag of 16 bytes.
use Rattle.std.specs.Prelude.{ℕ, List, ◌++◌, Option}
use Rattle.aes_block.specs.Bytes.{bytes_of}
use Rattle.file_chunks.specs.Envelope.{envelope_opens, sealed_envelope}
use Rattle.file_chunks.specs.Header.{Head}
use Rattle.file_chunks.specs.Sizes.{index_length}

-- the index, from 0, as 8 bytes, most significant first, and the header's nonce
abbrev pub associated_data : Head → ℕ → List ℕ
associated_data head index = bytes_of index_length index ++ head.nonce

-- the plaintext of a sealed chunk, and None if it is below 28 bytes or its tag isn't GCM's for this header and index
unfoldable pub chunk_opens : Head → ℕ → List ℕ → Option (List ℕ)
chunk_opens head index sealed = envelope_opens head.key (associated_data head index) sealed

-- a chunk sealed under a nonce of its own
unfoldable pub sealed_chunk : Head → ℕ → List ℕ → List ℕ → List ℕ
sealed_chunk head index nonce plaintext = sealed_envelope head.key (associated_data head index) nonce plaintext
