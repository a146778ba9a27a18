-- A chunk of a content file (Cryptomator's vault format 8, combination SIV_CTRMAC): a nonce of 16 bytes; up to 32,768 bytes under AES in
-- counter mode with the content key; HMAC-SHA-256 under the MAC key of the header's nonce, the chunk's index, nonce and ciphertext.
use Rattle.std.specs.Prelude.{ℕ, List, ◌++◌, Option}
use Rattle.aes_block.specs.Aes.{aes}
use Rattle.aes_block.specs.Bytes.{bytes_of}
use Rattle.ctrmac_chunks.specs.Envelope.{envelope_opens, sealed_envelope}
use Rattle.ctrmac_chunks.specs.Header.{Head}
use Rattle.ctrmac_chunks.specs.Sizes.{index_length}

-- the header's nonce, and the index, from 0, as 8 bytes, most significant first
abbrev pub bound_to : Head → ℕ → List ℕ
bound_to head index = head.nonce ++ bytes_of index_length index

-- the plaintext of a sealed chunk, and None if it is below 48 bytes or its HMAC isn't that for this header and index
unfoldable pub chunk_opens : Head → ℕ → List ℕ → Option (List ℕ)
chunk_opens head index sealed = envelope_opens (aes head.key) head.mac (bound_to head index) sealed

-- a chunk sealed under a nonce of its own
unfoldable pub sealed_chunk : Head → ℕ → List ℕ → List ℕ → List ℕ
sealed_chunk head index nonce plaintext = sealed_envelope (aes head.key) head.mac (bound_to head index) nonce plaintext
