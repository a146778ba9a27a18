-- What headers and chunks share: a nonce, a ciphertext under GCM, and its tag.
use Rattle.std.specs.Prelude.{ℕ, ◌-◌, List, ◌++◌, length, take, drop, Option, None, nat_lt, if◌then◌else◌}
use Rattle.aes_block.specs.Aes.{aes}
use Rattle.gcm_mode.specs.Gcm.{gcm_opened, gcm_sealed}
use Rattle.file_chunks.specs.Sizes.{nonce_length, sealing_length, tag_length}

-- the plaintext in a nonce, a ciphertext and a tag, and None if they are too short to hold both, or the tag isn't GCM's
abbrev pub envelope_opens : List ℕ → List ℕ → List ℕ → Option (List ℕ)
envelope_opens key ad sealed =
    if nat_lt (length sealed) sealing_length then None
    else gcm_opened (aes key) (take nonce_length sealed) ad (take (length sealed - sealing_length) (drop nonce_length sealed)) (drop (length sealed - tag_length) sealed)

-- a plaintext sealed under a nonce of its own
abbrev pub sealed_envelope : List ℕ → List ℕ → List ℕ → List ℕ → List ℕ
sealed_envelope key ad nonce plaintext = nonce ++ gcm_sealed (aes key) nonce ad plaintext
