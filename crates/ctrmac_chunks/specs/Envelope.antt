-- What headers and chunks share: a nonce, a ciphertext in counter mode from the nonce on, and an HMAC of both.
use Rattle.std.specs.Prelude.{ℕ, ◌-◌, List, ◌++◌, length, take, drop, Option, Some, None, nat_lt, if◌then◌else◌}
use Rattle.std.specs.Str.{bytes_eq}
use Rattle.aes_block.specs.Bytes.{number_of}
use Rattle.ctr_mode.specs.Counter.{counted}
use Rattle.sha2.specs.Sha256.{sha256}
use Rattle.hmac_sha.specs.Hmac.{hmac}
use Rattle.ctrmac_chunks.specs.Sizes.{nonce_length, sealing_length, tag_length}

-- the HMAC-SHA-256 of what a nonce and a ciphertext are bound to, and of these
abbrev pub tag_of : List ℕ → List ℕ → List ℕ → List ℕ
tag_of mac bound text = hmac sha256 64 mac (bound ++ text)

-- encryption and decryption under a nonce
abbrev pub counted_from : (List ℕ → List ℕ) → List ℕ → List ℕ → List ℕ
counted_from cipher nonce text = counted cipher (number_of nonce) text

-- the plaintext in a nonce, a ciphertext and an HMAC, and None if they are too short to hold both, or the HMAC isn't theirs
abbrev pub envelope_opens : (List ℕ → List ℕ) → List ℕ → List ℕ → List ℕ → Option (List ℕ)
envelope_opens cipher mac bound sealed =
    if nat_lt (length sealed) sealing_length then None
    else if bytes_eq (tag_of mac bound (take (length sealed - tag_length) sealed)) (drop (length sealed - tag_length) sealed)
    then Some (counted_from cipher (take nonce_length sealed) (take (length sealed - sealing_length) (drop nonce_length sealed)))
    else None

-- a plaintext sealed under a nonce of its own
abbrev pub sealed_envelope : (List ℕ → List ℕ) → List ℕ → List ℕ → List ℕ → List ℕ → List ℕ
sealed_envelope cipher mac bound nonce plaintext =
    nonce ++ counted_from cipher nonce plaintext ++ tag_of mac bound (nonce ++ counted_from cipher nonce plaintext)
