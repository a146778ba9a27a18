-- PBKDF2 (RFC 8018, section 5.2) with HMAC-SHA-256.
use Rattle.std.specs.Prelude.{ℕ, zero, suc, ◌+◌, ◌-◌, ◌/◌, ◌%◌, ◌^◌, List, ◌++◌, take}
use Rattle.std.specs.List.{flat_map, range_with_len}
use Rattle.sha2.specs.Sha256.{sha256}
use Rattle.hmac_sha.specs.Hmac.{hmac}
use Rattle.aes_block.specs.Bytes.{xor_bytes, bytes_of}

abbrev pub prf : List ℕ → List ℕ → List ℕ
prf password text = hmac sha256 64 password text

-- U (n + 1), U 1 being the PRF of the salt and the block's number
unfoldable pub u_after : List ℕ → List ℕ → ℕ → List ℕ
u_after password first zero = prf password first
u_after password first (suc n) = prf password (u_after password first n)

-- the xor of U 1 to U (n + 1)
unfoldable pub xored_us : List ℕ → List ℕ → ℕ → List ℕ
xored_us password first zero = u_after password first zero
xored_us password first (suc n) = xor_bytes (xored_us password first n) (u_after password first (suc n))

-- block i, from 1; its number is taken modulo 2^32
abbrev pub block : List ℕ → List ℕ → ℕ → ℕ → List ℕ
block password salt turns i = xored_us password (salt ++ bytes_of 4 (i % 2 ^ 32)) (turns - 1)

-- as many blocks as are needed, cut to the length; turns is at least 1
unfoldable pub pbkdf2 : List ℕ → List ℕ → ℕ → ℕ → List ℕ
pbkdf2 password salt turns len =
    take len (flat_map (λ i. block password salt turns (i + 1)) (range_with_len 0 ((len + 31) / 32)))
