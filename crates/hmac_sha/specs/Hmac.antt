-- HMAC (RFC 2104) over a hash of byte lists whose blocks have `block` bytes.
use Rattle.std.specs.Prelude.{ℕ, ◌-◌, List, ◌++◌, length, replicate, map, bit_xor, nat_lt, if◌then◌else◌}

-- the key as a block: hashed if it is longer than one, then padded with zeros (section 2, steps 1 and 2 of the note on keys)
abbrev pub key_block : (List ℕ → List ℕ) → ℕ → List ℕ → List ℕ
key_block hash block key =
    let short = if nat_lt block (length key) then hash key else key in
    short ++ replicate (block - length short) 0

-- every byte xored with one
abbrev pub xored : ℕ → List ℕ → List ℕ
xored byte bytes = map (λ b. bit_xor b byte) bytes

-- H(K xor opad, H(K xor ipad, text)), ipad being the byte 36 repeated and opad the byte 5C (section 2)
unfoldable pub hmac : (List ℕ → List ℕ) → ℕ → List ℕ → List ℕ → List ℕ
hmac hash block key text =
    hash (xored 0x5c (key_block hash block key) ++ hash (xored 0x36 (key_block hash block key) ++ text))
