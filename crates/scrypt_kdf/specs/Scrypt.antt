-- scrypt (RFC 7914) on lists of bytes.
use Rattle.std.specs.Prelude.{◌≡◌, ◌⊎◌, ℕ, zero, suc, ◌+◌, ◌-◌, ◌*◌, ◌%◌, ◌^◌, ◌<◌, List, ◌++◌, take, drop}
use Rattle.std.specs.List.{flat_map, range_with_len}
use Rattle.byteorder.specs.Endian.{little_number}
use Rattle.aes_block.specs.Bytes.{xor_bytes}
use Rattle.scrypt_kdf.specs.Pbkdf2.{pbkdf2}
use Rattle.scrypt_kdf.specs.Salsa.{salsa, words_of, bytes_of_words}

abbrev pub salsa_bytes : List ℕ → List ℕ
salsa_bytes block = bytes_of_words (salsa (words_of block))

-- block i of 64 bytes
abbrev pub block_at : List ℕ → ℕ → List ℕ
block_at bytes i = take 64 (drop (64 * i) bytes)

-- X after the blocks 0 to n - 1 of 2 r were taken in; it starts as the last block (section 4)
unfoldable pub mixed_after : ℕ → List ℕ → ℕ → List ℕ
mixed_after r bytes zero = block_at bytes (2 * r - 1)
mixed_after r bytes (suc n) = salsa_bytes (xor_bytes (mixed_after r bytes n) (block_at bytes n))

-- BlockMix: the outputs of even places, then those of odd places (section 4)
unfoldable pub block_mix : ℕ → List ℕ → List ℕ
block_mix r bytes =
    flat_map (λ i. mixed_after r bytes (2 * i + 1)) (range_with_len 0 r)
    ++ flat_map (λ i. mixed_after r bytes (2 * i + 2)) (range_with_len 0 r)

-- V i of ROMix (section 5, step 2)
unfoldable pub v_at : ℕ → List ℕ → ℕ → List ℕ
v_at r bytes zero = bytes
v_at r bytes (suc i) = block_mix r (v_at r bytes i)

-- the last 64 bytes as a number, least significant byte first
abbrev pub integerify : ℕ → List ℕ → ℕ
integerify r bytes = little_number 64 (drop (64 * (2 * r - 1)) bytes)

-- X after n of the N steps of the second loop (section 5, step 3)
unfoldable pub x_after : ℕ → ℕ → List ℕ → ℕ → List ℕ
x_after cost r bytes zero = v_at r bytes cost
x_after cost r bytes (suc n) =
    block_mix r (xor_bytes (x_after cost r bytes n)
    (v_at r bytes (integerify r (x_after cost r bytes n) % cost)))

-- ROMix (section 5)
abbrev pub ro_mix : ℕ → ℕ → List ℕ → List ℕ
ro_mix cost r bytes = x_after cost r bytes cost

-- what PBKDF2 made, in p parts of 128 r bytes, each mixed on its own (section 6, steps 1 and 2)
abbrev pub mixed_parts : ℕ → ℕ → ℕ → List ℕ → List ℕ
mixed_parts cost r p bytes =
    flat_map (λ i. ro_mix cost r (take (128 * r) (drop (128 * r * i) bytes))) (range_with_len 0 p)

-- scrypt (section 6)
unfoldable pub scrypt : List ℕ → List ℕ → ℕ → ℕ → ℕ → ℕ → List ℕ
scrypt password salt cost r p len =
    pbkdf2 password (mixed_parts cost r p (pbkdf2 password salt 1 (128 * r * p))) 1 len

-- a cost is a power of two above 1, and there is a block and a part at least. The further bound on
-- the cost by the block size (section 6) isn't looked at.
pub record IsCost (cost r p : ℕ) : Type 0 where
  pub power : ℕ
  pub above : 0 < power
  pub is_power : cost ≡ 2 ^ power
  pub block : 0 < r
  pub parts : 0 < p

-- the table or the parts have more than 2^30 bytes
abbrev pub IsTooLarge : ℕ → ℕ → ℕ → Type 0
IsTooLarge cost r p = (2 ^ 30 < 128 * cost * r) ⊎ (2 ^ 30 < 128 * r * p)
