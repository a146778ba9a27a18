-- The steps of AES on vectors of 16 bytes, in a basis in which the inverse of a byte is made from look-ups of 4 bits.
use Rattle.std.specs.Prelude.{◌≡◌, ◌<◌, ℕ, ◌/◌, ◌==◌, slice_index_or, List, [], ◌∷◌, length, map, slice_index, bit_and, bit_xor, nat_le, if◌then◌else◌}
use Rattle.aes_block.specs.Bytes.{AreBytes, xor_bytes}
use Rattle.aes_block.specs.Aes.{key_schedule, round_key}
use Rattle.aes_kernels.specs.declared.tables.TheConstants.{INV, INVA, IPTH, IPTL, SB1T, SB1U, SB2T, SB2U, SBOT, SBOU}

-- the entry of a table of 16 bytes at place j; a j from 128 on stands for infinity and gives 0
abbrev pub looked_up : List ℕ → ℕ → ℕ
looked_up table j = if nat_le 128 (bit_and j 143) then 0 else slice_index table (bit_and j 143)

-- a byte in the basis of the look-ups
abbrev pub based : ℕ → ℕ
based b = bit_xor (looked_up IPTL (bit_and b 15)) (looked_up IPTH (b / 16))

-- the two parts of the inverse
abbrev pub inverse_upper : ℕ → ℕ
inverse_upper b =
    bit_xor (looked_up INV (bit_xor (looked_up INV (b / 16)) (looked_up INVA (bit_and b 15)))) (bit_xor (b / 16) (bit_and b 15))

abbrev pub inverse_lower : ℕ → ℕ
inverse_lower b =
    bit_xor (looked_up INV (bit_xor (looked_up INV (bit_xor (b / 16) (bit_and b 15))) (looked_up INVA (bit_and b 15)))) (b / 16)

-- what SubBytes makes of a byte but for its constant 63: once, twice, and once in the usual basis
abbrev pub once : ℕ → ℕ
once b = bit_xor (looked_up SB1U (inverse_upper b)) (looked_up SB1T (inverse_lower b))

abbrev pub twice : ℕ → ℕ
twice b = bit_xor (looked_up SB2U (inverse_upper b)) (looked_up SB2T (inverse_lower b))

abbrev pub substituted_alone : ℕ → ℕ
substituted_alone b = bit_xor (looked_up SBOU (inverse_upper b)) (looked_up SBOT (inverse_lower b))

-- the elements at some places
abbrev pub picked : List ℕ → List ℕ → List ℕ
picked x places = map (λ i. slice_index x i) places

-- ShiftRows, and the rows that follow and go before
abbrev pub shifted : List ℕ → List ℕ
shifted x = picked x (0 ∷ 5 ∷ 10 ∷ 15 ∷ 4 ∷ 9 ∷ 14 ∷ 3 ∷ 8 ∷ 13 ∷ 2 ∷ 7 ∷ 12 ∷ 1 ∷ 6 ∷ 11 ∷ [])

abbrev pub next_of : List ℕ → List ℕ
next_of x = picked x (1 ∷ 2 ∷ 3 ∷ 0 ∷ 5 ∷ 6 ∷ 7 ∷ 4 ∷ 9 ∷ 10 ∷ 11 ∷ 8 ∷ 13 ∷ 14 ∷ 15 ∷ 12 ∷ [])

abbrev pub last_of : List ℕ → List ℕ
last_of x = picked x (3 ∷ 0 ∷ 1 ∷ 2 ∷ 7 ∷ 4 ∷ 5 ∷ 6 ∷ 11 ∷ 8 ∷ 9 ∷ 10 ∷ 15 ∷ 12 ∷ 13 ∷ 14 ∷ [])

-- a round, of what SubBytes makes once and twice
abbrev pub mixed_of : List ℕ → List ℕ → List ℕ → List ℕ
mixed_of key a b =
    xor_bytes (xor_bytes (xor_bytes (next_of (xor_bytes (next_of a) b)) (xor_bytes (next_of a) b)) (last_of a)) key

unfoldable pub round_of : List ℕ → List ℕ → List ℕ
round_of key x = mixed_of key (map once (shifted x)) (map twice (shifted x))

unfoldable pub last_round_of : List ℕ → List ℕ → List ℕ
last_round_of key x = xor_bytes (map substituted_alone (shifted x)) key

unfoldable pub first_round_of : List ℕ → List ℕ → List ℕ
first_round_of key x = xor_bytes (map based x) key

-- a round key in the form that its round takes: in the basis up to the last one, and with the constant of SubBytes from the second on
abbrev pub formed : ℕ → List ℕ → List ℕ
formed round key =
    if round == 0 then map based key
    else if round == 14 then map (λ b. bit_xor b 0x63) key
    else map (λ b. based (bit_xor b 0x63)) key

abbrev pub AreRoundKeys : List ℕ → List (List ℕ) → Type 0
AreRoundKeys key keys = (r : ℕ) → r < 15 → slice_index_or keys r [] ≡ formed r (round_key (key_schedule key) r)

abbrev pub IsBlock : List ℕ → Type 0
IsBlock block = (length block ≡ 16) × AreBytes block

abbrev pub IsKey : List ℕ → Type 0
IsKey key = (length key ≡ 32) × AreBytes key
