-- CMAC (SP 800-38B) over a block cipher on blocks of 16 bytes.
use Rattle.std.specs.Prelude.{ℕ, zero, suc, ◌+◌, ◌-◌, ◌*◌, ◌/◌, ◌^◌, List, ◌∷◌, ◌++◌, length, take, drop, replicate, bit_xor, nat_lt, ◌==◌, if◌then◌else◌}
use Rattle.aes_block.specs.Bytes.{xor_bytes, number_of, bytes_of}

-- 16 zero bytes
abbrev pub zero_block : List ℕ
zero_block = replicate 16 0

-- a block moved left by one bit; if the bit that leaves is 1, the constant 87 is xored in (6.1)
unfoldable pub doubled : List ℕ → List ℕ
doubled b = bytes_of 16 (if nat_lt (number_of b) (2 ^ 127) then 2 * number_of b else bit_xor (2 * number_of b) (2 ^ 128 + 0x87))

-- a block of fewer than 16 bytes, a 1 bit and zero bits up to 16 bytes (6.2, step 4)
abbrev pub padded : List ℕ → List ℕ
padded b = b ++ 0x80 ∷ replicate (15 - length b) 0

-- block i of a text, from 0
abbrev pub block_at : List ℕ → ℕ → List ℕ
block_at text i = take 16 (drop (16 * i) text)

-- the cipher chained over the first n blocks, C 0 being zero (6.2, steps 5 and 6)
unfoldable pub chained : (List ℕ → List ℕ) → List ℕ → ℕ → List ℕ
chained cipher text zero = zero_block
chained cipher text (suc n) = cipher (xor_bytes (chained cipher text n) (block_at text n))

-- the last block of a text, xored with the first subkey if it is whole, else padded and xored with the second (6.2, step 4)
abbrev pub last_block : (List ℕ → List ℕ) → List ℕ → List ℕ
last_block cipher b =
    if length b == 16 then xor_bytes (doubled (cipher zero_block)) b
    else xor_bytes (doubled (doubled (cipher zero_block))) (padded b)

-- how many blocks are before the last one, which isn't empty unless the text is
abbrev pub blocks_before_last : ℕ → ℕ
blocks_before_last n = (n - 1) / 16

-- the message authentication code, all 16 bytes
unfoldable pub cmac : (List ℕ → List ℕ) → List ℕ → List ℕ
cmac cipher text =
    cipher (xor_bytes (chained cipher text (blocks_before_last (length text))) (last_block cipher (block_at text (blocks_before_last (length text)))))
