-- Counter mode (SP 800-38A, 6.5) over a block cipher on blocks of 16 bytes. The counter is the whole block, counted up by one modulo 2^128 (B.1).
use Rattle.std.specs.Prelude.{ℕ, ◌+◌, ◌/◌, ◌%◌, ◌^◌, List, length}
use Rattle.std.specs.List.{flat_map, range_with_len}
use Rattle.aes_block.specs.Bytes.{xor_bytes, bytes_of}

-- counter block i of a first one, most significant byte first
abbrev pub counter_block : ℕ → ℕ → List ℕ
counter_block first i = bytes_of 16 ((first + i) % 2 ^ 128)

-- n counter blocks, encrypted
abbrev pub keystream : (List ℕ → List ℕ) → ℕ → ℕ → List ℕ
keystream cipher first n = flat_map (λ i. cipher (counter_block first i)) (range_with_len 0 n)

-- a text xored with the encrypted counter blocks: encryption and decryption are one
unfoldable pub counted : (List ℕ → List ℕ) → ℕ → List ℕ → List ℕ
counted cipher first text = xor_bytes text (keystream cipher first ((length text + 15) / 16))
