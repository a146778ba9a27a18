-- GHASH (SP 800-38D, section 6). A block of 16 bytes stands for the number that its bytes spell, the most significant first.
-- As an element of GF(2^128) the coefficient of x^i is bit i of the block counted from the left, which is bit 127 - i of
-- the number.
use Rattle.std.specs.Prelude.{◌≡◌, ◌<◌, ℕ, zero, suc, ◌-◌, ◌*◌, ◌/◌, ◌%◌, ◌^◌, List, ◌++◌, length, take, drop, replicate, slice_index, bit_xor, ◌==◌, if◌then◌else◌}
use Rattle.aes_block.specs.Bytes.{number_of, bytes_of}

-- the product with x, modulo 1 + x + x^2 + x^7 + x^128: the bits move right, and what x^128 stands for is xored in (6.3)
unfoldable pub times_x : ℕ → ℕ
times_x v = if v % 2 == 0 then v / 2 else bit_xor (v / 2) (0xe1 * 2 ^ 120)

-- the product with v of the polynomial that the first n bits of x from the left are, x having n bits (6.3, algorithm 1)
unfoldable pub product_of : ℕ → ℕ → ℕ → ℕ
product_of zero x v = 0
product_of (suc n) x v = bit_xor (if (x / 2 ^ n) % 2 == 1 then v else 0) (product_of n x (times_x v))

-- the product of two blocks (6.3)
unfoldable pub product : ℕ → ℕ → ℕ
product x y = product_of 128 x y

-- block i of a text
abbrev pub block_at : List ℕ → ℕ → List ℕ
block_at text i = take 16 (drop (16 * i) text)

-- Y n of GHASH under the hash subkey h, over blocks of 16 bytes: Y 0 is 0, and each next one is the last, xored with the
-- block, times h (6.4, algorithm 2)
unfoldable pub hashed : ℕ → List ℕ → ℕ → ℕ
hashed h text zero = 0
hashed h text (suc n) = product (bit_xor (hashed h text n) (number_of (block_at text n))) h

-- GHASH of whole blocks
unfoldable pub ghash : ℕ → List ℕ → List ℕ
ghash h text = bytes_of 16 (hashed h text (length text / 16))

-- a text and zero bytes up to a whole number of blocks
abbrev pub zero_padded : List ℕ → List ℕ
zero_padded text = text ++ replicate ((16 - length text % 16) % 16) 0

-- a text of whole blocks whose GHASH, as a number, is y
abbrev pub IsHashed : ℕ → List ℕ → ℕ → Type 0
IsHashed h text y = (length text % 16 ≡ 0) × (hashed h text (length text / 16) ≡ y)

-- the product with x^m
abbrev pub times_x_power : ℕ → ℕ → ℕ
times_x_power zero v = v
times_x_power (suc m) v = times_x_power m (times_x v)

-- entry j of the table below: the product of the 4 bits j % 16 at place j / 16 of a block with h
abbrev pub place_entry : ℕ → ℕ → ℕ
place_entry h j = product_of 4 (j % 16) (times_x_power (4 * (j / 16)) h)

-- a table of the products of h with each 4 bits at each of the 32 places of a block, the leftmost first
abbrev pub IsPlaceTable : ℕ → List ℕ → Type 0
IsPlaceTable h table = (j : ℕ) → j < 512 → slice_index table j ≡ place_entry h j

-- a table of the products of h with each polynomial of degree 3, as the 4 bits from the left
abbrev pub IsProductTable : ℕ → List ℕ → Type 0
IsProductTable h table = (i : ℕ) → i < 16 → slice_index table i ≡ product_of 4 i h
