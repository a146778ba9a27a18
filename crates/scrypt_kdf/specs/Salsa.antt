-- Salsa20/8 (RFC 7914, section 3) on 16 words of 32 bits, each 4 bytes least significant first.
use Rattle.std.specs.Prelude.{ℕ, ◌+◌, ◌*◌, ◌%◌, ◌^◌, List, [], ◌∷◌, drop, map, bit_xor, slice_index, slice_set}
use Rattle.std.specs.List.{flat_map, range_with_len}
use Rattle.std.specs.Int.{w32, rotate_left}
use Rattle.byteorder.specs.Endian.{little_number, little_bytes}

-- word `to` becomes itself xored with the sum of two others, rotated left
abbrev pub mixed : List ℕ → ℕ → ℕ → ℕ → ℕ → List ℕ
mixed x to a b k = slice_set x to (bit_xor (slice_index x to) (rotate_left w32 ((slice_index x a + slice_index x b) % 2 ^ 32) k))

-- a quarter round on the words a, b, c, d
abbrev pub quarter : ℕ → ℕ → ℕ → ℕ → List ℕ → List ℕ
quarter a b c d x = mixed (mixed (mixed (mixed x b a d 7) c b a 9) d c b 13) a d c 18

-- the four columns, then the four rows
abbrev pub double_round : List ℕ → List ℕ
double_round x =
    quarter 15 12 13 14 (quarter 10 11 8 9 (quarter 5 6 7 4 (quarter 0 1 2 3
    (quarter 15 3 7 11 (quarter 10 14 2 6 (quarter 5 9 13 1 (quarter 0 4 8 12 x)))))))

-- the words of 64 bytes, and back
abbrev pub words_of : List ℕ → List ℕ
words_of bytes = map (λ i. little_number 4 (drop (4 * i) bytes)) (range_with_len 0 16)

abbrev pub bytes_of_words : List ℕ → List ℕ
bytes_of_words words = flat_map (little_bytes 4) words

abbrev pub add_words : List ℕ → List ℕ → List ℕ
add_words [] ys = []
add_words (x ∷ xs) [] = []
add_words (x ∷ xs) (y ∷ ys) = (x + y) % 2 ^ 32 ∷ add_words xs ys

-- four double rounds, and the input added
unfoldable pub salsa : List ℕ → List ℕ
salsa x = add_words (double_round (double_round (double_round (double_round x)))) x
