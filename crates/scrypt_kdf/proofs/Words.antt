-- Words of 32 bits and their bytes, the least significant first.
use Rattle.std.proofs.Common.{◌≡◌, ℕ, zero, suc, ◌+◌, ◌*◌, ◌/◌, ◌%◌, ◌^◌, ◌<◌, List, [], ◌∷◌, ◌++◌, length, get_or, take, drop, bit_xor, refl, sym, ap, ap₂, ◌∙◌, arith, lit<}
use Rattle.std.proofs.lemmas.List.{drop_more, get_or-drop}
use Rattle.std.proofs.lemmas.List.FromFn.{fill_by_all}
use Rattle.std.proofs.lemmas.Nat.{le_bytes_4, xor_lt, xor_mod, xor_shr}
use Rattle.std.proofs.Math.Nat.{div-add-mod', mul-add-mod_self_right}
use Rattle.std.specs.Int.{byte_at}
use Rattle.byteorder.specs.Endian.{little_bytes, little_from, little_number}
use Rattle.byteorder.specs.Numbers.{little_number-reads_back}
use Rattle.aes_block.specs.Bytes.{xor_bytes}
use Rattle.scrypt_kdf.specs.Salsa.{bytes_of_words, words_of}

-- each element is a word
abbrev pub AreWords : List ℕ → Type 0
AreWords xs = (k : ℕ) → get_or xs k 0 < 2 ^ 32

pub AreWords-take : (n : ℕ) (xs : List ℕ) → AreWords xs → AreWords (take n xs)
AreWords-take zero xs words k = lit< tt
AreWords-take (suc n) [] words k = words k
AreWords-take (suc n) (x ∷ xs) words zero = words 0
AreWords-take (suc n) (x ∷ xs) words (suc k) = AreWords-take n xs (λ j. words (suc j)) k

pub AreWords-drop : (n : ℕ) (xs : List ℕ) → AreWords xs → AreWords (drop n xs)
AreWords-drop n xs words k = rw (get_or-drop n xs k 0) (words (n + k))

pub AreWords-xor : (xs ys : List ℕ) → AreWords xs → AreWords ys → AreWords (xor_bytes xs ys)
AreWords-xor [] ys words others k = lit< tt
AreWords-xor (x ∷ xs) [] words others k = lit< tt
AreWords-xor (x ∷ xs) (y ∷ ys) words others zero = xor_lt 32 x y (words 0) (others 0)
AreWords-xor (x ∷ xs) (y ∷ ys) words others (suc k) = AreWords-xor xs ys (λ j. words (suc j)) (λ j. others (suc j)) k

-- ---- the places of words among bytes

pub drop-bytes_of_words : (n : ℕ) (xs : List ℕ) → drop (4 * n) (bytes_of_words xs) ≡ bytes_of_words (drop n xs)
drop-bytes_of_words zero xs = refl
drop-bytes_of_words (suc n) [] = let e : 4 * suc n ≡ suc (suc (suc (suc (4 * n)))) = omega arith in rw e refl
drop-bytes_of_words (suc n) (x ∷ xs) = let e : 4 * suc n ≡ suc (suc (suc (suc (4 * n)))) = omega arith in rw e (drop-bytes_of_words n xs)

pub take-bytes_of_words : (n : ℕ) (xs : List ℕ) → take (4 * n) (bytes_of_words xs) ≡ bytes_of_words (take n xs)
take-bytes_of_words zero xs = refl
take-bytes_of_words (suc n) [] = let e : 4 * suc n ≡ suc (suc (suc (suc (4 * n)))) = omega arith in rw e refl
take-bytes_of_words (suc n) (x ∷ xs) =
    let e : 4 * suc n ≡ suc (suc (suc (suc (4 * n)))) = omega arith in
    rw e (ap (λ (l : List ℕ). little_bytes 4 x ++ l) (take-bytes_of_words n xs))

pub bytes_of_words-append : (xs ys : List ℕ) → bytes_of_words (xs ++ ys) ≡ bytes_of_words xs ++ bytes_of_words ys
bytes_of_words-append [] ys = refl
bytes_of_words-append (x ∷ xs) ys = ap (λ (l : List ℕ). little_bytes 4 x ++ l) (bytes_of_words-append xs ys)

-- ---- words from bytes, and back

-- the word at a place, read from the bytes
pub word_at-is : (xs : List ℕ) (k : ℕ) → get_or xs k 0 < 2 ^ 32 → k < length xs → little_number 4 (drop (4 * k) (bytes_of_words xs)) ≡ get_or xs k 0
word_at-is xs k word within =
    ap (little_number 4) (drop-bytes_of_words k xs ∙ ap bytes_of_words (drop_more xs k 0 within)) ∙ little_number-reads_back 4 (get_or xs k 0) (bytes_of_words (drop (k + 1) xs)) word

pub words_of-bytes_of_words : (xs : List ℕ) → length xs ≡ 16 → AreWords xs → words_of (bytes_of_words xs) ≡ xs
words_of-bytes_of_words xs long words =
    sym (fill_by_all (λ (i : ℕ). little_number 4 (drop (4 * i) (bytes_of_words xs))) xs 16 0 long (λ k h. sym (word_at-is xs k (words k) (omega arith))))

small_front : (a b c d : ℕ) (rest : List ℕ) → ((k : ℕ) → get_or (a ∷ b ∷ c ∷ d ∷ rest) k 0 < 256) → (k : ℕ) → get_or (a ∷ b ∷ c ∷ d ∷ []) k 0 < 256
small_front a b c d rest small zero = small 0
small_front a b c d rest small (suc zero) = small 1
small_front a b c d rest small (suc (suc zero)) = small 2
small_front a b c d rest small (suc (suc (suc zero))) = small 3
small_front a b c d rest small (suc (suc (suc (suc k)))) = lit< tt

four_bytes : (a b c d : ℕ) (rest : List ℕ) → ((k : ℕ) → get_or (a ∷ b ∷ c ∷ d ∷ rest) k 0 < 256)
    → little_bytes 4 (little_number 4 (a ∷ b ∷ c ∷ d ∷ rest)) ≡ a ∷ b ∷ c ∷ d ∷ []
four_bytes a b c d rest small =
    le_bytes_4 (a ∷ b ∷ c ∷ d ∷ []) (little_number 4 (a ∷ b ∷ c ∷ d ∷ rest)) refl (small_front a b c d rest small) (omega arith)

-- words that were read from bytes have these bytes
pub bytes_of_words-read : (xs bytes : List ℕ) → length bytes ≡ 4 * length xs → ((k : ℕ) → get_or bytes k 0 < 256)
    → ((k : ℕ) → k < length xs → get_or xs k 0 ≡ little_number 4 (drop (4 * k) bytes)) → bytes_of_words xs ≡ bytes
bytes_of_words-read [] [] long small read = refl
bytes_of_words-read [] (a ∷ bytes) long small read = absurd (omega arith)
bytes_of_words-read (x ∷ xs) [] long small read = absurd (omega arith)
bytes_of_words-read (x ∷ xs) (a ∷ []) long small read = absurd (omega arith)
bytes_of_words-read (x ∷ xs) (a ∷ b ∷ []) long small read = absurd (omega arith)
bytes_of_words-read (x ∷ xs) (a ∷ b ∷ c ∷ []) long small read = absurd (omega arith)
bytes_of_words-read (x ∷ xs) (a ∷ b ∷ c ∷ d ∷ bytes) long small read =
    let rest = bytes_of_words-read xs bytes (omega arith) (λ k. small (suc (suc (suc (suc k)))))
    (λ k h. let e : 4 * suc k ≡ suc (suc (suc (suc (4 * k)))) = omega arith in rw e at (read (suc k) (omega arith))) in
    ap₂ (λ (n : ℕ) (l : List ℕ). little_bytes 4 n ++ l) (read 0 (omega arith)) rest ∙ ap (λ (l : List ℕ). l ++ bytes) (four_bytes a b c d bytes small)

-- ---- xor

byte-xor : (k x y : ℕ) → bit_xor x y / 2 ^ k % 2 ^ 8 ≡ bit_xor (x / 2 ^ k % 2 ^ 8) (y / 2 ^ k % 2 ^ 8)
byte-xor k x y = ap (λ (n : ℕ). n % 2 ^ 8) (xor_shr x y k) ∙ xor_mod (x / 2 ^ k) (y / 2 ^ k) 8

little_bytes-xor : (x y : ℕ) (l : List ℕ)
    → bit_xor (byte_at 0 x) (byte_at 0 y) ∷ bit_xor (byte_at 1 x) (byte_at 1 y) ∷ bit_xor (byte_at 2 x) (byte_at 2 y) ∷ bit_xor (byte_at 3 x) (byte_at 3 y) ∷ l
    ≡ little_bytes 4 (bit_xor x y) ++ l
little_bytes-xor x y l = λ i. sym (xor_mod x y 8) i ∷ sym (byte-xor 8 x y) i ∷ sym (byte-xor 16 x y) i ∷ sym (byte-xor 24 x y) i ∷ l

pub xor-bytes_of_words : (xs ys : List ℕ) → xor_bytes (bytes_of_words xs) (bytes_of_words ys) ≡ bytes_of_words (xor_bytes xs ys)
xor-bytes_of_words [] ys = refl
xor-bytes_of_words (x ∷ xs) [] = refl
xor-bytes_of_words (x ∷ xs) (y ∷ ys) =
    little_bytes-xor x y (xor_bytes (bytes_of_words xs) (bytes_of_words ys)) ∙ ap (λ (l : List ℕ). little_bytes 4 (bit_xor x y) ++ l) (xor-bytes_of_words xs ys)

-- ---- integerify

-- the number of 4 + n bytes by the first 4 of them
pub four_first : (n : ℕ) (xs : List ℕ) → little_from 0 (suc (suc (suc (suc n)))) xs ≡ little_number 4 xs + 2 ^ 32 * little_from 4 n xs
four_first n xs = omega arith

-- the low word decides modulo a divisor of 2 ^ 32
pub low_word_decides : (low high cost : ℕ) → 0 < cost → 2 ^ 32 % cost ≡ 0 → (low + 2 ^ 32 * high) % cost ≡ low % cost
low_word_decides low high cost some divides =
    let times : ℕ = 2 ^ 32 / cost in
    let whole : 2 ^ 32 ≡ times * cost = sym (div-add-mod' (2 ^ 32) cost) ∙ omega (arith, divides) in
    let moved : low + 2 ^ 32 * high ≡ times * high * cost + low = ap (λ (n : ℕ). low + n * high) whole ∙ omega arith in
    ap (λ (n : ℕ). n % cost) moved ∙ mul-add-mod_self_right (times * high) cost low
