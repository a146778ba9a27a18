-- The texts that GCM xors and hashes.
use Rattle.std.proofs.Common.{◌≡◌, ℕ, zero, suc, ◌+◌, ◌-◌, ◌%◌, ◌<◌, min, List, [], ◌∷◌, ◌++◌, length, get_or, take, replicate, refl, ap, arith}
use Rattle.std.specs.Int.Bits.{bit_xor}
use Rattle.std.proofs.lemmas.List.{length-take-le, take-replicate, take_more}
use Rattle.aes_block.specs.Bytes.{xor_bytes}
use Rattle.gcm_mode.specs.Ghash.{zero_padded}
use Rattle.aes_block.proofs.ByteLemmas.{xor_bytes-append}

-- the zeros after a text are the first of a whole block of them
pub zero_padded_by_part : (text : List ℕ) → text ++ take ((16 - length text % 16) % 16) (replicate 16 0) ≡ zero_padded text
zero_padded_by_part text =
    ap (λ (zeros : List ℕ). text ++ zeros) (take-replicate ((16 - length text % 16) % 16) 16 0 (omega arith))

-- one place more of two lists that are xored
pub xor_bytes_more : (xs ys : List ℕ) (n : ℕ) → n < length xs → n < length ys
    → xor_bytes (take (n + 1) xs) (take (n + 1) ys) ≡ xor_bytes (take n xs) (take n ys) ++ bit_xor (get_or xs n 0) (get_or ys n 0) ∷ []
xor_bytes_more xs ys n within within' =
    let long : length (take n xs) ≡ n = length-take-le n xs (omega arith) in
    let long' : length (take n ys) ≡ n = length-take-le n ys (omega arith) in
    rw (take_more xs n 0 within, take_more ys n 0 within')
    (xor_bytes-append (take n xs) (take n ys) (get_or xs n 0 ∷ []) (get_or ys n 0 ∷ []) (omega arith))

-- all places, as far as the shorter list goes
pub xor_bytes_all : (xs ys : List ℕ) (n : ℕ) → n ≡ min (length xs) (length ys) → xor_bytes (take n xs) (take n ys) ≡ xor_bytes xs ys
xor_bytes_all [] ys n all =
    let none : n ≡ 0 = omega arith in
    rw none refl
xor_bytes_all (x ∷ xs) [] n all =
    let none : n ≡ 0 = omega arith in
    rw none refl
xor_bytes_all (x ∷ xs) (y ∷ ys) zero all = absurd (omega arith)
xor_bytes_all (x ∷ xs) (y ∷ ys) (suc n) all = ap (λ (r : List ℕ). bit_xor x y ∷ r) (xor_bytes_all xs ys n (omega arith))
