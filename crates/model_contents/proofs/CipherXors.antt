-- Lists of bytes that are xored place by place.
use Rattle.std.proofs.Common.{◌≡◌, ℕ, zero, suc, ◌+◌, ◌<◌, ◌≤◌, List, [], ◌∷◌, length, get_or, take, drop, map, bit_xor, refl, sym, ap, ◌∙◌, arith, length-drop}
use Rattle.std.specs.List.{range_with_len}
use Rattle.std.proofs.lemmas.List.{get_or-drop, length-take-le, get_or-take}
use Rattle.std.proofs.lemmas.List.FromFn.{fill_by_all}
use Rattle.aes_block.specs.Bytes.{xor_bytes}
use Rattle.aes_block.proofs.ByteLemmas.{length-xor_bytes}

get_or-xor_bytes : (xs ys : List ℕ) (i : ℕ) → i < length xs → i < length ys → get_or (xor_bytes xs ys) i 0 ≡ bit_xor (get_or xs i 0) (get_or ys i 0)
get_or-xor_bytes [] ys i h k = absurd (omega arith)
get_or-xor_bytes (x ∷ xs) [] i h k = absurd (omega arith)
get_or-xor_bytes (x ∷ xs) (y ∷ ys) zero h k = refl
get_or-xor_bytes (x ∷ xs) (y ∷ ys) (suc i) h k = get_or-xor_bytes xs ys i (omega arith) (omega arith)

-- zs is, place by place, xs xored with the n elements of ys from `at` on
pub xored-at : (xs ys zs : List ℕ) (at n : ℕ) → length xs ≡ n → at + n ≤ length ys → zs ≡ map (λ i. bit_xor (get_or xs i 0) (get_or ys (at + i) 0)) (range_with_len 0 n)
    → zs ≡ xor_bytes xs (take n (drop at ys))
xored-at xs ys zs at n long within is =
    let part = take n (drop at ys) in
    let part_long = length-take-le n (drop at ys) (omega (arith, length-drop at ys)) in
    let all_long = length-xor_bytes xs part in
    is ∙ sym (fill_by_all (λ i. bit_xor (get_or xs i 0) (get_or ys (at + i) 0)) (xor_bytes xs part) n 0 (omega (arith, part_long))
    (λ k below. get_or-xor_bytes xs part k (omega arith) (omega (arith, part_long)) ∙ ap (bit_xor (get_or xs k 0)) (get_or-take n (drop at ys) k 0 below ∙ get_or-drop at ys k 0)))

pub xored-is : (xs ys zs : List ℕ) (n : ℕ) → length xs ≡ n → length ys ≡ n → zs ≡ map (λ i. bit_xor (get_or xs i 0) (get_or ys i 0)) (range_with_len 0 n) → zs ≡ xor_bytes xs ys
xored-is xs ys zs n long long' is =
    is ∙ sym (fill_by_all (λ i. bit_xor (get_or xs i 0) (get_or ys i 0)) (xor_bytes xs ys) n 0 (omega (arith, length-xor_bytes xs ys)) (λ k below. get_or-xor_bytes xs ys k (omega arith) (omega arith)))
