-- The number that bytes spell, and the digits of 5 bits in it.
use Rattle.std.proofs.Common.{◌≡◌, ℕ, zero, suc, ◌+◌, ◌-◌, ◌*◌, ◌/◌, ◌%◌, ◌^◌, ◌<◌, ◌≤◌, List, [], ◌∷◌, ◌++◌, length, take, drop, get_or, refl, sym, ap, ◌∙◌, arith, lit<}
use Rattle.std.proofs.lemmas.List.{take-append-drop, length-append, length-drop, length-take}
use Rattle.std.proofs.lemmas.List.{get_or-drop}
use Rattle.std.proofs.lemmas.Nat.{pow-add, div-mul-add}
use Rattle.std.proofs.Math.Nat.{pow-suc, div-div-eq-div-mul, mul-le-mul_right}
use Rattle.aes_block.specs.Bytes.{number_after, number_of}

pub number_after-append : (n : ℕ) (xs ys : List ℕ) → number_after n (xs ++ ys) ≡ number_after (number_after n xs) ys
number_after-append n [] ys = refl
number_after-append n (x ∷ xs) ys = number_after-append (n * 256 + x) xs ys

pub number_after-number_of : (n : ℕ) (bs : List ℕ) → number_after n bs ≡ n * 256 ^ length bs + number_of bs
number_after-number_of n [] = omega arith
number_after-number_of n (b ∷ bs) =
    let all = number_after-number_of (n * 256 + b) bs in
    let rest = number_after-number_of (0 * 256 + b) bs in
    rw (all, rest, pow-suc 256 (length bs)) (omega arith)

pub number_of-append : (xs ys : List ℕ) → number_of (xs ++ ys) ≡ number_of xs * 256 ^ length ys + number_of ys
number_of-append xs ys = number_after-append 0 xs ys ∙ number_after-number_of (number_of xs) ys

pub number_of-bound : (bs : List ℕ) → ((i : ℕ) → get_or bs i 0 < 256) → number_of bs < 256 ^ length bs
number_of-bound [] are = lit< tt
number_of-bound (b ∷ bs) are =
    let rest = number_of-bound bs (λ i. are (suc i)) in
    let first : b ≤ 255 = omega (arith, are 0) in
    let product : b * 256 ^ length bs ≤ 255 * 256 ^ length bs = mul-le-mul_right (256 ^ length bs) first in
    rw (number_after-number_of (0 * 256 + b) bs, pow-suc 256 (length bs)) (omega (arith, product, rest))

-- ---- groups of 40 bits

-- the groups after group g
groups_behind : (g : ℕ) → g < 4 → 32 ^ (24 - 8 * g) ≡ 256 ^ (15 - 5 * g)
groups_behind zero h = refl
groups_behind (suc zero) h = refl
groups_behind (suc (suc zero)) h = refl
groups_behind (suc (suc (suc zero))) h = refl
groups_behind (suc (suc (suc (suc g)))) h = absurd (omega arith)

-- what follows digit j of group g, as so many bytes and so many digits
powers : (g j : ℕ) → g < 4 → j < 8 → 32 ^ (31 - (8 * g + j)) ≡ 256 ^ (15 - 5 * g) * 32 ^ (7 - j)
powers g j low small =
    let split : 31 - (8 * g + j) ≡ (24 - 8 * g) + (7 - j) = omega arith in
    rw (split, pow-add 32 (24 - 8 * g) (7 - j), groups_behind g low) refl

-- a group's digit is that of the number with the groups before it
in_group : (front group j : ℕ) → j < 8 → (front * 1099511627776 + group) / 32 ^ (7 - j) % 32 ≡ group / 2 ^ (5 * (7 - j)) % 32
in_group front group zero small = omega arith
in_group front group (suc zero) small = omega arith
in_group front group (suc (suc zero)) small = omega arith
in_group front group (suc (suc (suc zero))) small = omega arith
in_group front group (suc (suc (suc (suc zero)))) small = omega arith
in_group front group (suc (suc (suc (suc (suc zero))))) small = omega arith
in_group front group (suc (suc (suc (suc (suc (suc zero)))))) small = omega arith
in_group front group (suc (suc (suc (suc (suc (suc (suc zero))))))) small = omega arith
in_group front group (suc (suc (suc (suc (suc (suc (suc (suc j)))))))) small = absurd (omega arith)

-- digit j of group g of 20 bytes
digit_in : (hash : List ℕ) (g j : ℕ) → length hash ≡ 20 → ((i : ℕ) → get_or hash i 0 < 256) → g < 4 → j < 8
    → number_of (take 5 (drop (5 * g) hash)) / 2 ^ (5 * (7 - j)) % 32 ≡ number_of hash / 32 ^ (31 - (8 * g + j)) % 32
digit_in hash g j long are low small =
    let front = take (5 * g) hash in
    let group = take 5 (drop (5 * g) hash) in
    let back = drop 5 (drop (5 * g) hash) in
    let parts : hash ≡ front ++ (group ++ back) = sym (take-append-drop (5 * g) hash) ∙ ap (λ (t : List ℕ). front ++ t) (sym (take-append-drop 5 (drop (5 * g) hash))) in
    let back_long : length back ≡ 15 - 5 * g = omega (arith, length-drop 5 (drop (5 * g) hash), length-drop (5 * g) hash) in
    let group_long : length group ≡ 5 = omega (arith, length-take 5 (drop (5 * g) hash), length-drop (5 * g) hash) in
    let size : length (group ++ back) ≡ 5 + (15 - 5 * g) = omega (arith, length-append group back) in
    let unit = 256 ^ (15 - 5 * g) in
    let below : number_of back < unit = rw back_long at (number_of-bound back (λ i. rw (get_or-drop, get_or-drop) (are (5 * g + (5 + i))))) in
    let whole : number_of hash ≡ (number_of front * 1099511627776 + number_of group) * unit + number_of back =
    ap number_of parts ∙ number_of-append front (group ++ back)
    ∙ rw (size, number_of-append group back, back_long, pow-add 256 5 (15 - 5 * g)) (omega arith) in
    let quotient : number_of hash / unit ≡ number_of front * 1099511627776 + number_of group =
    ap (λ (n : ℕ). n / unit) whole ∙ div-mul-add (number_of front * 1099511627776 + number_of group) unit (number_of back) below in
    let places : number_of hash / 32 ^ (31 - (8 * g + j)) ≡ (number_of front * 1099511627776 + number_of group) / 32 ^ (7 - j) =
    ap (λ (n : ℕ). number_of hash / n) (powers g j low small) ∙ sym (div-div-eq-div-mul (number_of hash) unit (32 ^ (7 - j))) ∙ ap (λ (n : ℕ). n / 32 ^ (7 - j)) quotient in
    sym (in_group (number_of front) (number_of group) j small) ∙ ap (λ (n : ℕ). n % 32) (sym places)

-- digit i, by the number of its group
pub digit_at : (hash : List ℕ) (i group : ℕ) → length hash ≡ 20 → ((k : ℕ) → get_or hash k 0 < 256) → i < 32
    → group ≡ number_of (take (i / 8 * 5 + 5 - i / 8 * 5) (drop (i / 8 * 5) hash))
    → group / 2 ^ (5 * (7 - i % 8)) % 32 ≡ number_of hash / 32 ^ (31 - i) % 32
digit_at hash i group long are low is =
    let size : i / 8 * 5 + 5 - i / 8 * 5 ≡ 5 = omega arith in
    let start : i / 8 * 5 ≡ 5 * (i / 8) = omega arith in
    let whole : 8 * (i / 8) + i % 8 ≡ i = omega arith in
    let found = digit_in hash (i / 8) (i % 8) long are (omega arith) (omega arith) in
    let number : group ≡ number_of (take 5 (drop (5 * (i / 8)) hash)) = is ∙ (λ k. number_of (take (size k) (drop (start k) hash))) in
    ap (λ (n : ℕ). n / 2 ^ (5 * (7 - i % 8)) % 32) number ∙ found ∙ ap (λ (n : ℕ). number_of hash / 32 ^ (31 - n) % 32) whole
