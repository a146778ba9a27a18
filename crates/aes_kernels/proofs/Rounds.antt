-- A round on a vector is a round of the cipher, in another basis.
use Rattle.std.proofs.Common.{◌≡◌, ℕ, ◌<◌, List, [], ◌∷◌, length, map, get_or, bit_xor, refl, ap, ap₂, sym, ◌∙◌, lit<}
use Rattle.std.specs.List.{range_with_len}
use Rattle.std.specs.Int.Bits.{xor_assoc, xor_comm, xor_zero_r}
use Rattle.std.proofs.lemmas.List.FromFn.{fill_by_all}
use Rattle.aes_block.specs.Bytes.{xor_bytes, AreBytes}
use Rattle.aes_block.specs.Field.{product, substituted, times_x}
use Rattle.aes_block.specs.Aes.{mix_columns, shift_rows, sub_bytes}
use Rattle.aes_block.proofs.ByteLemmas.{get_or-byte, substituted-lt, times_x-lt, xor-lt, xor_swap}
use Rattle.aes_block.proofs.FieldLemmas.{product-one, product-two, product-three}
use Rattle.aes_block.proofs.TableLemmas.{forward, forward-is, same_below}
use Rattle.aes_kernels.specs.Nibbles.{based, last_round_of, once, round_of, substituted_alone, twice}

pub based-xor : (a b : ℕ) → a < 256 → b < 256 → based (bit_xor a b) ≡ bit_xor (based a) (based b)
based-xor a b h k =
    let row = same_below (λ x. map (λ y. based (bit_xor x y)) (range_with_len 0 256)) (λ x. map (λ y. bit_xor (based x) (based y)) (range_with_len 0 256)) 256 refl a h in
    same_below (λ y. based (bit_xor a y)) (λ y. bit_xor (based a) (based y)) 256 row b k

once-is : (b : ℕ) → b < 256 → once (based b) ≡ based (bit_xor (substituted b) 0x63)
once-is b h =
    same_below (λ x. once (based x)) (λ x. based (bit_xor (forward x) 0x63)) 256 refl b h
    ∙ ap (λ (s : ℕ). based (bit_xor s 0x63)) (forward-is b h)

twice-is : (b : ℕ) → b < 256 → twice (based b) ≡ based (bit_xor (times_x (substituted b)) 0xc6)
unfolding times_x
twice-is b h =
    same_below (λ x. twice (based x)) (λ x. based (bit_xor (times_x (forward x)) 0xc6)) 256 refl b h
    ∙ ap (λ (s : ℕ). based (bit_xor (times_x s) 0xc6)) (forward-is b h)

alone-is : (b : ℕ) → b < 256 → substituted_alone (based b) ≡ bit_xor (substituted b) 0x63
alone-is b h =
    same_below (λ x. substituted_alone (based x)) (λ x. bit_xor (forward x) 0x63) 256 refl b h
    ∙ ap (λ (s : ℕ). bit_xor s 0x63) (forward-is b h)

-- the constants cancel
sum-of_round : (p2 q q2 r t k : ℕ)
    → bit_xor (bit_xor (bit_xor (bit_xor (bit_xor r 0x63) (bit_xor q2 0xc6)) (bit_xor (bit_xor q 0x63) (bit_xor p2 0xc6))) (bit_xor t 0x63)) (bit_xor k 0x63)
    ≡ bit_xor (bit_xor p2 (bit_xor (bit_xor q2 q) (bit_xor r t))) k
sum-of_round p2 q q2 r t k =
    let left : bit_xor (bit_xor (bit_xor r 0x63) (bit_xor q2 0xc6)) (bit_xor (bit_xor q 0x63) (bit_xor p2 0xc6)) ≡ bit_xor (bit_xor r q2) (bit_xor q p2) =
    ap₂ bit_xor (xor_swap r 0x63 q2 0xc6) (xor_swap q 0x63 p2 0xc6) ∙ xor_swap (bit_xor r q2) 0xa5 (bit_xor q p2) 0xa5 ∙ xor_zero_r (bit_xor (bit_xor r q2) (bit_xor q p2)) in
    let right : bit_xor (bit_xor t 0x63) (bit_xor k 0x63) ≡ bit_xor t k = xor_swap t 0x63 k 0x63 ∙ xor_zero_r (bit_xor t k) in
    let order : bit_xor (bit_xor r q2) (bit_xor q p2) ≡ bit_xor (bit_xor q2 q) (bit_xor r p2) =
    ap (λ (n : ℕ). bit_xor n (bit_xor q p2)) (xor_comm r q2) ∙ xor_swap q2 r q p2 in
    let behind : bit_xor (bit_xor (bit_xor q2 q) (bit_xor r p2)) t ≡ bit_xor p2 (bit_xor (bit_xor q2 q) (bit_xor r t)) =
    xor_assoc (bit_xor q2 q) (bit_xor r p2) t
    ∙ ap (bit_xor (bit_xor q2 q)) (ap (λ (n : ℕ). bit_xor n t) (xor_comm r p2) ∙ xor_assoc p2 r t)
    ∙ sym (xor_assoc (bit_xor q2 q) p2 (bit_xor r t)) ∙ ap (λ (n : ℕ). bit_xor n (bit_xor r t)) (xor_comm (bit_xor q2 q) p2)
    ∙ xor_assoc p2 (bit_xor q2 q) (bit_xor r t) in
    ap (λ (n : ℕ). bit_xor (bit_xor n (bit_xor t 0x63)) (bit_xor k 0x63)) left
    ∙ xor_assoc (bit_xor (bit_xor r q2) (bit_xor q p2)) (bit_xor t 0x63) (bit_xor k 0x63)
    ∙ ap (bit_xor (bit_xor (bit_xor r q2) (bit_xor q p2))) right
    ∙ sym (xor_assoc (bit_xor (bit_xor r q2) (bit_xor q p2)) t k)
    ∙ ap (λ (n : ℕ). bit_xor n k) (ap (λ (n : ℕ). bit_xor n t) order ∙ behind)

-- one byte of a round: p is the byte of the row, and q, r and t those of the rows that follow
mixed_at : (p q r t k : ℕ) → p < 256 → q < 256 → r < 256 → t < 256 → k < 256
    → bit_xor (bit_xor (bit_xor (bit_xor (once (based r)) (twice (based q))) (bit_xor (once (based q)) (twice (based p)))) (once (based t))) (based (bit_xor k 0x63))
    ≡ based (bit_xor (bit_xor (product 2 (substituted p)) (bit_xor (product 3 (substituted q)) (bit_xor (product 1 (substituted r)) (product 1 (substituted t))))) k)
mixed_at p q r t k hp hq hr ht hk =
    let c : 0x63 < 256 = lit< tt in
    let d : 0xc6 < 256 = lit< tt in
    let sp = substituted-lt p in
    let sq = substituted-lt q in
    let sr = substituted-lt r in
    let st = substituted-lt t in
    let r' = xor-lt (substituted r) 0x63 sr c in
    let q' = xor-lt (substituted q) 0x63 sq c in
    let t' = xor-lt (substituted t) 0x63 st c in
    let k' = xor-lt k 0x63 hk c in
    let q2 = xor-lt (times_x (substituted q)) 0xc6 (times_x-lt (substituted q) sq) d in
    let p2 = xor-lt (times_x (substituted p)) 0xc6 (times_x-lt (substituted p) sp) d in
    let rq = xor-lt _ _ r' q2 in
    let qp = xor-lt _ _ q' p2 in
    let rp = xor-lt _ _ rq qp in
    let whole = xor-lt _ _ rp t' in
    ap (λ (n : ℕ). bit_xor n (based (bit_xor k 0x63)))
    (ap₂ bit_xor
    (ap₂ bit_xor (ap₂ bit_xor (once-is r hr) (twice-is q hq) ∙ sym (based-xor _ _ r' q2)) (ap₂ bit_xor (once-is q hq) (twice-is p hp) ∙ sym (based-xor _ _ q' p2))
    ∙ sym (based-xor _ _ rq qp))
    (once-is t ht) ∙ sym (based-xor _ _ rp t'))
    ∙ sym (based-xor _ _ whole k')
    ∙ ap based
    (sum-of_round (times_x (substituted p)) (substituted q) (times_x (substituted q)) (substituted r) (substituted t) k
    ∙ ap (λ (n : ℕ). bit_xor n k)
    (sym (ap₂ bit_xor (product-two (substituted p) sp) (ap₂ bit_xor (product-three (substituted q) sq) (ap₂ bit_xor (product-one (substituted r) sr) (product-one (substituted t) st))))))

pub sixteen-is : (x : List ℕ) → length x ≡ 16 → x ≡ get_or x 0 0 ∷ get_or x 1 0 ∷ get_or x 2 0 ∷ get_or x 3 0 ∷ get_or x 4 0 ∷ get_or x 5 0 ∷ get_or x 6 0 ∷ get_or x 7 0 ∷ get_or x 8 0 ∷ get_or x 9 0 ∷ get_or x 10 0 ∷ get_or x 11 0 ∷ get_or x 12 0 ∷ get_or x 13 0 ∷ get_or x 14 0 ∷ get_or x 15 0 ∷ []
sixteen-is x long = fill_by_all (λ (k : ℕ). get_or x k 0) x 16 0 long (λ k h. refl)

-- a round key but the first, in the basis and with the constant of SubBytes
abbrev pub based_key : List ℕ → List ℕ
based_key k = map (λ b. based (bit_xor b 0x63)) k

abbrev pub last_key : List ℕ → List ℕ
last_key k = map (λ b. bit_xor b 0x63) k

cons-is : {x y : ℕ} {xs ys : List ℕ} → x ≡ y → xs ≡ ys → (x ∷ xs) ≡ (y ∷ ys)
cons-is e f = ap₂ (λ (a : ℕ) (l : List ℕ). a ∷ l) e f

round-sixteen : (s k : List ℕ) → AreBytes s → AreBytes k
    → round_of (based_key (get_or k 0 0 ∷ get_or k 1 0 ∷ get_or k 2 0 ∷ get_or k 3 0 ∷ get_or k 4 0 ∷ get_or k 5 0 ∷ get_or k 6 0 ∷ get_or k 7 0 ∷ get_or k 8 0 ∷ get_or k 9 0 ∷ get_or k 10 0 ∷ get_or k 11 0 ∷ get_or k 12 0 ∷ get_or k 13 0 ∷ get_or k 14 0 ∷ get_or k 15 0 ∷ [])) (map based (get_or s 0 0 ∷ get_or s 1 0 ∷ get_or s 2 0 ∷ get_or s 3 0 ∷ get_or s 4 0 ∷ get_or s 5 0 ∷ get_or s 6 0 ∷ get_or s 7 0 ∷ get_or s 8 0 ∷ get_or s 9 0 ∷ get_or s 10 0 ∷ get_or s 11 0 ∷ get_or s 12 0 ∷ get_or s 13 0 ∷ get_or s 14 0 ∷ get_or s 15 0 ∷ []))
    ≡ map based (xor_bytes (mix_columns (shift_rows (sub_bytes (get_or s 0 0 ∷ get_or s 1 0 ∷ get_or s 2 0 ∷ get_or s 3 0 ∷ get_or s 4 0 ∷ get_or s 5 0 ∷ get_or s 6 0 ∷ get_or s 7 0 ∷ get_or s 8 0 ∷ get_or s 9 0 ∷ get_or s 10 0 ∷ get_or s 11 0 ∷ get_or s 12 0 ∷ get_or s 13 0 ∷ get_or s 14 0 ∷ get_or s 15 0 ∷ [])))) (get_or k 0 0 ∷ get_or k 1 0 ∷ get_or k 2 0 ∷ get_or k 3 0 ∷ get_or k 4 0 ∷ get_or k 5 0 ∷ get_or k 6 0 ∷ get_or k 7 0 ∷ get_or k 8 0 ∷ get_or k 9 0 ∷ get_or k 10 0 ∷ get_or k 11 0 ∷ get_or k 12 0 ∷ get_or k 13 0 ∷ get_or k 14 0 ∷ get_or k 15 0 ∷ []))
unfolding round_of mix_columns shift_rows sub_bytes
round-sixteen s k hs hk =
    (cons-is (mixed_at (get_or s 0 0) (get_or s 5 0) (get_or s 10 0) (get_or s 15 0) (get_or k 0 0) (get_or-byte s 0 hs) (get_or-byte s 5 hs) (get_or-byte s 10 hs) (get_or-byte s 15 hs) (get_or-byte k 0 hk))
    (cons-is (mixed_at (get_or s 5 0) (get_or s 10 0) (get_or s 15 0) (get_or s 0 0) (get_or k 1 0) (get_or-byte s 5 hs) (get_or-byte s 10 hs) (get_or-byte s 15 hs) (get_or-byte s 0 hs) (get_or-byte k 1 hk))
    (cons-is (mixed_at (get_or s 10 0) (get_or s 15 0) (get_or s 0 0) (get_or s 5 0) (get_or k 2 0) (get_or-byte s 10 hs) (get_or-byte s 15 hs) (get_or-byte s 0 hs) (get_or-byte s 5 hs) (get_or-byte k 2 hk))
    (cons-is (mixed_at (get_or s 15 0) (get_or s 0 0) (get_or s 5 0) (get_or s 10 0) (get_or k 3 0) (get_or-byte s 15 hs) (get_or-byte s 0 hs) (get_or-byte s 5 hs) (get_or-byte s 10 hs) (get_or-byte k 3 hk))
    (cons-is (mixed_at (get_or s 4 0) (get_or s 9 0) (get_or s 14 0) (get_or s 3 0) (get_or k 4 0) (get_or-byte s 4 hs) (get_or-byte s 9 hs) (get_or-byte s 14 hs) (get_or-byte s 3 hs) (get_or-byte k 4 hk))
    (cons-is (mixed_at (get_or s 9 0) (get_or s 14 0) (get_or s 3 0) (get_or s 4 0) (get_or k 5 0) (get_or-byte s 9 hs) (get_or-byte s 14 hs) (get_or-byte s 3 hs) (get_or-byte s 4 hs) (get_or-byte k 5 hk))
    (cons-is (mixed_at (get_or s 14 0) (get_or s 3 0) (get_or s 4 0) (get_or s 9 0) (get_or k 6 0) (get_or-byte s 14 hs) (get_or-byte s 3 hs) (get_or-byte s 4 hs) (get_or-byte s 9 hs) (get_or-byte k 6 hk))
    (cons-is (mixed_at (get_or s 3 0) (get_or s 4 0) (get_or s 9 0) (get_or s 14 0) (get_or k 7 0) (get_or-byte s 3 hs) (get_or-byte s 4 hs) (get_or-byte s 9 hs) (get_or-byte s 14 hs) (get_or-byte k 7 hk))
    (cons-is (mixed_at (get_or s 8 0) (get_or s 13 0) (get_or s 2 0) (get_or s 7 0) (get_or k 8 0) (get_or-byte s 8 hs) (get_or-byte s 13 hs) (get_or-byte s 2 hs) (get_or-byte s 7 hs) (get_or-byte k 8 hk))
    (cons-is (mixed_at (get_or s 13 0) (get_or s 2 0) (get_or s 7 0) (get_or s 8 0) (get_or k 9 0) (get_or-byte s 13 hs) (get_or-byte s 2 hs) (get_or-byte s 7 hs) (get_or-byte s 8 hs) (get_or-byte k 9 hk))
    (cons-is (mixed_at (get_or s 2 0) (get_or s 7 0) (get_or s 8 0) (get_or s 13 0) (get_or k 10 0) (get_or-byte s 2 hs) (get_or-byte s 7 hs) (get_or-byte s 8 hs) (get_or-byte s 13 hs) (get_or-byte k 10 hk))
    (cons-is (mixed_at (get_or s 7 0) (get_or s 8 0) (get_or s 13 0) (get_or s 2 0) (get_or k 11 0) (get_or-byte s 7 hs) (get_or-byte s 8 hs) (get_or-byte s 13 hs) (get_or-byte s 2 hs) (get_or-byte k 11 hk))
    (cons-is (mixed_at (get_or s 12 0) (get_or s 1 0) (get_or s 6 0) (get_or s 11 0) (get_or k 12 0) (get_or-byte s 12 hs) (get_or-byte s 1 hs) (get_or-byte s 6 hs) (get_or-byte s 11 hs) (get_or-byte k 12 hk))
    (cons-is (mixed_at (get_or s 1 0) (get_or s 6 0) (get_or s 11 0) (get_or s 12 0) (get_or k 13 0) (get_or-byte s 1 hs) (get_or-byte s 6 hs) (get_or-byte s 11 hs) (get_or-byte s 12 hs) (get_or-byte k 13 hk))
    (cons-is (mixed_at (get_or s 6 0) (get_or s 11 0) (get_or s 12 0) (get_or s 1 0) (get_or k 14 0) (get_or-byte s 6 hs) (get_or-byte s 11 hs) (get_or-byte s 12 hs) (get_or-byte s 1 hs) (get_or-byte k 14 hk))
    (cons-is (mixed_at (get_or s 11 0) (get_or s 12 0) (get_or s 1 0) (get_or s 6 0) (get_or k 15 0) (get_or-byte s 11 hs) (get_or-byte s 12 hs) (get_or-byte s 1 hs) (get_or-byte s 6 hs) (get_or-byte k 15 hk)) refl))))))))))))))))

pub round-is : (s k : List ℕ) → length s ≡ 16 → length k ≡ 16 → AreBytes s → AreBytes k
    → round_of (based_key k) (map based s) ≡ map based (xor_bytes (mix_columns (shift_rows (sub_bytes s))) k)
round-is s k ls lk hs hk =
    ap₂ (λ (x y : List ℕ). round_of (based_key y) (map based x)) (sixteen-is s ls) (sixteen-is k lk)
    ∙ round-sixteen s k hs hk
    ∙ sym (ap₂ (λ (x y : List ℕ). map based (xor_bytes (mix_columns (shift_rows (sub_bytes x))) y)) (sixteen-is s ls) (sixteen-is k lk))

last_at : (p k : ℕ) → p < 256 → bit_xor (substituted_alone (based p)) (bit_xor k 0x63) ≡ bit_xor (substituted p) k
last_at p k h = ap (λ (n : ℕ). bit_xor n (bit_xor k 0x63)) (alone-is p h) ∙ xor_swap (substituted p) 0x63 k 0x63 ∙ xor_zero_r (bit_xor (substituted p) k)

last-sixteen : (s k : List ℕ) → AreBytes s
    → last_round_of (last_key (get_or k 0 0 ∷ get_or k 1 0 ∷ get_or k 2 0 ∷ get_or k 3 0 ∷ get_or k 4 0 ∷ get_or k 5 0 ∷ get_or k 6 0 ∷ get_or k 7 0 ∷ get_or k 8 0 ∷ get_or k 9 0 ∷ get_or k 10 0 ∷ get_or k 11 0 ∷ get_or k 12 0 ∷ get_or k 13 0 ∷ get_or k 14 0 ∷ get_or k 15 0 ∷ [])) (map based (get_or s 0 0 ∷ get_or s 1 0 ∷ get_or s 2 0 ∷ get_or s 3 0 ∷ get_or s 4 0 ∷ get_or s 5 0 ∷ get_or s 6 0 ∷ get_or s 7 0 ∷ get_or s 8 0 ∷ get_or s 9 0 ∷ get_or s 10 0 ∷ get_or s 11 0 ∷ get_or s 12 0 ∷ get_or s 13 0 ∷ get_or s 14 0 ∷ get_or s 15 0 ∷ []))
    ≡ xor_bytes (shift_rows (sub_bytes (get_or s 0 0 ∷ get_or s 1 0 ∷ get_or s 2 0 ∷ get_or s 3 0 ∷ get_or s 4 0 ∷ get_or s 5 0 ∷ get_or s 6 0 ∷ get_or s 7 0 ∷ get_or s 8 0 ∷ get_or s 9 0 ∷ get_or s 10 0 ∷ get_or s 11 0 ∷ get_or s 12 0 ∷ get_or s 13 0 ∷ get_or s 14 0 ∷ get_or s 15 0 ∷ []))) (get_or k 0 0 ∷ get_or k 1 0 ∷ get_or k 2 0 ∷ get_or k 3 0 ∷ get_or k 4 0 ∷ get_or k 5 0 ∷ get_or k 6 0 ∷ get_or k 7 0 ∷ get_or k 8 0 ∷ get_or k 9 0 ∷ get_or k 10 0 ∷ get_or k 11 0 ∷ get_or k 12 0 ∷ get_or k 13 0 ∷ get_or k 14 0 ∷ get_or k 15 0 ∷ [])
unfolding last_round_of shift_rows sub_bytes
last-sixteen s k hs =
    (cons-is (last_at (get_or s 0 0) (get_or k 0 0) (get_or-byte s 0 hs))
    (cons-is (last_at (get_or s 5 0) (get_or k 1 0) (get_or-byte s 5 hs))
    (cons-is (last_at (get_or s 10 0) (get_or k 2 0) (get_or-byte s 10 hs))
    (cons-is (last_at (get_or s 15 0) (get_or k 3 0) (get_or-byte s 15 hs))
    (cons-is (last_at (get_or s 4 0) (get_or k 4 0) (get_or-byte s 4 hs))
    (cons-is (last_at (get_or s 9 0) (get_or k 5 0) (get_or-byte s 9 hs))
    (cons-is (last_at (get_or s 14 0) (get_or k 6 0) (get_or-byte s 14 hs))
    (cons-is (last_at (get_or s 3 0) (get_or k 7 0) (get_or-byte s 3 hs))
    (cons-is (last_at (get_or s 8 0) (get_or k 8 0) (get_or-byte s 8 hs))
    (cons-is (last_at (get_or s 13 0) (get_or k 9 0) (get_or-byte s 13 hs))
    (cons-is (last_at (get_or s 2 0) (get_or k 10 0) (get_or-byte s 2 hs))
    (cons-is (last_at (get_or s 7 0) (get_or k 11 0) (get_or-byte s 7 hs))
    (cons-is (last_at (get_or s 12 0) (get_or k 12 0) (get_or-byte s 12 hs))
    (cons-is (last_at (get_or s 1 0) (get_or k 13 0) (get_or-byte s 1 hs))
    (cons-is (last_at (get_or s 6 0) (get_or k 14 0) (get_or-byte s 6 hs))
    (cons-is (last_at (get_or s 11 0) (get_or k 15 0) (get_or-byte s 11 hs)) refl))))))))))))))))

pub last_round-is : (s k : List ℕ) → length s ≡ 16 → length k ≡ 16 → AreBytes s
    → last_round_of (last_key k) (map based s) ≡ xor_bytes (shift_rows (sub_bytes s)) k
last_round-is s k ls lk hs =
    ap₂ (λ (x y : List ℕ). last_round_of (last_key y) (map based x)) (sixteen-is s ls) (sixteen-is k lk)
    ∙ last-sixteen s k hs
    ∙ sym (ap₂ (λ (x y : List ℕ). xor_bytes (shift_rows (sub_bytes x)) y) (sixteen-is s ls) (sixteen-is k lk))
