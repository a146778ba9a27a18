-- MixColumns on bits.
use Rattle.std.proofs.Common.{◌≡◌, ℕ, zero, suc, ◌/◌, ◌%◌, ◌^◌, ◌<◌, List, [], ◌∷◌, ◌++◌, length, map, get_or, bit_xor, refl, ap, ap₂, sym, ◌∙◌, arith, lit<, T, ltb}
use Rattle.aes_block.specs.Field.{times_x}
use Rattle.aes_block.proofs.ByteLemmas.{times_x-lt, xor-lt}
use Rattle.aes_block.proofs.TableLemmas.{same_below}
use Rattle.aes_kernels.specs.Circuit.{bit_of, bits_at, bits_of, byte_at, mixed, number, picked, sum}
use Rattle.aes_kernels.proofs.Elements.{cons-is}
use Rattle.aes_kernels.proofs.Gates.{AreVectors, Gate, Wired, Xor, all_wires, bits-of_wires, run}
use Rattle.aes_kernels.proofs.SBox.{byte-is}
use Rattle.aes_kernels.proofs.Swaps.{xor_bit}
use Rattle.std.proofs.Math.Facts.{ltb_yes as T-lt}
use lib.Ieee.Fits.{and_l, and_r}
use lib.Lanes.{all_below}

pub number-bits_of : (b : ℕ) → b < 256 → number (bits_of b) ≡ b
number-bits_of b h = same_below (λ x. number (bits_of x)) (λ x. x) 256 refl b h

-- places picked from a sum
at-sum_any : (a b : List ℕ) (k : ℕ) → length a ≡ length b → get_or (sum a b) k 0 ≡ bit_xor (get_or a k 0) (get_or b k 0)
at-sum_any [] [] k h = refl
at-sum_any [] (y ∷ b) k h = absurd (omega (arith, h))
at-sum_any (x ∷ a) [] k h = absurd (omega (arith, h))
at-sum_any (x ∷ a) (y ∷ b) zero h = refl
at-sum_any (x ∷ a) (y ∷ b) (suc k) h = at-sum_any a b k (omega (arith, h))

pub picked-sum : (a b places : List ℕ) → length a ≡ length b → picked (sum a b) places ≡ sum (picked a places) (picked b places)
picked-sum a b [] h = refl
picked-sum a b (k ∷ places) h = ap₂ (λ (x : ℕ) (l : List ℕ). x ∷ l) (at-sum_any a b k h) (picked-sum a b places h)

pub at-picked : (x places : List ℕ) (lane : ℕ) → lane < length places → get_or (picked x places) lane 0 ≡ get_or x (get_or places lane 0) 0
at-picked x [] lane h = absurd (omega (arith, h))
at-picked x (k ∷ places) zero h = refl
at-picked x (k ∷ places) (suc lane) h = at-picked x places lane (omega (arith, h))

pub bit-picked : (lane bit : ℕ) (x places : List ℕ) → lane < length places → bit_of lane bit (picked x places) ≡ bit_of (get_or places lane 0) bit x
bit-picked lane bit x places h = ap (λ (n : ℕ). n / 2 ^ bit % 2) (at-picked x places lane h)

abbrev pub mix_gates : List Gate
mix_gates =
    Xor 0 8 ∷ Xor 2 10 ∷ Xor 4 12 ∷ Xor 6 14 ∷ Xor 8 16 ∷ Xor 10 18 ∷ Xor 12 20 ∷ Xor 14 22
    ∷ Xor 24 32 ∷ Xor 26 34 ∷ Xor 28 36 ∷ Xor 30 38 ∷ Xor 32 40 ∷ Xor 34 42 ∷ Xor 36 44 ∷ Xor 38 46
    ∷ Xor 24 7 ∷ Xor 26 7 ∷ Xor 28 7 ∷ Xor 30 7 ∷ Xor 32 7 ∷ Xor 34 7 ∷ Xor 36 7 ∷ Xor 38 7
    ∷ Xor 23 16 ∷ Xor 22 17 ∷ Xor 22 18 ∷ Xor 19 10 ∷ Xor 3 10 ∷ Xor 27 10 ∷ Xor 4 10 ∷ Xor 4 10
    ∷ Xor 27 10 ∷ Xor 27 10 ∷ Xor 27 10 ∷ []

abbrev pub mix_results : List ℕ
mix_results = 7 ∷ 6 ∷ 5 ∷ 4 ∷ 3 ∷ 2 ∷ 1 ∷ 0 ∷ []

abbrev pub bits_from : List ℕ → List ℕ
bits_from env = map (λ o. get_or env o 0) mix_results

-- bits of a double
abbrev doubled : List ℕ → List ℕ
doubled c = get_or c 7 0 ∷ bit_xor (get_or c 0 0) (get_or c 7 0) ∷ get_or c 1 0 ∷ bit_xor (get_or c 2 0) (get_or c 7 0) ∷ bit_xor (get_or c 3 0) (get_or c 7 0) ∷ get_or c 4 0 ∷ get_or c 5 0 ∷ get_or c 6 0 ∷ []

bits-times_x : (b : ℕ) → b < 256 → bits_of (times_x b) ≡ doubled (bits_of b)
unfolding times_x
bits-times_x b h = same_below (λ x. bits_of (times_x x)) (λ x. doubled (bits_of x)) 256 refl b h

pub bits-sum : (a b : ℕ) → bits_of (bit_xor a b) ≡ sum (bits_of a) (bits_of b)
bits-sum a b = (cons-is (xor_bit a b 0) (cons-is (xor_bit a b 1) (cons-is (xor_bit a b 2) (cons-is (xor_bit a b 3) (cons-is (xor_bit a b 4) (cons-is (xor_bit a b 5) (cons-is (xor_bit a b 6) (cons-is (xor_bit a b 7) refl))))))))

mixed-bits : (p q r t : ℕ) → p < 256 → q < 256 → r < 256 → t < 256
    → bits_of (mixed p q r t) ≡ sum (doubled (sum (bits_of p) (bits_of q))) (sum (bits_of q) (sum (bits_of r) (bits_of t)))
mixed-bits p q r t hp hq hr ht =
    bits-sum (times_x (bit_xor p q)) (bit_xor q (bit_xor r t))
    ∙ ap₂ sum (bits-times_x (bit_xor p q) (xor-lt p q hp hq) ∙ ap doubled (bits-sum p q))
    (bits-sum q (bit_xor r t) ∙ ap (sum (bits_of q)) (bits-sum r t))

pub mixed-lt : (p q r t : ℕ) → p < 256 → q < 256 → r < 256 → t < 256 → mixed p q r t < 256
mixed-lt p q r t hp hq hr ht =
    xor-lt (times_x (bit_xor p q)) (bit_xor q (bit_xor r t)) (times_x-lt (bit_xor p q) (xor-lt p q hp hq)) (xor-lt q (bit_xor r t) hq (xor-lt r t hr ht))

-- the circuit on the bits of four bytes
abbrev four : List ℕ → List ℕ → List ℕ → List ℕ → List ℕ
four p q r t = p ++ q ++ r ++ t

run-mix : (p q r t : ℕ) → p < 256 → q < 256 → r < 256 → t < 256 → number (bits_from (run mix_gates (bits_of p ++ bits_of q ++ bits_of r ++ bits_of t))) ≡ mixed p q r t
run-mix p q r t hp hq hr ht = ap number (sym (mixed-bits p q r t hp hq hr ht)) ∙ number-bits_of (mixed p q r t) (mixed-lt p q r t hp hq hr ht)

bits_at-append : (lane bit : ℕ) (vs ws : List (List ℕ)) → bits_at lane bit (vs ++ ws) ≡ bits_at lane bit vs ++ bits_at lane bit ws
bits_at-append lane bit [] ws = refl
bits_at-append lane bit (v ∷ vs) ws = ap (λ (l : List ℕ). bit_of lane bit v ∷ l) (bits_at-append lane bit vs ws)

-- the circuit over the planes of four rows: a row, the next, and those opposite the two
pub mixed-at : (lane bit : ℕ) (y r yo ro ws : List (List ℕ)) → lane < 16 → length y ≡ 8 → length r ≡ 8 → length yo ≡ 8 → length ro ≡ 8 → AreVectors (y ++ (r ++ (yo ++ ro))) → length ws ≡ 35 → Wired mix_gates (y ++ (r ++ (yo ++ ro))) ws
    → number (bits_from (bits_at lane bit (all_wires (y ++ (r ++ (yo ++ ro))) ws))) ≡ mixed (byte_at y lane bit) (byte_at r lane bit) (byte_at yo lane bit) (byte_at ro lane bit)
mixed-at lane bit y r yo ro ws within y_long r_long yo_long ro_long are long wired =
    let p = byte-is lane bit y y_long in
    let q = byte-is lane bit r r_long in
    let s = byte-is lane bit yo yo_long in
    let t = byte-is lane bit ro ro_long in
    let parts : bits_at lane bit (y ++ (r ++ (yo ++ ro))) ≡ bits_at lane bit y ++ (bits_at lane bit r ++ (bits_at lane bit yo ++ bits_at lane bit ro)) =
    bits_at-append lane bit y (r ++ (yo ++ ro))
    ∙ ap (λ (l : List ℕ). bits_at lane bit y ++ l) (bits_at-append lane bit r (yo ++ ro) ∙ ap (λ (l : List ℕ). bits_at lane bit r ++ l) (bits_at-append lane bit yo ro)) in
    ap (λ (l : List ℕ). number (bits_from l)) (bits-of_wires lane bit within mix_gates (y ++ (r ++ (yo ++ ro))) ws are long wired)
    ∙ ap (λ (l : List ℕ). number (bits_from (run mix_gates l))) (parts ∙ ap₂ (λ (a b : List ℕ). a ++ b) p.1 (ap₂ (λ (a b : List ℕ). a ++ b) q.1 (ap₂ (λ (a b : List ℕ). a ++ b) s.1 t.1)))
    ∙ run-mix _ _ _ _ p.0 q.0 s.0 t.0

-- each of some places is within 16 lanes
pub place-lt : (places : List ℕ) → T (all_below 16 places) → (i : ℕ) → get_or places i 0 < 16
place-lt [] h i = lit< tt
place-lt (k ∷ places) h zero = T-lt (and_l (ltb k 16) (all_below 16 places) h)
place-lt (k ∷ places) h (suc i) = place-lt places (and_r (ltb k 16) (all_below 16 places) h) i
