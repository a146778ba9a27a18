-- Vectors of 16 bytes, lane by lane.
use Rattle.std.proofs.Common.{◌≡◌, ℕ, suc, ◌+◌, ◌*◌, ◌/◌, ◌<◌, ◌≤◌, ltb, List, [], ◌∷◌, length, replicate, map, get_or, bit_and, bit_xor, cond, Bool, true, T, refl, ap, ap₂, ◌∙◌, arith, w8, Fits}
use Rattle.std.proofs.lemmas.Simd.{zip2_splat, zip2_of_maps, map-map, swz_l, length-zip2, Each1-weaker, Each1-zip2, Each2-splat, SwzOk, SwzOk-from_Each1, below_from_Fits}
use lib.Lanes.{zip2, Each1}
use lib.Dec.{leb}
use mathlib.Core.Bool.{◌||◌}
use mir.Val.{zeroes}
use Rattle.aes_block.proofs.TableLemmas.{same_below}
use Rattle.aes_block.specs.Bytes.{xor_bytes}
use Rattle.aes_kernels.specs.Nibbles.{looked_up}

pub zip2-xor : (xs ys : List ℕ) → zip2 bit_xor xs ys ≡ xor_bytes xs ys
zip2-xor [] ys = refl
zip2-xor (x ∷ xs) [] = refl
zip2-xor (x ∷ xs) (y ∷ ys) = ap (λ (l : List ℕ). bit_xor x y ∷ l) (zip2-xor xs ys)

-- sums of what was computed lane by lane
pub sum-maps : (f g : ℕ → ℕ) (xs ys zs : List ℕ) → ys ≡ map f xs → zs ≡ map g xs → zip2 bit_xor ys zs ≡ map (λ b. bit_xor (f b) (g b)) xs
sum-maps f g xs ys zs ey ez = zip2_of_maps bit_xor f g xs ey ez

pub looked-map : (table : List ℕ) (f : ℕ → ℕ) (xs ys zs : List ℕ) → zs ≡ map (looked_up table) ys → ys ≡ map f xs → zs ≡ map (λ b. looked_up table (f b)) xs
looked-map table f xs ys zs ez ey = ez ∙ ap (map (looked_up table)) ey ∙ map-map (looked_up table) f xs

-- positions within the one block of 16 lanes
swz-map : (table : List ℕ) (i : ℕ) (js : List ℕ) → i + length js ≤ 16 → swz_l w8 16 table i js ≡ map (λ j. cond (leb 128 j) 0 (get_or table j 0)) js
swz-map table i [] h = refl
swz-map table i (j ∷ js) h =
    let place : 16 * (i / 16) + j ≡ j = omega arith in
    ap₂ (λ (n : ℕ) (l : List ℕ). cond (leb 128 j) 0 (get_or table n 0) ∷ l) place (swz-map table (suc i) js (omega arith))

pub look_up-is : (table x : List ℕ) → length x ≡ 16 → swz_l w8 16 table 0 (zip2 bit_and x (replicate 16 143)) ≡ map (looked_up table) x
look_up-is table x long =
    let places : zip2 bit_and x (replicate 16 143) ≡ map (λ b. bit_and b 143) x = zip2_splat bit_and x 16 143 long in
    let count : length (zip2 bit_and x (replicate 16 143)) ≡ 16 = length-zip2 bit_and x (replicate 16 143) long ∙ long in
    swz-map table 0 (zip2 bit_and x (replicate 16 143)) (omega (arith, count))
    ∙ ap (map (λ j. cond (leb 128 j) 0 (get_or table j 0))) places
    ∙ map-map (λ j. cond (leb 128 j) 0 (get_or table j 0)) (λ b. bit_and b 143) x

T-from_true : {b : Bool} → b ≡ true → T b
T-from_true e = rw e tt

-- each position is below 16 or from 128 on
abbrev is_place : ℕ → Bool
is_place b = zeroes 16 w8 (bit_and b 143) || ltb (bit_and b 143) 16

places : (b : ℕ) → b < 256 → T (is_place b)
places b lt = T-from_true (same_below is_place (λ _. true) 256 refl b lt)

pub look_up_ok : (x : List ℕ) → (length x ≡ 16) × Each1 (Fits w8) x → SwzOk w8 16 16 0 (zip2 bit_and x (replicate 16 143))
look_up_ok x fits =
    let ok = Each1-weaker (λ a. a < 256) (λ a. T (is_place a)) places x (below_from_Fits w8 x fits.1) in
    SwzOk-from_Each1 w8 16 1 16 0 (zip2 bit_and x (replicate 16 143)) refl (omega (arith, length-zip2 bit_and x (replicate 16 143) fits.0))
    (Each1-zip2 bit_and (λ j. T (zeroes 16 w8 j || ltb j 16)) x (replicate 16 143) (Each2-splat (λ a b. T (zeroes 16 w8 (bit_and a b) || ltb (bit_and a b) 16)) x 16 143 ok))

-- the sum of a round
pub round_sum : (after next b before key : List ℕ)
    → zip2 bit_xor (zip2 bit_xor (zip2 bit_xor after (zip2 bit_xor next b)) before) key ≡ xor_bytes (xor_bytes (xor_bytes after (xor_bytes next b)) before) key
round_sum after next b before key =
    zip2-xor (zip2 bit_xor (zip2 bit_xor after (zip2 bit_xor next b)) before) key
    ∙ ap (λ (l : List ℕ). xor_bytes l key) (zip2-xor (zip2 bit_xor after (zip2 bit_xor next b)) before
    ∙ ap (λ (l : List ℕ). xor_bytes l before) (zip2-xor after (zip2 bit_xor next b) ∙ ap (xor_bytes after) (zip2-xor next b)))
