-- Bits of bytes that change places.
use Rattle.std.proofs.Common.{◌≡◌, ℕ, ◌+◌, ◌*◌, ◌/◌, ◌%◌, ◌^◌, ◌<◌, List, length, replicate, get_or, bit_and, bit_xor, refl, ap, ap₂, sym, ◌∙◌, arith}
use Rattle.std.specs.Int.Bits.{xor_assoc, xor_comm, xor_self, xor_zero_r}
use Rattle.std.proofs.lemmas.Simd.{get_or-replicate, get_or-zip2, length-zip2}
use Rattle.std.proofs.lemmas.List.{length-replicate}
use Rattle.std.proofs.lemmas.Nat.{xor_mod, xor_shr, and_shr, and_mod, and_mask, shr-shr}
use lib.Lanes.{zip2}
use Rattle.aes_kernels.specs.Circuit.{bits_of, lane_bits, lower1, lower2, lower4, upper1, upper2, upper4}
use Rattle.aes_kernels.proofs.Elements.{cons-is}

pub xor_bit : (a b k : ℕ) → bit_xor a b / 2 ^ k % 2 ≡ bit_xor (a / 2 ^ k % 2) (b / 2 ^ k % 2)
xor_bit a b k = ap (λ (n : ℕ). n % 2) (xor_shr a b k) ∙ xor_mod (a / 2 ^ k) (b / 2 ^ k) 1

and_bit : (a b k : ℕ) → bit_and a b / 2 ^ k % 2 ≡ bit_and (a / 2 ^ k % 2) (b / 2 ^ k % 2)
and_bit a b k = ap (λ (n : ℕ). n % 2) (and_shr a b k) ∙ and_mod (a / 2 ^ k) (b / 2 ^ k) 1

and_none : (x : ℕ) → bit_and x 0 ≡ 0
and_none x = and_mask x 0 ∙ omega arith

clear : (x m k : ℕ) → m / 2 ^ k % 2 ≡ 0 → bit_and x m / 2 ^ k % 2 ≡ 0
clear x m k e = and_bit x m k ∙ ap (bit_and (x / 2 ^ k % 2)) e ∙ and_none (x / 2 ^ k % 2)

taken : (a b m s k : ℕ) → m / 2 ^ k % 2 ≡ 1 → bit_and (bit_xor (a / 2 ^ s) b) m / 2 ^ k % 2 ≡ bit_xor (a / 2 ^ (s + k) % 2) (b / 2 ^ k % 2)
taken a b m s k e =
    and_bit (bit_xor (a / 2 ^ s) b) m k ∙ ap (bit_and (bit_xor (a / 2 ^ s) b / 2 ^ k % 2)) e ∙ and_mask (bit_xor (a / 2 ^ s) b / 2 ^ k % 2) 1
    ∙ low (bit_xor (a / 2 ^ s) b / 2 ^ k) ∙ xor_bit (a / 2 ^ s) b k ∙ ap (λ (n : ℕ). bit_xor (n % 2) (b / 2 ^ k % 2)) (shr-shr a s k)
  where
    low : (n : ℕ) → n % 2 % 2 ≡ n % 2
    low n = omega arith

-- x + (x + y), and y + (x + y)
twice_left : (x y : ℕ) → bit_xor x (bit_xor x y) ≡ y
twice_left x y = sym (xor_assoc x x y) ∙ ap (λ (n : ℕ). bit_xor n y) (xor_self x) ∙ xor_comm 0 y ∙ xor_zero_r y

twice_right : (x y : ℕ) → bit_xor y (bit_xor x y) ≡ x
twice_right x y = ap (bit_xor y) (xor_comm x y) ∙ twice_left y x

kept : (a t k : ℕ) → t / 2 ^ k % 2 ≡ 0 → bit_xor a t / 2 ^ k % 2 ≡ a / 2 ^ k % 2
kept a t k e = xor_bit a t k ∙ ap (bit_xor (a / 2 ^ k % 2)) e ∙ xor_zero_r (a / 2 ^ k % 2)

moved1_0 : (t : ℕ) → t * 2 % 256 / 1 % 2 ≡ 0
moved1_0 t = omega arith

moved1_1 : (t : ℕ) → t * 2 % 256 / 2 % 2 ≡ t / 1 % 2
moved1_1 t = omega arith

moved1_2 : (t : ℕ) → t * 2 % 256 / 4 % 2 ≡ t / 2 % 2
moved1_2 t = omega arith

moved1_3 : (t : ℕ) → t * 2 % 256 / 8 % 2 ≡ t / 4 % 2
moved1_3 t = omega arith

moved1_4 : (t : ℕ) → t * 2 % 256 / 16 % 2 ≡ t / 8 % 2
moved1_4 t = omega arith

moved1_5 : (t : ℕ) → t * 2 % 256 / 32 % 2 ≡ t / 16 % 2
moved1_5 t = omega arith

moved1_6 : (t : ℕ) → t * 2 % 256 / 64 % 2 ≡ t / 32 % 2
moved1_6 t = omega arith

moved1_7 : (t : ℕ) → t * 2 % 256 / 128 % 2 ≡ t / 64 % 2
moved1_7 t = omega arith

upper1-bits : (a b : ℕ) → bits_of (bit_xor a (bit_and (bit_xor (a / 2) b) 85 * 2 % 256)) ≡ upper1 (bits_of a) (bits_of b)
upper1-bits a b =
    (cons-is (kept a (bit_and (bit_xor (a / 2) b) 85 * 2 % 256) 0 (moved1_0 (bit_and (bit_xor (a / 2) b) 85)))
    (cons-is (xor_bit a (bit_and (bit_xor (a / 2) b) 85 * 2 % 256) 1 ∙ ap (bit_xor (a / 2 % 2)) (moved1_1 (bit_and (bit_xor (a / 2) b) 85) ∙ taken a b 85 1 0 refl) ∙ twice_left (a / 2 % 2) (b / 1 % 2))
    (cons-is (kept a (bit_and (bit_xor (a / 2) b) 85 * 2 % 256) 2 (moved1_2 (bit_and (bit_xor (a / 2) b) 85) ∙ clear (bit_xor (a / 2) b) 85 1 refl))
    (cons-is (xor_bit a (bit_and (bit_xor (a / 2) b) 85 * 2 % 256) 3 ∙ ap (bit_xor (a / 8 % 2)) (moved1_3 (bit_and (bit_xor (a / 2) b) 85) ∙ taken a b 85 1 2 refl) ∙ twice_left (a / 8 % 2) (b / 4 % 2))
    (cons-is (kept a (bit_and (bit_xor (a / 2) b) 85 * 2 % 256) 4 (moved1_4 (bit_and (bit_xor (a / 2) b) 85) ∙ clear (bit_xor (a / 2) b) 85 3 refl))
    (cons-is (xor_bit a (bit_and (bit_xor (a / 2) b) 85 * 2 % 256) 5 ∙ ap (bit_xor (a / 32 % 2)) (moved1_5 (bit_and (bit_xor (a / 2) b) 85) ∙ taken a b 85 1 4 refl) ∙ twice_left (a / 32 % 2) (b / 16 % 2))
    (cons-is (kept a (bit_and (bit_xor (a / 2) b) 85 * 2 % 256) 6 (moved1_6 (bit_and (bit_xor (a / 2) b) 85) ∙ clear (bit_xor (a / 2) b) 85 5 refl))
    (cons-is (xor_bit a (bit_and (bit_xor (a / 2) b) 85 * 2 % 256) 7 ∙ ap (bit_xor (a / 128 % 2)) (moved1_7 (bit_and (bit_xor (a / 2) b) 85) ∙ taken a b 85 1 6 refl) ∙ twice_left (a / 128 % 2) (b / 64 % 2)) refl))))))))

lower1-bits : (a b : ℕ) → bits_of (bit_xor b (bit_and (bit_xor (a / 2) b) 85)) ≡ lower1 (bits_of a) (bits_of b)
lower1-bits a b =
    (cons-is (xor_bit b (bit_and (bit_xor (a / 2) b) 85) 0 ∙ ap (bit_xor (b / 1 % 2)) (taken a b 85 1 0 refl) ∙ twice_right (a / 2 % 2) (b / 1 % 2))
    (cons-is (kept b (bit_and (bit_xor (a / 2) b) 85) 1 (clear (bit_xor (a / 2) b) 85 1 refl))
    (cons-is (xor_bit b (bit_and (bit_xor (a / 2) b) 85) 2 ∙ ap (bit_xor (b / 4 % 2)) (taken a b 85 1 2 refl) ∙ twice_right (a / 8 % 2) (b / 4 % 2))
    (cons-is (kept b (bit_and (bit_xor (a / 2) b) 85) 3 (clear (bit_xor (a / 2) b) 85 3 refl))
    (cons-is (xor_bit b (bit_and (bit_xor (a / 2) b) 85) 4 ∙ ap (bit_xor (b / 16 % 2)) (taken a b 85 1 4 refl) ∙ twice_right (a / 32 % 2) (b / 16 % 2))
    (cons-is (kept b (bit_and (bit_xor (a / 2) b) 85) 5 (clear (bit_xor (a / 2) b) 85 5 refl))
    (cons-is (xor_bit b (bit_and (bit_xor (a / 2) b) 85) 6 ∙ ap (bit_xor (b / 64 % 2)) (taken a b 85 1 6 refl) ∙ twice_right (a / 128 % 2) (b / 64 % 2))
    (cons-is (kept b (bit_and (bit_xor (a / 2) b) 85) 7 (clear (bit_xor (a / 2) b) 85 7 refl)) refl))))))))

moved2_0 : (t : ℕ) → t * 4 % 256 / 1 % 2 ≡ 0
moved2_0 t = omega arith

moved2_1 : (t : ℕ) → t * 4 % 256 / 2 % 2 ≡ 0
moved2_1 t = omega arith

moved2_2 : (t : ℕ) → t * 4 % 256 / 4 % 2 ≡ t / 1 % 2
moved2_2 t = omega arith

moved2_3 : (t : ℕ) → t * 4 % 256 / 8 % 2 ≡ t / 2 % 2
moved2_3 t = omega arith

moved2_4 : (t : ℕ) → t * 4 % 256 / 16 % 2 ≡ t / 4 % 2
moved2_4 t = omega arith

moved2_5 : (t : ℕ) → t * 4 % 256 / 32 % 2 ≡ t / 8 % 2
moved2_5 t = omega arith

moved2_6 : (t : ℕ) → t * 4 % 256 / 64 % 2 ≡ t / 16 % 2
moved2_6 t = omega arith

moved2_7 : (t : ℕ) → t * 4 % 256 / 128 % 2 ≡ t / 32 % 2
moved2_7 t = omega arith

upper2-bits : (a b : ℕ) → bits_of (bit_xor a (bit_and (bit_xor (a / 4) b) 51 * 4 % 256)) ≡ upper2 (bits_of a) (bits_of b)
upper2-bits a b =
    (cons-is (kept a (bit_and (bit_xor (a / 4) b) 51 * 4 % 256) 0 (moved2_0 (bit_and (bit_xor (a / 4) b) 51)))
    (cons-is (kept a (bit_and (bit_xor (a / 4) b) 51 * 4 % 256) 1 (moved2_1 (bit_and (bit_xor (a / 4) b) 51)))
    (cons-is (xor_bit a (bit_and (bit_xor (a / 4) b) 51 * 4 % 256) 2 ∙ ap (bit_xor (a / 4 % 2)) (moved2_2 (bit_and (bit_xor (a / 4) b) 51) ∙ taken a b 51 2 0 refl) ∙ twice_left (a / 4 % 2) (b / 1 % 2))
    (cons-is (xor_bit a (bit_and (bit_xor (a / 4) b) 51 * 4 % 256) 3 ∙ ap (bit_xor (a / 8 % 2)) (moved2_3 (bit_and (bit_xor (a / 4) b) 51) ∙ taken a b 51 2 1 refl) ∙ twice_left (a / 8 % 2) (b / 2 % 2))
    (cons-is (kept a (bit_and (bit_xor (a / 4) b) 51 * 4 % 256) 4 (moved2_4 (bit_and (bit_xor (a / 4) b) 51) ∙ clear (bit_xor (a / 4) b) 51 2 refl))
    (cons-is (kept a (bit_and (bit_xor (a / 4) b) 51 * 4 % 256) 5 (moved2_5 (bit_and (bit_xor (a / 4) b) 51) ∙ clear (bit_xor (a / 4) b) 51 3 refl))
    (cons-is (xor_bit a (bit_and (bit_xor (a / 4) b) 51 * 4 % 256) 6 ∙ ap (bit_xor (a / 64 % 2)) (moved2_6 (bit_and (bit_xor (a / 4) b) 51) ∙ taken a b 51 2 4 refl) ∙ twice_left (a / 64 % 2) (b / 16 % 2))
    (cons-is (xor_bit a (bit_and (bit_xor (a / 4) b) 51 * 4 % 256) 7 ∙ ap (bit_xor (a / 128 % 2)) (moved2_7 (bit_and (bit_xor (a / 4) b) 51) ∙ taken a b 51 2 5 refl) ∙ twice_left (a / 128 % 2) (b / 32 % 2)) refl))))))))

lower2-bits : (a b : ℕ) → bits_of (bit_xor b (bit_and (bit_xor (a / 4) b) 51)) ≡ lower2 (bits_of a) (bits_of b)
lower2-bits a b =
    (cons-is (xor_bit b (bit_and (bit_xor (a / 4) b) 51) 0 ∙ ap (bit_xor (b / 1 % 2)) (taken a b 51 2 0 refl) ∙ twice_right (a / 4 % 2) (b / 1 % 2))
    (cons-is (xor_bit b (bit_and (bit_xor (a / 4) b) 51) 1 ∙ ap (bit_xor (b / 2 % 2)) (taken a b 51 2 1 refl) ∙ twice_right (a / 8 % 2) (b / 2 % 2))
    (cons-is (kept b (bit_and (bit_xor (a / 4) b) 51) 2 (clear (bit_xor (a / 4) b) 51 2 refl))
    (cons-is (kept b (bit_and (bit_xor (a / 4) b) 51) 3 (clear (bit_xor (a / 4) b) 51 3 refl))
    (cons-is (xor_bit b (bit_and (bit_xor (a / 4) b) 51) 4 ∙ ap (bit_xor (b / 16 % 2)) (taken a b 51 2 4 refl) ∙ twice_right (a / 64 % 2) (b / 16 % 2))
    (cons-is (xor_bit b (bit_and (bit_xor (a / 4) b) 51) 5 ∙ ap (bit_xor (b / 32 % 2)) (taken a b 51 2 5 refl) ∙ twice_right (a / 128 % 2) (b / 32 % 2))
    (cons-is (kept b (bit_and (bit_xor (a / 4) b) 51) 6 (clear (bit_xor (a / 4) b) 51 6 refl))
    (cons-is (kept b (bit_and (bit_xor (a / 4) b) 51) 7 (clear (bit_xor (a / 4) b) 51 7 refl)) refl))))))))

moved4_0 : (t : ℕ) → t * 16 % 256 / 1 % 2 ≡ 0
moved4_0 t = omega arith

moved4_1 : (t : ℕ) → t * 16 % 256 / 2 % 2 ≡ 0
moved4_1 t = omega arith

moved4_2 : (t : ℕ) → t * 16 % 256 / 4 % 2 ≡ 0
moved4_2 t = omega arith

moved4_3 : (t : ℕ) → t * 16 % 256 / 8 % 2 ≡ 0
moved4_3 t = omega arith

moved4_4 : (t : ℕ) → t * 16 % 256 / 16 % 2 ≡ t / 1 % 2
moved4_4 t = omega arith

moved4_5 : (t : ℕ) → t * 16 % 256 / 32 % 2 ≡ t / 2 % 2
moved4_5 t = omega arith

moved4_6 : (t : ℕ) → t * 16 % 256 / 64 % 2 ≡ t / 4 % 2
moved4_6 t = omega arith

moved4_7 : (t : ℕ) → t * 16 % 256 / 128 % 2 ≡ t / 8 % 2
moved4_7 t = omega arith

upper4-bits : (a b : ℕ) → bits_of (bit_xor a (bit_and (bit_xor (a / 16) b) 15 * 16 % 256)) ≡ upper4 (bits_of a) (bits_of b)
upper4-bits a b =
    (cons-is (kept a (bit_and (bit_xor (a / 16) b) 15 * 16 % 256) 0 (moved4_0 (bit_and (bit_xor (a / 16) b) 15)))
    (cons-is (kept a (bit_and (bit_xor (a / 16) b) 15 * 16 % 256) 1 (moved4_1 (bit_and (bit_xor (a / 16) b) 15)))
    (cons-is (kept a (bit_and (bit_xor (a / 16) b) 15 * 16 % 256) 2 (moved4_2 (bit_and (bit_xor (a / 16) b) 15)))
    (cons-is (kept a (bit_and (bit_xor (a / 16) b) 15 * 16 % 256) 3 (moved4_3 (bit_and (bit_xor (a / 16) b) 15)))
    (cons-is (xor_bit a (bit_and (bit_xor (a / 16) b) 15 * 16 % 256) 4 ∙ ap (bit_xor (a / 16 % 2)) (moved4_4 (bit_and (bit_xor (a / 16) b) 15) ∙ taken a b 15 4 0 refl) ∙ twice_left (a / 16 % 2) (b / 1 % 2))
    (cons-is (xor_bit a (bit_and (bit_xor (a / 16) b) 15 * 16 % 256) 5 ∙ ap (bit_xor (a / 32 % 2)) (moved4_5 (bit_and (bit_xor (a / 16) b) 15) ∙ taken a b 15 4 1 refl) ∙ twice_left (a / 32 % 2) (b / 2 % 2))
    (cons-is (xor_bit a (bit_and (bit_xor (a / 16) b) 15 * 16 % 256) 6 ∙ ap (bit_xor (a / 64 % 2)) (moved4_6 (bit_and (bit_xor (a / 16) b) 15) ∙ taken a b 15 4 2 refl) ∙ twice_left (a / 64 % 2) (b / 4 % 2))
    (cons-is (xor_bit a (bit_and (bit_xor (a / 16) b) 15 * 16 % 256) 7 ∙ ap (bit_xor (a / 128 % 2)) (moved4_7 (bit_and (bit_xor (a / 16) b) 15) ∙ taken a b 15 4 3 refl) ∙ twice_left (a / 128 % 2) (b / 8 % 2)) refl))))))))

lower4-bits : (a b : ℕ) → bits_of (bit_xor b (bit_and (bit_xor (a / 16) b) 15)) ≡ lower4 (bits_of a) (bits_of b)
lower4-bits a b =
    (cons-is (xor_bit b (bit_and (bit_xor (a / 16) b) 15) 0 ∙ ap (bit_xor (b / 1 % 2)) (taken a b 15 4 0 refl) ∙ twice_right (a / 16 % 2) (b / 1 % 2))
    (cons-is (xor_bit b (bit_and (bit_xor (a / 16) b) 15) 1 ∙ ap (bit_xor (b / 2 % 2)) (taken a b 15 4 1 refl) ∙ twice_right (a / 32 % 2) (b / 2 % 2))
    (cons-is (xor_bit b (bit_and (bit_xor (a / 16) b) 15) 2 ∙ ap (bit_xor (b / 4 % 2)) (taken a b 15 4 2 refl) ∙ twice_right (a / 64 % 2) (b / 4 % 2))
    (cons-is (xor_bit b (bit_and (bit_xor (a / 16) b) 15) 3 ∙ ap (bit_xor (b / 8 % 2)) (taken a b 15 4 3 refl) ∙ twice_right (a / 128 % 2) (b / 8 % 2))
    (cons-is (kept b (bit_and (bit_xor (a / 16) b) 15) 4 (clear (bit_xor (a / 16) b) 15 4 refl))
    (cons-is (kept b (bit_and (bit_xor (a / 16) b) 15) 5 (clear (bit_xor (a / 16) b) 15 5 refl))
    (cons-is (kept b (bit_and (bit_xor (a / 16) b) 15) 6 (clear (bit_xor (a / 16) b) 15 6 refl))
    (cons-is (kept b (bit_and (bit_xor (a / 16) b) 15) 7 (clear (bit_xor (a / 16) b) 15 7 refl)) refl))))))))

-- ---- in the lanes of vectors

abbrev right : List ℕ → ℕ → List ℕ
right a s = zip2 (λ x n. x / 2 ^ n) a (replicate 16 s)

abbrev left : List ℕ → ℕ → List ℕ
left a s = zip2 (λ x n. x * 2 ^ n % 256) a (replicate 16 s)

abbrev moved : List ℕ → List ℕ → ℕ → ℕ → List ℕ
moved a b s m = zip2 bit_and (zip2 bit_xor (right a s) b) (replicate 16 m)

module _ (a b : List ℕ) (la : length a ≡ 16) (lb : length b ≡ 16) (s m lane : ℕ) (within : lane < 16) where
  even : (n : ℕ) → length (replicate {A = ℕ} 16 n) ≡ 16
  even n = length-replicate 16 n

  l1 : length (right a s) ≡ 16
  l1 = length-zip2 (λ x n. x / 2 ^ n) a (replicate 16 s) (omega (arith, la, even s)) ∙ la

  l2 : length (zip2 bit_xor (right a s) b) ≡ 16
  l2 = length-zip2 bit_xor (right a s) b (omega (arith, l1, lb)) ∙ l1

  l3 : length (moved a b s m) ≡ 16
  l3 = length-zip2 bit_and (zip2 bit_xor (right a s) b) (replicate 16 m) (omega (arith, l2, even m)) ∙ l2

  l4 : length (left (moved a b s m) s) ≡ 16
  l4 = length-zip2 (λ x n. x * 2 ^ n % 256) (moved a b s m) (replicate 16 s) (omega (arith, l3, even s)) ∙ l3

  at-moved : get_or (moved a b s m) lane 0 ≡ bit_and (bit_xor (get_or a lane 0 / 2 ^ s) (get_or b lane 0)) m
  at-moved =
      get_or-zip2 bit_and (zip2 bit_xor (right a s) b) (replicate 16 m) lane 0 0 0 (omega (arith, l2, within)) (omega (arith, even m, within))
      ∙ ap₂ bit_and (get_or-zip2 bit_xor (right a s) b lane 0 0 0 (omega (arith, l1, within)) (omega (arith, lb, within))
      ∙ ap (λ (n : ℕ). bit_xor n (get_or b lane 0)) (get_or-zip2 (λ x n. x / 2 ^ n) a (replicate 16 s) lane 0 0 0 (omega (arith, la, within)) (omega (arith, even s, within))
      ∙ ap (λ (n : ℕ). get_or a lane 0 / 2 ^ n) (get_or-replicate 16 lane s 0 within)))
      (get_or-replicate 16 lane m 0 within)

  pub at-upper : get_or (zip2 bit_xor a (left (moved a b s m) s)) lane 0
      ≡ bit_xor (get_or a lane 0) (bit_and (bit_xor (get_or a lane 0 / 2 ^ s) (get_or b lane 0)) m * 2 ^ s % 256)
  at-upper =
      get_or-zip2 bit_xor a (left (moved a b s m) s) lane 0 0 0 (omega (arith, la, within)) (omega (arith, l4, within))
      ∙ ap (bit_xor (get_or a lane 0)) (get_or-zip2 (λ x n. x * 2 ^ n % 256) (moved a b s m) (replicate 16 s) lane 0 0 0 (omega (arith, l3, within)) (omega (arith, even s, within))
      ∙ ap₂ (λ (x n : ℕ). x * 2 ^ n % 256) at-moved (get_or-replicate 16 lane s 0 within))

  pub at-lower : get_or (zip2 bit_xor b (moved a b s m)) lane 0 ≡ bit_xor (get_or b lane 0) (bit_and (bit_xor (get_or a lane 0 / 2 ^ s) (get_or b lane 0)) m)
  at-lower =
      get_or-zip2 bit_xor b (moved a b s m) lane 0 0 0 (omega (arith, lb, within)) (omega (arith, l3, within))
      ∙ ap (bit_xor (get_or b lane 0)) at-moved

pub upper1-at : (a b : List ℕ) (lane : ℕ) → length a ≡ 16 → length b ≡ 16 → lane < 16 → lane_bits lane (zip2 bit_xor a (left (moved a b 1 85) 1)) ≡ upper1 (lane_bits lane a) (lane_bits lane b)
upper1-at a b lane la lb within = ap bits_of (at-upper a b la lb 1 85 lane within) ∙ upper1-bits (get_or a lane 0) (get_or b lane 0)

pub lower1-at : (a b : List ℕ) (lane : ℕ) → length a ≡ 16 → length b ≡ 16 → lane < 16 → lane_bits lane (zip2 bit_xor b (moved a b 1 85)) ≡ lower1 (lane_bits lane a) (lane_bits lane b)
lower1-at a b lane la lb within = ap bits_of (at-lower a b la lb 1 85 lane within) ∙ lower1-bits (get_or a lane 0) (get_or b lane 0)

pub upper2-at : (a b : List ℕ) (lane : ℕ) → length a ≡ 16 → length b ≡ 16 → lane < 16 → lane_bits lane (zip2 bit_xor a (left (moved a b 2 51) 2)) ≡ upper2 (lane_bits lane a) (lane_bits lane b)
upper2-at a b lane la lb within = ap bits_of (at-upper a b la lb 2 51 lane within) ∙ upper2-bits (get_or a lane 0) (get_or b lane 0)

pub lower2-at : (a b : List ℕ) (lane : ℕ) → length a ≡ 16 → length b ≡ 16 → lane < 16 → lane_bits lane (zip2 bit_xor b (moved a b 2 51)) ≡ lower2 (lane_bits lane a) (lane_bits lane b)
lower2-at a b lane la lb within = ap bits_of (at-lower a b la lb 2 51 lane within) ∙ lower2-bits (get_or a lane 0) (get_or b lane 0)

pub upper4-at : (a b : List ℕ) (lane : ℕ) → length a ≡ 16 → length b ≡ 16 → lane < 16 → lane_bits lane (zip2 bit_xor a (left (moved a b 4 15) 4)) ≡ upper4 (lane_bits lane a) (lane_bits lane b)
upper4-at a b lane la lb within = ap bits_of (at-upper a b la lb 4 15 lane within) ∙ upper4-bits (get_or a lane 0) (get_or b lane 0)

pub lower4-at : (a b : List ℕ) (lane : ℕ) → length a ≡ 16 → length b ≡ 16 → lane < 16 → lane_bits lane (zip2 bit_xor b (moved a b 4 15)) ≡ lower4 (lane_bits lane a) (lane_bits lane b)
lower4-at a b lane la lb within = ap bits_of (at-lower a b la lb 4 15 lane within) ∙ lower4-bits (get_or a lane 0) (get_or b lane 0)
