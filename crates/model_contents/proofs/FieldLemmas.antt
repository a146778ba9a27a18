-- What the functions of the field compute, against its definitions.
use Rattle.std.proofs.Common.{◌≡◌, ℕ, zero, suc, ◌+◌, ◌-◌, ◌*◌, ◌/◌, ◌%◌, ◌^◌, ◌<◌, ◌≤◌, Bool, bit_and, bit_xor, cond, eqb, Option, Some, List, map, slice_index, refl, sym, ap, ap₂, ◌∙◌, arith}
use Rattle.std.specs.Option.{unwrap_or}
use Rattle.std.specs.Int.{w8, rotate_left}
use Rattle.std.specs.Int.Bits.{xor_assoc, xor_zero_l, xor_zero_r}
use Rattle.std.specs.List.{find, range_with_len}
use Rattle.std.proofs.lemmas.Bool.{cond-true, cond-false, eq-eqb, ne_eqb}
use Rattle.std.proofs.lemmas.Nat.{and_mask, shr-shr}
use Rattle.aes_block.specs.Field.{affine, all_bytes, inverse, product, product_of, times_x}
use Rattle.aes_block.specs.Aes.{mixed_column}
use Rattle.aes_block.proofs.StateLemmas.{four_same}
use Rattle.aes_block.proofs.TableLemmas.{same_below}
use Rattle.aes_block.proofs.FieldLemmas.{times_x-byte}

pub times_x-low : (b : ℕ) → b < 128 → b * 2 % 256 ≡ times_x b
unfolding times_x
times_x-low b h = same_below (λ x. x * 2 % 256) times_x 128 refl b h

-- the bit that leaves is one
pub times_x-high : (b : ℕ) → 128 ≤ b → b < 256 → bit_xor (b * 2 % 256) 0x1b ≡ times_x b
times_x-high b low high =
    let one : 0x1b ≡ b / 128 * 0x1b = omega arith in
    ap (bit_xor (b * 2 % 256)) one ∙ times_x-byte b high

pub affine-rotated : (b : ℕ) → b < 256
    → bit_xor (bit_xor (bit_xor (bit_xor (bit_xor b (rotate_left w8 b 1)) (rotate_left w8 b 2)) (rotate_left w8 b 3)) (rotate_left w8 b 4)) 0x63 ≡ affine b
affine-rotated b h =
    same_below (λ x. bit_xor (bit_xor (bit_xor (bit_xor (bit_xor x (rotate_left w8 x 1)) (rotate_left w8 x 2)) (rotate_left w8 x 3)) (rotate_left w8 x 4)) 0x63) affine 256 refl b h

-- ---- a product, bit by bit

-- the sum over the lowest i bits of a, and the product of the others with `multiple`, make the product
pub record IsSoFar (a b i sum multiple : ℕ) : Type 0 where
  pub whole : bit_xor sum (product_of (8 - i) (a / 2 ^ i) multiple) ≡ product a b

pub product-none : (a b : ℕ) → IsSoFar a b 0 0 b
unfolding product
product-none a b =
    let all : a / 2 ^ 0 ≡ a = omega arith in
    record { whole = xor_zero_l (product_of 8 (a / 2 ^ 0) b) ∙ ap (λ x. product_of 8 x b) all }

-- what bit i adds of `multiple`
added : ℕ → ℕ → ℕ → ℕ
added a i multiple = cond (eqb (a / 2 ^ i % 2) 1) multiple 0

-- what is left begins with the next bit
product_of-next : (a i multiple : ℕ) → i < 8
    → product_of (8 - i) (a / 2 ^ i) multiple ≡ bit_xor (added a i multiple) (product_of (8 - (i + 1)) (a / 2 ^ (i + 1)) (times_x multiple))
unfolding added
product_of-next a i multiple h =
    let more : 8 - i ≡ suc (8 - (i + 1)) = omega arith in
    ap (λ n. product_of n (a / 2 ^ i) multiple) more
    ∙ ap (λ x. bit_xor (added a i multiple) (product_of (8 - (i + 1)) x (times_x multiple))) (shr-shr a i 1)

product-next : {a b : ℕ} (i sum multiple sum' multiple' : ℕ) → IsSoFar a b i sum multiple → i < 8 → sum' ≡ bit_xor sum (added a i multiple) → multiple' ≡ times_x multiple
    → IsSoFar a b (i + 1) sum' multiple'
product-next {a} {b} i sum multiple sum' multiple' so_far h es em =
    record {
      whole = ap₂ (λ x m. bit_xor x (product_of (8 - (i + 1)) (a / 2 ^ (i + 1)) m)) es em
          ∙ xor_assoc sum (added a i multiple) (product_of (8 - (i + 1)) (a / 2 ^ (i + 1)) (times_x multiple))
          ∙ ap (bit_xor sum) (sym (product_of-next a i multiple h)) ∙ so_far.whole;
    }

pub product-picked : {a b : ℕ} (i sum multiple sum' multiple' : ℕ) → IsSoFar a b i sum multiple → i < 8 → bit_and (a / 2 ^ i) 1 ≡ 1 → sum' ≡ bit_xor sum multiple → multiple' ≡ times_x multiple
    → IsSoFar a b (i + 1) sum' multiple'
unfolding added
product-picked {a} i sum multiple sum' multiple' so_far h bit es em =
    product-next i sum multiple sum' multiple' so_far h
    (es ∙ ap (bit_xor sum) (sym (cond-true (eqb (a / 2 ^ i % 2) 1) multiple 0 (eq-eqb _ _ (sym (and_mask (a / 2 ^ i) 1) ∙ bit))))) em

pub product-left : {a b : ℕ} (i sum multiple sum' multiple' : ℕ) → IsSoFar a b i sum multiple → i < 8 → (bit_and (a / 2 ^ i) 1 ≡ 1 → ⊥) → sum' ≡ sum → multiple' ≡ times_x multiple
    → IsSoFar a b (i + 1) sum' multiple'
unfolding added
product-left {a} i sum multiple sum' multiple' so_far h bit es em =
    product-next i sum multiple sum' multiple' so_far h
    (es ∙ sym (xor_zero_r sum) ∙ ap (bit_xor sum) (sym (cond-false (eqb (a / 2 ^ i % 2) 1) multiple 0 (ne_eqb _ _ (λ e. bit (and_mask (a / 2 ^ i) 1 ∙ e)))))) em

pub product-all : (a b i sum multiple : ℕ) → i ≡ 8 → IsSoFar a b i sum multiple → sum ≡ product a b
product-all a b i sum multiple h so_far =
    let none : 8 - i ≡ 0 = omega arith in
    sym (xor_zero_r sum) ∙ ap (λ n. bit_xor sum (product_of n (a / 2 ^ i) multiple)) (sym none) ∙ so_far.whole

-- ---- the inverse, sought from 0 on

-- the product with b is 1
abbrev pub is_inverse : ℕ → ℕ → Bool
is_inverse b x = eqb (product b x) 1

-- none of the bytes before x is it
pub record IsSought (b x : ℕ) : Type 0 where
  pub rest : find (is_inverse b) (range_with_len x (256 - x)) ≡ find (is_inverse b) all_bytes

pub sought-none : (b : ℕ) → IsSought b 0
sought-none b = record { rest = refl }

-- byte x, before those that are left
sought-next : (b x : ℕ) → x < 256 → find (is_inverse b) (range_with_len x (256 - x)) ≡ cond (is_inverse b x) (Some x) (find (is_inverse b) (range_with_len (x + 1) (256 - (x + 1))))
sought-next b x h =
    let more : 256 - x ≡ suc (256 - (x + 1)) = omega arith in
    ap (λ n. find (is_inverse b) (range_with_len x n)) more

pub sought-more : (b x : ℕ) → x < 256 → (product b x ≡ 1 → ⊥) → IsSought b x → IsSought b (x + 1)
sought-more b x h other so_far =
    record { rest = sym (cond-false (is_inverse b x) _ _ (ne_eqb _ _ other)) ∙ sym (sought-next b x h) ∙ so_far.rest }

pub sought-found : (b x : ℕ) → x < 256 → product b x ≡ 1 → IsSought b x → x ≡ inverse b
unfolding inverse
sought-found b x h is so_far =
    ap (λ (o : Option ℕ). unwrap_or o 0) (sym (cond-true (is_inverse b x) (Some x) _ (eq-eqb _ _ is)) ∙ sym (sought-next b x h) ∙ so_far.rest)

pub sought-all : (b x : ℕ) → x ≡ 256 → IsSought b x → 0 ≡ inverse b
unfolding inverse
sought-all b x h so_far =
    let none : 0 ≡ 256 - x = omega arith in
    ap (λ (n : ℕ). unwrap_or (find (is_inverse b) (range_with_len x n)) 0) none ∙ ap (λ (o : Option ℕ). unwrap_or o 0) so_far.rest

-- ---- columns

product_of-zero : (n b : ℕ) → product_of n 0 b ≡ 0
product_of-zero zero b = refl
product_of-zero (suc n) b = xor_zero_l (product_of n 0 (times_x b)) ∙ product_of-zero n (times_x b)

pub product-one : (b : ℕ) → product 1 b ≡ b
unfolding product
product-one b = ap (bit_xor b) (product_of-zero 7 (times_x b)) ∙ xor_zero_r b

pub product-two : (b : ℕ) → product 2 b ≡ times_x b
unfolding product
product-two b = xor_zero_l (product_of 7 1 (times_x b)) ∙ ap (bit_xor (times_x b)) (product_of-zero 6 (times_x (times_x b))) ∙ xor_zero_r (times_x b)

-- a row of a column that is mixed
abbrev pub row_of : List ℕ → ℕ → ℕ
row_of s r =
    bit_xor (bit_xor (bit_xor (product 2 (slice_index s r)) (product 3 (slice_index s ((r + 1) % 4)))) (slice_index s ((r + 2) % 4))) (slice_index s ((r + 3) % 4))

mixed_byte : (a b c d : ℕ) → bit_xor (bit_xor (bit_xor a b) c) d ≡ bit_xor a (bit_xor b (bit_xor (product 1 c) (product 1 d)))
mixed_byte a b c d = xor_assoc (bit_xor a b) c d ∙ xor_assoc a b (bit_xor c d) ∙ ap (λ x. bit_xor a (bit_xor b x)) (sym (ap₂ bit_xor (product-one c) (product-one d)))

pub mixed-is : (s t : List ℕ) → t ≡ map (row_of s) (range_with_len 0 4) → t ≡ mixed_column 2 3 1 1 s
mixed-is s t h =
    h ∙ four_same (mixed_byte (product 2 (slice_index s 0)) (product 3 (slice_index s 1)) (slice_index s 2) (slice_index s 3)) (mixed_byte (product 2 (slice_index s 1)) (product 3 (slice_index s 2)) (slice_index s 3) (slice_index s 0))
    (mixed_byte (product 2 (slice_index s 2)) (product 3 (slice_index s 3)) (slice_index s 0) (slice_index s 1)) (mixed_byte (product 2 (slice_index s 3)) (product 3 (slice_index s 0)) (slice_index s 1) (slice_index s 2))
