-- Costs that are powers of two, and the sizes that follow.
use Rattle.std.proofs.Common.{◌≡◌, ℕ, zero, suc, ◌+◌, ◌-◌, ◌*◌, ◌/◌, ◌%◌, ◌^◌, ◌<◌, ◌≤◌, IsTrue, sym, ap, ◌∙◌, arith, inl, inr, tests, rules, eq-eqb}
use Rattle.std.proofs.lemmas.Bool.{cases_lt}
use Rattle.std.proofs.lemmas.Nat.{ones_cat, ones_le_self, pow-add, pow_below, pow_pos, zero_from_ones}
use Rattle.std.proofs.Math.Nat.{mod-lt, mul-le-mul_left, mul-mod_left, pow-suc}
use Rattle.std.specs.Int.{is_power_of_two}
use Rattle.std.specs.Prelude.{count_ones}
use lib.Count.{ones_step}
use Rattle.scrypt_kdf.specs.Rows.{AreSizes}
use Rattle.scrypt_kdf.specs.Scrypt.{IsCost, IsTooLarge}

-- a number with one binary digit set is a power of two
power_from_digits : (d n : ℕ) → n ≤ d → count_ones n ≡ 1 → (k : ℕ) × (n ≡ 2 ^ k)
power_from_digits zero n small one = absurd (omega (arith, ones_le_self n))
power_from_digits (suc d) n small one =
    let step = ones_step n in
    elim (cases_lt 0 (n % 2)) [
      | inl odd ↦
          let half = zero_from_ones (n / 2) (omega (arith, mod-lt n {m = 2} (omega arith))) in
          (0, omega (arith, half, mod-lt n {m = 2} (omega arith)))
      | inr even ↦
          let half = power_from_digits d (n / 2) (omega (arith, ones_le_self n)) (omega arith) in
          (suc half.0, omega (arith, half.1, pow-suc 2 half.0))
    ]

digits_of_power : (k : ℕ) → count_ones (2 ^ k) ≡ 1
digits_of_power k =
    let same : 1 * 2 ^ k + 0 ≡ 2 ^ k = omega arith in
    let none = ones_le_self 0 in
    let single = ones_step 1 in
    ap count_ones (sym same) ∙ ones_cat k 1 0 (pow_pos k) ∙ omega arith

pub IsCost-above : (n r p : ℕ) → IsCost n r p → 1 < n
IsCost-above n r p h = omega (arith, pow_below 0 h.power h.above, h.is_power)

pub IsCost-is_power : (n r p : ℕ) → IsCost n r p → IsTrue (is_power_of_two n)
IsCost-is_power n r p h = eq-eqb (count_ones n) 1 (ap count_ones h.is_power ∙ digits_of_power h.power)

positive : (k n : ℕ) → 1 < n → n ≡ 2 ^ k → 0 < k
positive zero n above e = absurd (omega arith)
positive (suc k) n above e = omega arith

pub IsCost-from : (n r p : ℕ) → IsTrue (is_power_of_two n) → 1 < n → 0 < r → 0 < p → IsCost n r p
IsCost-from n r p one above block parts =
    let power = power_from_digits n n (omega arith) (search (rules, tests)) in
    record { power = power.0; above = positive power.0 n above power.1; is_power = power.1; block = block; parts = parts }

-- half of a cost is a number
cost_even : (n r p : ℕ) → IsCost n r p → n % 2 ≡ 0
cost_even n r p h =
    let next : h.power ≡ suc (h.power - 1) = omega (arith, h.above) in
    let value : n ≡ 2 ^ suc (h.power - 1) = h.is_power ∙ ap (λ (k : ℕ). 2 ^ k) next in
    omega (arith, value, pow-suc 2 (h.power - 1))

-- a cost up to 2 ^ 32 divides it
cost_divides : (n r p : ℕ) → IsCost n r p → n ≤ 2 ^ 32 → 2 ^ 32 % n ≡ 0
cost_divides n r p h small = elim (cases_lt 32 h.power) [
  | inl above ↦ absurd (omega (arith, pow_below 32 h.power above, h.is_power))
  | inr within ↦
      let sum : 32 ≡ 32 - h.power + h.power = omega arith in
      let whole : 2 ^ 32 ≡ 2 ^ (32 - h.power) * n = ap (λ (k : ℕ). 2 ^ k) sum ∙ pow-add 2 (32 - h.power) h.power ∙ ap (λ (m : ℕ). 2 ^ (32 - h.power) * m) (sym h.is_power) in
      ap (λ (m : ℕ). m % n) whole ∙ mul-mod_left (2 ^ (32 - h.power)) n
]

-- a table that isn't too large has fewer rows than 2 ^ 32
cost_small : (n r p : ℕ) → IsCost n r p → (IsTooLarge n r p → ⊥) → n < 2 ^ 32
cost_small n r p h within = elim (cases_lt (2 ^ 30) (128 * n * r)) [
  | inl above ↦ absurd (within (inl above))
  | inr small ↦ let rows = mul-le-mul_left {m = 1} {n = r} n h.block in omega arith
]

pub AreSizes-from : (n r p : ℕ) → IsCost n r p → (IsTooLarge n r p → ⊥) → AreSizes n r
AreSizes-from n r p h within =
    let fits = cost_small n r p h within in
    record {
      rows = omega (arith, IsCost-above n r p h);
      even = cost_even n r p h;
      divides = cost_divides n r p h (omega arith);
      fits = fits;
      block = h.block;
    }
