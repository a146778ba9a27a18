-- Which costs scrypt takes.
use Rattle.std.proofs.Common.{◌≡◌, ℕ, ◌*◌, ◌^◌, ◌<◌, ◌≤◌, Bool, true, false, ◌&&◌, nat_lt, nat_le, inl, inr, refl, arith}
use Rattle.std.proofs.Math.Nat.{mul-le-mul_left}
use Rattle.std.proofs.lemmas.Bool.{cases_lt, cases_Bool, false_from_ne_true, lt-ltb, le-leb, ltb-true, leb-true}
use Rattle.std.specs.Int.{is_power_of_two}
use Rattle.scrypt_kdf.specs.Scrypt.{IsCost, IsTooLarge}
use Rattle.scrypt_kdf.proofs.Costs.{IsCost-above, IsCost-from, IsCost-is_power}
use Rattle.masterkey_file.specs.KeyFile.{is_good_cost}

-- a cost that isn't refused is one
IsCost-unrefused : (n r : ℕ) → ((IsCost n r 1 → ⊥) → ⊥) → IsCost n r 1
IsCost-unrefused n r h = elim (cases_Bool (is_power_of_two n)) [
  | inl one ↦ elim (cases_lt 1 n) [
    | inl above ↦ elim (cases_lt 0 r) [
      | inl block ↦ IsCost-from n r 1 (rw one refl) above block (omega arith)
      | inr none ↦ absurd (h (λ (cost : IsCost n r 1). omega (arith, cost.block)))
    ]
    | inr below ↦ absurd (h (λ (cost : IsCost n r 1). omega (arith, IsCost-above n r 1 cost)))
  ]
  | inr other ↦ absurd (h (λ (cost : IsCost n r 1). let power = rw other at (IsCost-is_power n r 1 cost) in cc))
]

all_four : (a b c d : Bool) → a ≡ true → b ≡ true → c ≡ true → d ≡ true → (a && b && c && d) ≡ true
all_four a b c d p q r s = rw (p, q, r, s) refl

each_of_four : (a b c d : Bool) → (a && b && c && d) ≡ true → (a ≡ true) × (b ≡ true) × (c ≡ true) × (d ≡ true)
each_of_four true true true true h = (refl, refl, refl, refl)
each_of_four true true true false h = cc
each_of_four true true false d h = cc
each_of_four true false c d h = cc
each_of_four false b c d h = cc

-- a table that isn't too large has at most 2^30 bytes
table_fits : (n r : ℕ) → (IsTooLarge n r 1 → ⊥) → 128 * n * r ≤ 2 ^ 30
table_fits n r fits = elim (cases_lt (2 ^ 30) (128 * n * r)) [ inl large ↦ absurd (fits (inl large)) | inr small ↦ small ]

-- of a cost above 1 the table is longer than the parts
table_above : (n r : ℕ) → 1 < n → IsTooLarge n r 1 → 2 ^ 30 < 128 * n * r
table_above n r above large = elim large [
  | inl table ↦ table
  | inr parts ↦ let longer : 128 * r * 1 ≤ 128 * r * n = mul-le-mul_left (128 * r) (omega arith) in omega arith
]

-- a cost that scrypt takes is good
pub is_good_cost-unrefused : (n r : ℕ) → ((IsCost n r 1 → ⊥) → ⊥) → ((IsCost n r 1 × IsTooLarge n r 1) → ⊥) → is_good_cost n r ≡ true
unfolding is_good_cost
is_good_cost-unrefused n r cost large =
    let is = IsCost-unrefused n r cost in
    all_four _ _ _ _ (IsCost-is_power n r 1 is) (lt-ltb 1 n (IsCost-above n r 1 is)) (lt-ltb 0 r is.block)
    (le-leb (128 * n * r) (2 ^ 30) (table_fits n r (λ too_large. large (is, too_large))))

-- what is no cost isn't good
pub is_good_cost-bad : (n r : ℕ) → (IsCost n r 1 → ⊥) → is_good_cost n r ≡ false
unfolding is_good_cost
is_good_cost-bad n r not = false_from_ne_true _ (λ good.
    let p = each_of_four (is_power_of_two n) (nat_lt 1 n) (nat_lt 0 r) (nat_le (128 * n * r) (2 ^ 30)) good in
    not (IsCost-from n r 1 p.0 (ltb-true 1 n p.1) (ltb-true 0 r p.2) (omega arith)))

-- a cost whose table is too large isn't good
pub is_good_cost-large : (n r : ℕ) → IsCost n r 1 × IsTooLarge n r 1 → is_good_cost n r ≡ false
unfolding is_good_cost
is_good_cost-large n r large = false_from_ne_true _ (λ good.
    let p = each_of_four (is_power_of_two n) (nat_lt 1 n) (nat_lt 0 r) (nat_le (128 * n * r) (2 ^ 30)) good in
    let above = table_above n r (ltb-true 1 n p.1) large.1 in
    let within : 128 * n * r ≤ 2 ^ 30 = leb-true (128 * n * r) (2 ^ 30) p.3 in
    omega arith)
