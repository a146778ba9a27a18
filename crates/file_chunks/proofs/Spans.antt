-- The chunks that a slice meets.
use Rattle.std.proofs.Common.{◌≡◌, ℕ, ◌+◌, ◌-◌, ◌*◌, ◌/◌, ◌≤◌, ◌<◌, inl, inr, arith}
use Rattle.std.specs.Prelude.{◌↔◌}
use Rattle.std.proofs.lemmas.Bool.{cases_lt}

-- chunk k has a byte of a slice that isn't empty if and only if it is between the first and the last
pub met_by : (at count k : ℕ) → 0 < count
    → ((at / 32768 ≤ k) × (k < at / 32768 + ((at + count - 1) / 32768 - at / 32768 + 1))) ↔ ((p : ℕ) × (at ≤ p) × (p < at + count) × (p / 32768 ≡ k))
met_by at count k some = (
  (λ met.
      let low : at / 32768 ≤ k = met.0 in
      let high : k < at / 32768 + ((at + count - 1) / 32768 - at / 32768 + 1) = met.1 in
      elim (cases_lt (at / 32768) k) [
        | inl above ↦ (32768 * k, (omega arith), (omega arith), (omega arith))
        | inr same ↦ (at, (omega arith), (omega arith), (omega arith))
      ]),
  (λ byte.
      let p : ℕ = byte.0 in
      let from : at ≤ p = byte.1 in
      let below : p < at + count = byte.2 in
      let is : p / 32768 ≡ k = byte.3 in
      (omega arith, omega arith)),
)
