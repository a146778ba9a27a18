-- A block as a number, and the number doubled.
use Rattle.std.proofs.Common.{◌≡◌, ℕ, ◌+◌, ◌*◌, ◌/◌, ◌%◌, ◌^◌, ◌<◌, ◌≤◌, List, length, bit_xor, nat_lt, if◌then◌else◌, inl, inr, ap, ◌∙◌, arith}
use Rattle.std.specs.Int.{w128, to_be_bytes, from_be_bytes}
use lib.Bits.{xor_zero_r}
use Rattle.std.proofs.lemmas.Bool.{cases_lt}
use Rattle.std.proofs.lemmas.Bool.Decides.{nat_tests}
use Rattle.std.proofs.lemmas.Nat.{xor_block}
use Rattle.aes_block.specs.Bytes.{bytes_of}
use Rattle.aes_block.proofs.BlockNumbers.{from_be_bytes_block, to_be_bytes_block}
use Rattle.siv_mode.specs.Cmac.{doubled}

-- what the definition doubles a number to
abbrev twice : ℕ → ℕ
twice n = if nat_lt n (2 ^ 127) then 2 * n else bit_xor (2 * n) (2 ^ 128 + 0x87)

twice_low : (n : ℕ) → n < 2 ^ 127 → n * 2 % 2 ^ 128 ≡ twice n
twice_low n low = grind (arith, nat_tests)

alone : (n : ℕ) → 0 + n ≡ n
alone n = omega arith

twice_high : (n m : ℕ) → 2 ^ 127 ≤ n → 2 * n ≡ 1 * 2 ^ 128 + m → m < 2 ^ 128 → bit_xor m 0x87 ≡ twice n
twice_high n m high is small =
    let e : bit_xor (2 * n) (2 ^ 128 + 0x87) ≡ bit_xor m 0x87 = ap (λ k. bit_xor k (2 ^ 128 + 0x87)) is ∙ xor_block 128 1 1 m 0x87 small (omega arith) ∙ alone (bit_xor m 0x87) in
    grind (arith, nat_tests)

-- the top bit chooses whether the constant is xored in
twice_by_top_bit : (n : ℕ) → n < 2 ^ 128 → bit_xor (n * 2 % 2 ^ 128) (n / 2 ^ 127 * 0x87) ≡ twice n
twice_by_top_bit n small =
    elim (cases_lt n (2 ^ 127)) [
      | inl low ↦ (let none : n / 2 ^ 127 * 0x87 ≡ 0 = omega arith in
          ap (bit_xor (n * 2 % 2 ^ 128)) none ∙ xor_zero_r (n * 2 % 2 ^ 128) ∙ twice_low n low)
      | inr high ↦ (let one : n / 2 ^ 127 * 0x87 ≡ 0x87 = omega arith in
          ap (bit_xor (n * 2 % 2 ^ 128)) one ∙ twice_high n (n * 2 % 2 ^ 128) high (omega arith) (omega arith))
    ]

pub doubled_is : (bs : List ℕ) (n : ℕ) → length bs ≡ 16 → n ≡ from_be_bytes w128 bs → n < 2 ^ 128
    → to_be_bytes w128 (bit_xor (n * 2 % 2 ^ 128) (n / 2 ^ 127 * 0x87)) ≡ doubled bs
unfolding doubled
doubled_is bs n long is small =
    to_be_bytes_block (bit_xor (n * 2 % 2 ^ 128) (n / 2 ^ 127 * 0x87)) ∙ ap (bytes_of 16) (twice_by_top_bit n small ∙ ap twice (is ∙ from_be_bytes_block bs long))
