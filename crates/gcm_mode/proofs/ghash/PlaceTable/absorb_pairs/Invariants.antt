use Rattle.std.proofs.Common.{◌≡◌, ℕ, ◌+◌, ◌*◌, ◌/◌, List, ◌++◌, length}
use Rattle.std.specs.Int.Bits.{bit_xor}
use Rattle.gcm_mode.specs.Ghash.{hashed, product, zero_padded, IsHashed}
use Rattle.gcm_mode.proofs.ghash.PlaceTable.absorb_pairs.Given as goal

-- the first 2 * i blocks of the padded text are hashed after what was hashed before, in two sums
abbrev pub invariant-loop-i : goal.invariant-loop-i
invariant-loop-i l =
    (front : List ℕ) → IsHashed l.self front l.fn.before
    → hashed l.self (front ++ zero_padded l.text) (length front / 16 + 2 * l.i) ≡ bit_xor l.even (product l.odd l.self)
