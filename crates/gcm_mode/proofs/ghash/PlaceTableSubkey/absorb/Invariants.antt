use Rattle.std.proofs.Common.{◌≡◌, ℕ, ◌+◌, ◌/◌, List, ◌++◌, length}
use Rattle.gcm_mode.specs.Ghash.{hashed, zero_padded, IsHashed}
use Rattle.gcm_mode.proofs.ghash.PlaceTableSubkey.absorb.Given as goal

-- the first i blocks of the padded text are hashed after what was hashed before
abbrev pub invariant-loop-i : goal.invariant-loop-i
invariant-loop-i l =
    (front : List ℕ) → IsHashed l.self front l.fn.before
    → hashed l.self (front ++ zero_padded l.text) (length front / 16 + l.i) ≡ l.hash
