use Rattle.std.proofs.Common.{◌≡◌, ℕ, ◌<◌, length, get_or}
use Rattle.gcm_mode.specs.Ghash.{place_entry}
use Rattle.gcm_mode.proofs.ghash.PlaceTable.new.Given as goal

-- the first entries are the products with the bits at the leftmost place
abbrev pub invariant-loop-nibble : goal.invariant-loop-nibble
invariant-loop-nibble l = (length l.table ≡ 512) × ((k : ℕ) → k < l.nibble → get_or l.table k 0 ≡ place_entry l.subkey k)

-- the first entries are the table's
abbrev pub invariant-loop-i : goal.invariant-loop-i
invariant-loop-i l = (length l.table ≡ 512) × ((k : ℕ) → k < l.i → get_or l.table k 0 ≡ place_entry l.subkey k)
