use Rattle.std.proofs.Common.{◌≡◌, ℕ, ◌<◌, get_or}
use Rattle.gcm_mode.specs.Ghash.{product_of}
use Rattle.gcm_mode.proofs.ghash.ProductTable.new.Given as goal

-- the first entries are the products
abbrev pub invariant-loop-nibble : goal.invariant-loop-nibble
invariant-loop-nibble l = (k : ℕ) → k < l.nibble → get_or l.entry-items k 0 ≡ product_of 4 k l.subkey
