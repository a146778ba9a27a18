use Rattle.std.proofs.Common.{◌≡◌, ◌*◌}
use Rattle.gcm_mode.specs.Ghash.{product_of}
use Rattle.gcm_mode.proofs.ghash.ProductTableSubkey.product.Given as goal

-- the product of the bits of the first i nibbles from the right
abbrev pub invariant-loop-i : goal.invariant-loop-i
invariant-loop-i l = l.sum ≡ product_of (4 * l.i) l.x l.self
