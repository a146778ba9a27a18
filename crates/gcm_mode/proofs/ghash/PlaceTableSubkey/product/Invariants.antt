use Rattle.std.proofs.Common.{◌≡◌}
use Rattle.gcm_mode.specs.Ghash.{product_of}
use Rattle.gcm_mode.proofs.Products.{with_rest}
use Rattle.gcm_mode.proofs.ghash.PlaceTableSubkey.product.Given as goal

-- the sum so far and the products of the bits that are left are the product
abbrev pub invariant-loop-i : goal.invariant-loop-i
invariant-loop-i l = with_rest l.self l.high l.low l.sum l.i ≡ product_of 128 l.x l.self
