use Rattle.std.proofs.Common.{◌≡◌, ◌-◌}
use Rattle.std.specs.Int.Bits.{bit_xor}
use Rattle.gcm_mode.specs.Ghash.{product_of}
use Rattle.model_contents.proofs.hash.block_product.Given as goal

-- the sum so far and the product of the bits that are left are the product
abbrev pub invariant-loop-i : goal.invariant-loop-i
invariant-loop-i l = bit_xor l.sum (product_of (128 - l.i) l.x l.power) ≡ product_of 128 l.x l.y
