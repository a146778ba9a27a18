use Rattle.std.proofs.Common.{◌≡◌, ◌/◌, length, refl, ap, ◌∙◌, add-one, arith}
use Rattle.std.specs.Int.{w128, to_be_bytes}
use Rattle.aes_block.specs.Bytes.{bytes_of}
use Rattle.gcm_mode.specs.Ghash.{ghash, hashed}
use Rattle.aes_block.proofs.BlockNumbers.{to_be_bytes_block}
use Rattle.model_contents.proofs.hash.ghash.Goals as goal

pub loop-i-init : goal.loop-i-init
unfolding hashed
loop-i-init c = refl

pub loop-i-preserved : goal.loop-i-preserved
unfolding hashed
loop-i-preserved c =
    rw (add-one, c.block_product-hash.ensures, c.block_number.ensures, c.loop-i.invariant) refl

pub returns : goal.returns
unfolding ghash
returns c =
    let all : c.loop-i.i ≡ length c.args.text.now / 16 = omega arith in
    let bytes : c.to_be_bytes.result ≡ to_be_bytes w128 c.loop-i.hash = c.to_be_bytes.ensures in
    bytes ∙ to_be_bytes_block c.loop-i.hash ∙ ap (bytes_of 16) (c.loop-i.invariant ∙ ap (hashed c.args.h c.args.text.now) all)
