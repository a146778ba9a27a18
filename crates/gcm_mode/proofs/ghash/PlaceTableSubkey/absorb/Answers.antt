use Rattle.std.proofs.Common.{◌∙◌, sym, arith}
use Rattle.gcm_mode.specs.Ghash.{zero_padded}
use Rattle.gcm_mode.proofs.Hashing.{hashed_behind_more, IsHashed_padded}
use Rattle.gcm_mode.proofs.ghash.PlaceTableSubkey.absorb.Goals as goal

pub loop-i-preserved : goal.loop-i-preserved
loop-i-preserved c = λ front known.
    hashed_behind_more c.args.self.now front (zero_padded c.args.text.now) c.loop-i.i c.loop-i.hash c.block_number.result known.0 c.block_number.ensures
    (c.loop-i.invariant front known)
    ∙ sym c.product-hash.ensures

pub returns : goal.returns
returns c = λ front known.
    IsHashed_padded c.args.self.now front c.args.text.now c.loop-i.hash c.loop-i.i known.0 (omega arith) (c.loop-i.invariant front known)
