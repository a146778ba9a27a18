use Rattle.std.proofs.Common.{arith}
use Rattle.gcm_mode.specs.Ghash.{zero_padded}
use Rattle.gcm_mode.proofs.Hashing.{hashed_behind_more, hashed_behind_none, IsHashed_padded}
use Rattle.gcm_mode.proofs.ghash.Subkey.absorb.Goals as goal

pub loop-i-init : goal.loop-i-init
loop-i-init g c = λ front known. hashed_behind_none (g.Self.Subkey.subkey c.args.self.now) front (zero_padded c.args.text.now) c.args.before known

pub loop-i-preserved : goal.loop-i-preserved
loop-i-preserved g c = λ front known.
    rw c.product-hash.ensures
    (hashed_behind_more (g.Self.Subkey.subkey c.args.self.now) front (zero_padded c.args.text.now) c.loop-i.i c.loop-i.hash c.block_number.result known.0 c.block_number.ensures
    (c.loop-i.invariant front known))

pub returns : goal.returns
returns g c = λ front known.
    IsHashed_padded (g.Self.Subkey.subkey c.args.self.now) front c.args.text.now c.loop-i.hash c.loop-i.i known.0 (omega arith) (c.loop-i.invariant front known)
