use Rattle.std.proofs.lemmas.Nat.{and_mask}
use Rattle.gcm_mode.proofs.Products.{times_x_by_product}
use Rattle.gcm_mode.proofs.ghash.times_x.Goals as goal

pub returns : goal.returns
returns c = times_x_by_product c.args.v _ (and_mask c.args.v 1)
