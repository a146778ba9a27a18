use Rattle.aes_kernels.proofs.Vectors.{look_up-is, look_up_ok}
use Rattle.aes_kernels.proofs.nibbles.look_up.Goals as goal

pub swizzle : goal.swizzle
swizzle c = look_up_ok c.args.x c.fits-x

pub returns : goal.returns
returns c = look_up-is c.args.table c.args.x c.fits-x.0
