use Rattle.aes_kernels.proofs.Swaps.{lower2-at, upper2-at}
use Rattle.aes_kernels.proofs.planes.swap2.Goals as goal

pub returns-clause-upper : goal.returns-clause-upper
returns-clause-upper c = λ lane within. upper2-at c.args.a c.args.b lane c.fits-a.0 c.fits-b.0 within

pub returns-clause-lower : goal.returns-clause-lower
returns-clause-lower c = λ lane within. lower2-at c.args.a c.args.b lane c.fits-a.0 c.fits-b.0 within
