use Rattle.aes_kernels.proofs.Swaps.{lower4-at, upper4-at}
use Rattle.aes_kernels.proofs.planes.swap4.Goals as goal

pub returns-clause-upper : goal.returns-clause-upper
returns-clause-upper c = λ lane within. upper4-at c.args.a c.args.b lane c.fits-a.0 c.fits-b.0 within

pub returns-clause-lower : goal.returns-clause-lower
returns-clause-lower c = λ lane within. lower4-at c.args.a c.args.b lane c.fits-a.0 c.fits-b.0 within
