use Rattle.std.proofs.Common.{arith}
use Rattle.sha2.specs.Sha256.{sha256}
use Rattle.sha2.proofs.Facts256.{length-sha256}
use Rattle.hmac_sha.proofs.hmac256_of_pieces.Goals as goal

pub returns : goal.returns
returns c = c.hmac.ensures sha256 (λ text digest is. is) (λ text. omega (arith, length-sha256 text))
