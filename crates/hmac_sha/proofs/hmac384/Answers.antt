use Rattle.std.proofs.Common.{◌∙◌, ap, arith}
use Rattle.std.proofs.lemmas.List.{append-nil}
use Rattle.sha2.specs.Sha512.{sha384}
use Rattle.sha2.proofs.Facts512.{length-sha384}
use Rattle.hmac_sha.specs.Hmac.{hmac}
use Rattle.hmac_sha.proofs.hmac384.Goals as goal

pub returns : goal.returns
returns c = c.hmac.ensures sha384 (λ text digest is. is) (λ text. omega (arith, length-sha384 text)) ∙ ap (hmac sha384 128 c.args.key.now) (append-nil c.args.text.now)
