use Rattle.std.proofs.Common.{◌∙◌, ap, arith}
use Rattle.std.proofs.lemmas.List.{append-nil}
use Rattle.sha2.specs.Sha512.{sha512}
use Rattle.sha2.proofs.Facts512.{length-sha512}
use Rattle.hmac_sha.specs.Hmac.{hmac}
use Rattle.hmac_sha.proofs.hmac512.Goals as goal

pub returns : goal.returns
returns c = c.hmac.ensures sha512 (λ text digest is. is) (λ text. omega (arith, length-sha512 text)) ∙ ap (hmac sha512 128 c.args.key.now) (append-nil c.args.text.now)
