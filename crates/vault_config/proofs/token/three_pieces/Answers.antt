use Rattle.vault_config.proofs.Parts.{three_are, four_are_none, take-text}
use Rattle.vault_config.proofs.token.three_pieces.Goals as goal

pub returns-in-Some : goal.returns-in-Some
returns-in-Some c =
    four_are_none c.args.bytes.now _ _ _ _ _ c.in-Some.field-0.1.now c.in_ok-header.ensures.0 c.in_ok-payload.ensures.0 c.in-Some.ensures.0

pub returns-in-None : goal.returns-in-None
returns-in-None c =
    let bytes = c.args.bytes.now in
    let header = c.in_ok-header.header.now in
    let rest = c.in_ok-header.rest.now in
    let payload = c.in_ok-payload.payload.now in
    let signature = c.in_ok-payload.signature.now in (
      three_are bytes header rest payload signature c.in_ok-header.ensures.0 c.in_ok-payload.ensures.0 c.in-None.ensures,
      take-text bytes header rest payload signature c.in_ok-header.ensures.1 c.in_ok-payload.ensures.1,
    )
