use Rattle.std.proofs.Common.{sym, ap, ◌∙◌}
use Rattle.aes_block.specs.Bytes.{xor_bytes}
use Rattle.siv_mode.specs.Cmac.{doubled}
use Rattle.siv_mode.specs.Siv.{ad_of, mixed}
use Rattle.siv_mode.proofs.siv.mixed_ad.Goals as goal

pub returns-in-Some : goal.returns-in-Some
returns-in-Some g c =
    let cipher = g.K.BlockKey.cipher c.args.key.now in
    c.xor_onto.ensures ∙ (λ i. xor_bytes ((c.double-mixed.ensures ∙ ap doubled c.cmac-start.ensures) i) (c.cmac.ensures i))
    ∙ ap (λ ad. mixed cipher (ad_of ad)) (sym c.in-Some.is)
