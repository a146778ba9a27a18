use Rattle.std.proofs.Common.{◌≡◌, ap, ◌∙◌}
use Rattle.aes_block.specs.Bytes.{xor_bytes}
use Rattle.siv_mode.specs.Cmac.{doubled, cmac as cmac_of}
use Rattle.siv_mode.proofs.siv.short_s2v.Goals as goal

pub returns : goal.returns
returns g c =
    let cipher = g.K.BlockKey.cipher c.args.key.now in
    let twice : c.double-last.result ≡ doubled c.args.mixed = c.double-last.ensures in
    c.cmac.ensures ∙ ap (cmac_of cipher) (c.xor_onto.ensures ∙ (λ i. xor_bytes (twice i) (c.pad.ensures i)))
