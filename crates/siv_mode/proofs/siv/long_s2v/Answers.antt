use Rattle.std.proofs.Common.{[], ◌++◌, ap, ◌∙◌}
use Rattle.aes_block.specs.Bytes.{xor_bytes}
use Rattle.siv_mode.specs.Cmac.{cmac as cmac_of}
use Rattle.siv_mode.proofs.siv.long_s2v.Goals as goal

pub returns : goal.returns
returns g c =
    let cipher = g.K.BlockKey.cipher c.args.key.now in
    let end = c.xor_onto.ensures ∙ ap (λ t. xor_bytes t c.args.mixed) (c.copy_from_slice.ensures.after ∙ c.split_at.ensures.back) in
    c.finish.ensures _ (c.absorb-2.ensures _ (c.absorb.ensures [] (c.new-mac.ensures cipher))) ∙ ap (cmac_of cipher) (λ i. c.split_at.ensures.front i ++ end i)
