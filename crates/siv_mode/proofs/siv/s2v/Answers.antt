use Rattle.std.proofs.Common.{List, ℕ, sym, ap, ◌∙◌}
use Rattle.aes_block.specs.Bytes.{xor_bytes}
use Rattle.siv_mode.specs.Cmac.{cmac as cmac_of, doubled, padded}
use Rattle.siv_mode.specs.Siv.{ad_of, xored_end}
use Rattle.siv_mode.proofs.Sealing.{s2v_short, s2v_long}
use Rattle.siv_mode.proofs.siv.s2v.Goals as goal

pub returns-then-text-lt16 : goal.returns-then-text-lt16
returns-then-text-lt16 g c =
    let cipher = g.K.BlockKey.cipher c.args.key.now in
    c.short_s2v.ensures ∙ ap (λ (d : List ℕ). cmac_of cipher (xor_bytes (doubled d) (padded c.args.text.now))) c.mixed_ad-mixed.ensures
    ∙ sym (s2v_short cipher (ad_of c.args.ad) c.args.text.now c.if-text-lt16.true)

pub returns-else-text-lt16 : goal.returns-else-text-lt16
returns-else-text-lt16 g c =
    let cipher = g.K.BlockKey.cipher c.args.key.now in
    c.long_s2v.ensures ∙ ap (λ (d : List ℕ). cmac_of cipher (xored_end c.args.text.now d)) c.mixed_ad-mixed.ensures
    ∙ sym (s2v_long cipher (ad_of c.args.ad) c.args.text.now c.if-text-lt16.false)
