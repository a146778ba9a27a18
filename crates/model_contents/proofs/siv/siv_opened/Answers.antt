use Rattle.std.proofs.Common.{length, sym, ap, ◌∙◌, arith}
use Rattle.std.proofs.lemmas.Slice.{between_to_end}
use Rattle.aes_block.specs.Aes.{aes}
use Rattle.siv_mode.specs.Siv.{ad_of, s2v}
use Rattle.model_contents.proofs.SivLemmas.{siv_opened-same, siv_opened-other}
use Rattle.model_contents.proofs.siv.siv_opened.Goals as goal

pub returns-then-eq : goal.returns-then-eq
returns-then-eq c =
    let sealed = c.args.sealed.now in
    let mac = aes c.args.mac.now in
    let ad = ad_of c.args.ad in
    siv_opened-same mac (aes c.args.ctr.now) ad sealed c.block_at-tag.result _ c.in_ok-text.text.items c.in_ok-s2v.field-0 c.block_at-tag.ensures
    (between_to_end sealed 16 (length sealed) (omega arith)) c.in_ok-text.ensures (c.in_ok-s2v.ensures ∙ ap (s2v mac ad) c.deref.ensures.value) (sym c.eq.ensures ∙ c.if-eq.true)

pub returns-else-eq : goal.returns-else-eq
returns-else-eq c =
    let sealed = c.args.sealed.now in
    let mac = aes c.args.mac.now in
    let ad = ad_of c.args.ad in
    siv_opened-other mac (aes c.args.ctr.now) ad sealed c.block_at-tag.result _ c.in_ok-text.text.items c.in_ok-s2v.field-0 c.block_at-tag.ensures
    (between_to_end sealed 16 (length sealed) (omega arith)) c.in_ok-text.ensures (c.in_ok-s2v.ensures ∙ ap (s2v mac ad) c.deref.ensures.value) (sym c.eq.ensures ∙ c.if-eq.false)
