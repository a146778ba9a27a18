use Rattle.std.proofs.Common.{◌∙◌}
use Rattle.siv_mode.specs.Siv.{counted}
use Rattle.siv_mode.proofs.siv.decrypt.Goals as goal

pub returns-clause-tag : goal.returns-clause-tag
returns-clause-tag g c = c.copy_from_slice.ensures.after ∙ c.split_at.ensures.front

pub returns-clause-text : goal.returns-clause-text
returns-clause-text g c =
    let tag = c.copy_from_slice.ensures.after ∙ c.split_at.ensures.front in
    let text = c.copy_from_slice-2.ensures.after ∙ c.split_at.ensures.back in
    c.apply_keystream.ensures ∙ (λ i. counted (g.K.BlockKey.cipher c.args.ctr.now) (tag i) (text i))
