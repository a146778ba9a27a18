use Rattle.std.proofs.Common.{◌++◌, ◌∙◌}
use Rattle.siv_mode.specs.Siv.{counted, siv_sealed}
use Rattle.siv_mode.proofs.siv.seal.Goals as goal

pub returns : goal.returns
unfolding siv_sealed
returns g c =
    let tag = c.copy_from_slice.ensures.after ∙ c.s2v-tag.ensures in
    let text = c.apply_keystream.ensures ∙ (λ i. counted (g.K.BlockKey.cipher c.args.ctr.now) (c.s2v-tag.ensures i) (c.copy_from_slice-2.ensures.after i)) in
    λ i. tag i ++ text i
