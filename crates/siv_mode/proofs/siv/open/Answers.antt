use Rattle.std.proofs.Common.{ℕ, refl, sym, ap, ◌∙◌, true≢false, replicate}
use Rattle.siv_mode.proofs.Sealing.{accepts, refuses, opens_alone, never_sealed, sealed_is}
use Rattle.siv_mode.proofs.siv.open.Goals as goal

pub returns-then-blocks_equal-clause-opened : goal.returns-then-blocks_equal-clause-opened
returns-then-blocks_equal-clause-opened g c =
    accepts _ _ _ _ _ _ _ c.decrypt-tag.ensures.text c.decrypt-tag.ensures.tag c.s2v.ensures (c.blocks_equal.ensures.0 c.if-blocks_equal.true)

pub returns-then-blocks_equal-clause-closed : goal.returns-then-blocks_equal-clause-closed
returns-then-blocks_equal-clause-closed g c = tt

pub returns-then-blocks_equal-clause-refused : goal.returns-then-blocks_equal-clause-refused
returns-then-blocks_equal-clause-refused g c = tt

pub returns-else-blocks_equal-clause-closed : goal.returns-else-blocks_equal-clause-closed
returns-else-blocks_equal-clause-closed g c =
    refuses _ _ _ _ _ _ _ c.decrypt-tag.ensures.text c.decrypt-tag.ensures.tag c.s2v.ensures (λ same. true≢false (sym (c.blocks_equal.ensures.1 same) ∙ c.if-blocks_equal.false))

pub returns-else-blocks_equal-clause-refused : goal.returns-else-blocks_equal-clause-refused
returns-else-blocks_equal-clause-refused g c = c.fill.ensures.after (λ y same. same) ∙ ap (λ (n : ℕ). replicate n 0) c.decrypt-tag.auto.out

pub returns-then-blocks_equal-clause-exact : goal.returns-then-blocks_equal-clause-exact
returns-then-blocks_equal-clause-exact g c =
    sealed_is _ _ _ _ _ c.makes_blocks-2.ensures.cipher
    (accepts _ _ _ _ _ _ _ c.decrypt-tag.ensures.text c.decrypt-tag.ensures.tag c.s2v.ensures (c.blocks_equal.ensures.0 c.if-blocks_equal.true))

pub returns-then-blocks_equal-clause-only : goal.returns-then-blocks_equal-clause-only
returns-then-blocks_equal-clause-only g c = λ other is. (
  refl,
  opens_alone _ _ _ _ _ other c.makes_blocks.ensures.cipher c.makes_blocks-2.ensures.cipher
      (accepts _ _ _ _ _ _ _ c.decrypt-tag.ensures.text c.decrypt-tag.ensures.tag c.s2v.ensures (c.blocks_equal.ensures.0 c.if-blocks_equal.true)) is,
)

pub returns-else-blocks_equal-clause-only : goal.returns-else-blocks_equal-clause-only
returns-else-blocks_equal-clause-only g c = λ other is.
    absurd (never_sealed _ _ _ _ other c.makes_blocks.ensures.cipher c.makes_blocks-2.ensures.cipher
    (refuses _ _ _ _ _ _ _ c.decrypt-tag.ensures.text c.decrypt-tag.ensures.tag c.s2v.ensures (λ same. true≢false (sym (c.blocks_equal.ensures.1 same) ∙ c.if-blocks_equal.false))) is)
