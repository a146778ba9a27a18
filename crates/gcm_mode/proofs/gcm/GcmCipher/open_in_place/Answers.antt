use Rattle.std.proofs.Common.{◌≡◌, ℕ, List, Some, ap, sym, subst, refl, ◌∙◌}
use Rattle.std.proofs.lemmas.Bool.{both_ways}
use Rattle.aes_block.specs.Aes.{aes}
use Rattle.aes_block.specs.Bytes.{MakesBlocks}
use Rattle.gcm_mode.specs.Gcm.{counted, gcm_tag}
use Rattle.gcm_mode.proofs.Agreement.{gcm_opened_other, gcm_opened_same, opened_never, opened_only, sealed_from_opened}
use Rattle.gcm_mode.proofs.gcm.GcmCipher.open_in_place.Goals as goal

pub returns-then-not-blocks_equal-clause-closed : goal.returns-then-not-blocks_equal-clause-closed
returns-then-not-blocks_equal-clause-closed g c =
    gcm_opened_other (aes (g.Self.GcmCipher.key c.args.self.now)) c.args.nonce.now c.args.ad.now c.args.buf.now c.args.tag.now
    (λ same. both_ways c.blocks_equal.result c.if-not-blocks_equal.true (c.blocks_equal.ensures.1 (c.tag_of-expected.ensures ∙ same)))

pub returns-then-not-blocks_equal-clause-only : goal.returns-then-not-blocks_equal-clause-only
returns-then-not-blocks_equal-clause-only g c = λ text sealed.
    let blocks : MakesBlocks (aes (g.Self.GcmCipher.key c.args.self.now)) =
    subst (λ (k : List ℕ). MakesBlocks (aes k)) (c.key.ensures ∙ c.block_cipher.ensures) c.makes_blocks.ensures.cipher in
    absurd (opened_never (aes (g.Self.GcmCipher.key c.args.self.now)) c.args.nonce.now c.args.ad.now c.args.buf.now c.args.tag.now text blocks c.told-tag
    (gcm_opened_other (aes (g.Self.GcmCipher.key c.args.self.now)) c.args.nonce.now c.args.ad.now c.args.buf.now c.args.tag.now
    (λ same. both_ways c.blocks_equal.result c.if-not-blocks_equal.true (c.blocks_equal.ensures.1 (c.tag_of-expected.ensures ∙ same))))
    sealed)

pub returns-clause-opened : goal.returns-clause-opened
returns-clause-opened g c =
    let same : gcm_tag (aes (g.Self.GcmCipher.key c.args.self.now)) c.args.nonce.now c.args.ad.now c.args.buf.now ≡ c.args.tag.now =
    sym c.tag_of-expected.ensures ∙ c.blocks_equal.ensures.0 c.if-not-blocks_equal.false in
    let decrypted : c.count_over.new.text ≡ counted (aes (g.Self.GcmCipher.key c.args.self.now)) c.args.nonce.now c.args.buf.now =
    c.count_over.ensures ∙ ap (λ (key : List ℕ). counted (aes key) c.args.nonce.now c.args.buf.now) c.block_cipher-2.ensures in
    gcm_opened_same (aes (g.Self.GcmCipher.key c.args.self.now)) c.args.nonce.now c.args.ad.now c.args.buf.now c.args.tag.now same
    ∙ ap Some (sym {b = counted (aes (g.Self.GcmCipher.key c.args.self.now)) c.args.nonce.now c.args.buf.now} decrypted)

pub returns-clause-exact : goal.returns-clause-exact
returns-clause-exact g c =
    let blocks : MakesBlocks (aes (g.Self.GcmCipher.key c.args.self.now)) =
    subst (λ (k : List ℕ). MakesBlocks (aes k)) (c.key.ensures ∙ c.block_cipher.ensures) c.makes_blocks.ensures.cipher in
    sealed_from_opened (aes (g.Self.GcmCipher.key c.args.self.now)) c.args.nonce.now c.args.ad.now c.args.buf.now c.args.tag.now c.count_over.new.text blocks
    (returns-clause-opened g c)

pub returns-clause-only : goal.returns-clause-only
returns-clause-only g c = λ text sealed.
    let blocks : MakesBlocks (aes (g.Self.GcmCipher.key c.args.self.now)) =
    subst (λ (k : List ℕ). MakesBlocks (aes k)) (c.key.ensures ∙ c.block_cipher.ensures) c.makes_blocks.ensures.cipher in (
      refl,
      opened_only (aes (g.Self.GcmCipher.key c.args.self.now)) c.args.nonce.now c.args.ad.now c.args.buf.now c.args.tag.now c.count_over.new.text text blocks c.told-tag
          (returns-clause-opened g c) sealed,
    )
