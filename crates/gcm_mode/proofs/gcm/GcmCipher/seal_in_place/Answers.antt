use Rattle.std.proofs.Common.{◌≡◌, ◌++◌, List, ℕ, rules, length, subst, ap, ◌∙◌}
use Rattle.aes_block.specs.Aes.{aes}
use Rattle.aes_block.specs.Bytes.{MakesBlocks}
use Rattle.gcm_mode.specs.Gcm.{gcm_sealed}
use Rattle.gcm_mode.proofs.Agreement.{length-gcm_tag, opened_from_sealed}
use Rattle.gcm_mode.proofs.gcm.GcmCipher.seal_in_place.Goals as goal

pub returns-clause-sealed : goal.returns-clause-sealed
unfolding gcm_sealed
returns-clause-sealed g c = search rules

pub returns-clause-opens : goal.returns-clause-opens
unfolding gcm_sealed
returns-clause-opens g c =
    let k : List ℕ = g.Self.GcmCipher.key c.args.self.now in
    let blocks : MakesBlocks (aes (g.Self.GcmCipher.key c.args.self.now)) = subst (λ k. MakesBlocks (aes k)) (c.key.ensures ∙ c.block_cipher.ensures) c.makes_blocks.ensures.cipher in
    let long : length c.tag_of.result ≡ 16 = ap length c.tag_of.ensures ∙ length-gcm_tag _ _ _ _ blocks in
    let joined : c.count_over.new.text ++ c.tag_of.result ≡ gcm_sealed (aes k) c.args.nonce.now c.args.ad.now c.args.buf.now = search rules in
    opened_from_sealed _ _ _ _ _ _ blocks long joined
