use Rattle.std.proofs.Common.{List, ℕ, subst, ap, ◌∙◌}
use Rattle.aes_block.specs.Aes.{aes}
use Rattle.aes_block.specs.Bytes.{MakesBlocks}
use Rattle.siv_mode.specs.Siv.{siv_opened}
use Rattle.siv_mode.proofs.Sealing.{opens, sealed_is}
use Rattle.siv_mode.proofs.Shapes.{length-siv_sealed, AreBytes-siv_sealed}
use Rattle.siv_mode.proofs.laws.opening_is_exact.Goals as goal

pub returns-clause-long : goal.returns-clause-long
returns-clause-long c =
    let mac = subst (λ (k : List ℕ). MakesBlocks (aes k)) c.mac_key.ensures c.makes_blocks.ensures.cipher in
    let ctr = subst (λ (k : List ℕ). MakesBlocks (aes k)) c.encryption_key.ensures c.makes_blocks-2.ensures.cipher in
    λ ad text. length-siv_sealed _ _ ad text mac ctr

pub returns-clause-bytes : goal.returns-clause-bytes
returns-clause-bytes c =
    let mac = subst (λ (k : List ℕ). MakesBlocks (aes k)) c.mac_key.ensures c.makes_blocks.ensures.cipher in
    let ctr = subst (λ (k : List ℕ). MakesBlocks (aes k)) c.encryption_key.ensures c.makes_blocks-2.ensures.cipher in
    λ ad text are. AreBytes-siv_sealed _ _ ad text mac ctr are

pub returns-clause-exact : goal.returns-clause-exact
returns-clause-exact c =
    let mac = subst (λ (k : List ℕ). MakesBlocks (aes k)) c.mac_key.ensures c.makes_blocks.ensures.cipher in
    let ctr = subst (λ (k : List ℕ). MakesBlocks (aes k)) c.encryption_key.ensures c.makes_blocks-2.ensures.cipher in
    λ ad sealed text. (sealed_is _ _ ad sealed text ctr, λ is. ap (siv_opened _ _ ad) is ∙ opens _ _ ad text mac ctr)
