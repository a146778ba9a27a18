use Rattle.std.proofs.Common.{◌≡◌, ℕ, List, [], length, replicate, get_or, ap, subst, ◌∙◌}
use Rattle.aes_block.specs.Aes.{aes}
use Rattle.aes_block.specs.Bytes.{MakesBlocks, number_of}
use Rattle.aes_block.proofs.BlockNumbers.{from_be_bytes_block}
use Rattle.gcm_mode.proofs.gcm.subkey_of.Goals as goal

pub returns : goal.returns
returns c =
    let first : get_or c.encrypted_four.result 0 [] ≡ aes c.args.key.now (replicate 16 0) =
    ap (λ (blocks : List (List ℕ)). get_or blocks 0 []) c.encrypted_four.ensures in
    let blocks : MakesBlocks (aes c.args.key.now) = subst (λ (k : List ℕ). MakesBlocks (aes k)) c.key.ensures c.makes_blocks.ensures.cipher in
    c.from_be_bytes.ensures ∙ from_be_bytes_block _ (ap length first ∙ blocks.long (replicate 16 0)) ∙ ap number_of first
