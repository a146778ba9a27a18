use Rattle.std.proofs.Common.{◌∙◌, ◌≤◌, List, ℕ, length, subst, sym, arith}
use Rattle.hmac_sha.proofs.Blocks.{key_block-long, key_block-short}
use Rattle.hmac_sha.proofs.key_block.Goals as goal

pub returns-then-key : goal.returns-then-key
returns-then-key g c = λ hash gives long.
    let digest = c.as_slice.ensures ∙ gives _ _ c.digest-digest.ensures in
    let short = subst (λ (bytes : List ℕ). length bytes ≤ g.row.BLOCK) (sym digest) (long c.args.key.now) in
    key_block-long hash _ c.args.key.now _ _ (omega arith) digest (c.padded.ensures short)

pub returns-else-key : goal.returns-else-key
returns-else-key g c = λ hash gives long. key_block-short hash _ c.args.key.now _ (omega arith) (c.padded-else-key.ensures (omega arith))
