use Rattle.std.proofs.Common.{ℕ, List, [], ap, get_or, ◌∙◌, arith}
use Rattle.aes_block.specs.Aes.{aes}
use Rattle.gcm_mode.proofs.Counting.{four_masks_are}
use Rattle.gcm_mode.proofs.stream.four_masks.Goals as goal

pub returns : goal.returns
returns c = λ j within.
    ap (λ (masks : List (List ℕ)). get_or masks j []) c.encrypted_four.ensures
    ∙ four_masks_are (aes c.args.key.now) c.args.nonce.now c.args.first (omega arith) c.counter_block.ensures c.counter_block-2.ensures
    c.counter_block-3.ensures c.counter_block-4.ensures j within
