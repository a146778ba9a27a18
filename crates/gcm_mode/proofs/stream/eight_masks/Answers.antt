use Rattle.std.proofs.Common.{ℕ, List, [], ap, get_or, ◌∙◌, arith}
use Rattle.aes_block.specs.Aes.{aes}
use Rattle.gcm_mode.proofs.Counting.{eight_masks_are}
use Rattle.gcm_mode.proofs.stream.eight_masks.Goals as goal

pub returns : goal.returns
returns c = λ key are j within.
    ap (λ (masks : List (List ℕ)). get_or masks j []) (c.encrypted_eight.ensures key are)
    ∙ eight_masks_are (aes key) c.args.nonce.now c.args.first (omega arith) c.counter_block.ensures c.counter_block-2.ensures c.counter_block-3.ensures
    c.counter_block-4.ensures c.counter_block-5.ensures c.counter_block-6.ensures c.counter_block-7.ensures c.counter_block-8.ensures j within
