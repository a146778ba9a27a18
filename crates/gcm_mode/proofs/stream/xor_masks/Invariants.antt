use Rattle.std.proofs.Common.{◌≡◌, ℕ, ◌+◌, ◌<◌, List, [], length, get_or}
use Rattle.aes_block.specs.Bytes.{MakesBlocks}
use Rattle.gcm_mode.specs.Gcm.{counter_block}
use Rattle.gcm_mode.specs.Counted.{Counted}
use Rattle.gcm_mode.proofs.stream.xor_masks.Given as goal

-- j blocks more are done
abbrev pub invariant-loop-j : goal.invariant-loop-j
invariant-loop-j l =
    (cipher : List ℕ → List ℕ) (nonce old : List ℕ) → MakesBlocks cipher → length old ≡ length l.fn.text → Counted cipher nonce old l.start l.fn.text
    → ((k : ℕ) → k < length l.masks → get_or l.masks k [] ≡ cipher (counter_block nonce (l.start + k + 2)))
    → Counted cipher nonce old (l.start + l.j) l.text
