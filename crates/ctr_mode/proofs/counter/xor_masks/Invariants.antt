use Rattle.std.proofs.Common.{◌≡◌, ℕ, ◌+◌, ◌<◌, List, [], length, get_or}
use Rattle.aes_block.specs.Bytes.{MakesBlocks}
use Rattle.ctr_mode.specs.Counter.{counter_block}
use Rattle.ctr_mode.specs.Counted.{IsCountedTo}
use Rattle.ctr_mode.proofs.counter.xor_masks.Given as goal

-- j blocks more are done
abbrev pub invariant-loop-j : goal.invariant-loop-j
invariant-loop-j l =
    (cipher : List ℕ → List ℕ) (first : ℕ) (old : List ℕ) → MakesBlocks cipher → length old ≡ length l.fn.text → IsCountedTo cipher first old l.fn.text l.start
    → ((k : ℕ) → k < length l.masks → get_or l.masks k [] ≡ cipher (counter_block first (l.start + k)))
    → IsCountedTo cipher first old l.text (l.start + l.j)
