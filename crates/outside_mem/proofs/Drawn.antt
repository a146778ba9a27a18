-- Words that are drawn one after another.
use Rattle.std.proofs.Common.{◌≡◌, ℕ, zero, suc, ◌+◌, List, [], ◌++◌, ap, ◌∙◌, append_assoc, arith, add-zero, zero-add}
use Rattle.std.specs.Int.{w32, to_le_bytes}
use Rattle.rand_chacha.specs.ChaCha.{word_at}
use Rattle.std.proofs.lemmas.Grind.{common_steps}
use Rattle.outside_mem.specs.Words.{words_from}

append_nil : (xs : List ℕ) → xs ≡ xs ++ []
append_nil xs = grind (arith, common_steps)

-- the words from the start to a later place are those before and those from there
pub words_from-start : (key : List ℕ) (m n : ℕ) → words_from key 0 (m + n) ≡ words_from key 0 m ++ words_from key m n
words_from-start key m zero = rw add-zero (append_nil _)
words_from-start key m (suc n) =
    let e : m + suc n ≡ suc (m + n) = omega arith in
    ap (words_from key 0) e
    ∙ (λ i. words_from-start key m n i ++ to_le_bytes w32 (word_at 10 key 0 (zero-add (m + n) i)))
    ∙ append_assoc (words_from key 0 m) (words_from key m n) (to_le_bytes w32 (word_at 10 key 0 (m + n)))
