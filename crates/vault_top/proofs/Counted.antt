-- The report's last line, one count after the other.
use Rattle.std.proofs.Common.{◌≡◌, ℕ, List, ◌++◌, decimal, ap, ◌∙◌}

-- a word and a count after what was there
pub count_added : (before after line word : List ℕ) (m n : ℕ) → after ≡ before ++ (word ++ decimal m) → before ≡ line → m ≡ n → after ≡ line ++ (word ++ decimal n)
count_added before after line word m n e same count =
    e ∙ ap (λ (w : List ℕ). w ++ (word ++ decimal m)) same ∙ ap (λ (k : ℕ). line ++ (word ++ decimal k)) count
