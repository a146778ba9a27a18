-- The key schedule from the front, and the rounds over it.
use Rattle.std.proofs.Common.{◌≡◌, ℕ, ◌+◌, ◌-◌, ◌*◌, ◌/◌, ◌⊎◌, inl, inr, List, [], ◌∷◌, ◌++◌, length, get_or, take, sym, ap, ◌∙◌, arith}
use Rattle.std.proofs.lemmas.List.{take_at}
use Rattle.aes_block.specs.Aes.{expanded_key, key_schedule, rotated_word, round_count}
use Rattle.aes_block.proofs.KeyLemmas.{expanded_key-none}
use Rattle.aes_block.proofs.StateLemmas.{four_elements}

pub rotated-is : (w : List ℕ) → length w ≡ 4 → get_or w 1 0 ∷ get_or w 2 0 ∷ get_or w 3 0 ∷ get_or w 0 0 ∷ [] ≡ rotated_word w
rotated-is w h = sym (ap rotated_word (four_elements w h))

-- the length of a key, in bytes and in words
pub whole_words : (n : ℕ) → (n ≡ 16) ⊎ (n ≡ 32) → 4 * (n / 4) ≡ n
whole_words n (inl h) = omega arith
whole_words n (inr h) = omega arith

pub schedule-begun : (key written rest : List ℕ) → (length key ≡ 16) ⊎ (length key ≡ 32) → written ≡ key
    → take (4 * (length key / 4)) (written ++ rest) ≡ expanded_key key (length key / 4 - length key / 4)
schedule-begun key written rest h e =
    take_at written rest (4 * (length key / 4)) (ap length e ∙ sym (whole_words (length key) h)) ∙ e ∙ expanded_key-none key _ (omega arith)

pub schedule-done : (key s : List ℕ) (i : ℕ) → i ≡ 4 * (length key / 4 + 7) → take (4 * i) s ≡ expanded_key key (i - length key / 4) → take (16 * (round_count key + 1)) s ≡ key_schedule key
schedule-done key s i h e =
    let bytes : 16 * (round_count key + 1) ≡ 4 * i = omega arith in
    let words : i - length key / 4 ≡ 4 * (round_count key + 1) - length key / 4 = omega arith in
    ap (λ (n : ℕ). take n s) bytes ∙ e ∙ ap (expanded_key key) words
