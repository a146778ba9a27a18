-- A schedule's and a ciphertext's lengths, which need no more of a key than its own.
use Rattle.std.proofs.Common.{◌≡◌, ℕ, zero, suc, ◌+◌, ◌-◌, ◌*◌, ◌/◌, ◌%◌, ◌≤◌, ◌⊎◌, inl, inr, List, [], ◌∷◌, length, drop, take, eqb, ltb, ◌&&◌, refl, ◌∙◌, arith, length-append, length-drop, length-take}
use Rattle.std.proofs.lemmas.Bool.{cond_both}
use Rattle.std.proofs.lemmas.List.{length-map, length-take-le}
use Rattle.aes_block.specs.Bytes.{xor_bytes}
use Rattle.aes_block.specs.Field.{substituted}
use Rattle.aes_block.specs.Aes.{aes, expanded_key, key_schedule, power_of_x, rotated_word, round_count, round_key, schedule_step, shift_rows, state_after, sub_bytes, word}
use Rattle.aes_block.proofs.ByteLemmas.{length-xor, length-xor_bytes}

pub length-word : (s : List ℕ) (i : ℕ) → 4 * i + 4 ≤ length s → length (word s i) ≡ 4
length-word s i long = length-take-le 4 (drop (4 * i) s) (omega (arith, length-drop (4 * i) s))

pub length-rotated_word : (w : List ℕ) → length w ≡ 4 → length (rotated_word w) ≡ 4
length-rotated_word w long = length-append (drop 1 w) (take 1 w) ∙ omega (arith, length-drop 1 w, length-take 1 w)

pub length-sub_bytes : (w : List ℕ) → length (sub_bytes w) ≡ length w
unfolding sub_bytes
length-sub_bytes w = length-map w substituted

pub length-schedule_step : (nk i : ℕ) (w : List ℕ) → length w ≡ 4 → length (schedule_step nk i w) ≡ 4
unfolding schedule_step
length-schedule_step nk i w long =
    let turned : length (sub_bytes (rotated_word w)) ≡ 4 = length-sub_bytes (rotated_word w) ∙ length-rotated_word w long in
    cond_both (eqb (i % nk) 0) _ _ (λ (s : List ℕ). length s ≡ 4)
    (λ _. length-xor (sub_bytes (rotated_word w)) (power_of_x (i / nk - 1) ∷ 0 ∷ 0 ∷ 0 ∷ []) (omega arith) ∙ turned)
    (λ _. cond_both (ltb 6 nk && eqb (i % nk) 4) _ _ (λ (s : List ℕ). length s ≡ 4) (λ _. length-sub_bytes w ∙ long) (λ _. long))

pub length-expanded_key : (key : List ℕ) → 4 ≤ length key → length key ≡ 4 * (length key / 4) → (n : ℕ) → length (expanded_key key n) ≡ length key + 4 * n
unfolding expanded_key
length-expanded_key key some whole zero = omega arith
length-expanded_key key some whole (suc n) =
    let before : length (expanded_key key n) ≡ length key + 4 * n = length-expanded_key key some whole n in
    let last : List ℕ = word (expanded_key key n) (n + length key / 4 - 1) in
    let step : List ℕ = schedule_step (length key / 4) (n + length key / 4) (word (expanded_key key n) (n + length key / 4 - 1)) in
    let back_long : length (word (expanded_key key n) n) ≡ 4 = length-word (expanded_key key n) n (omega arith) in
    let last_long : length (word (expanded_key key n) (n + length key / 4 - 1)) ≡ 4 = length-word (expanded_key key n) (n + length key / 4 - 1) (omega arith) in
    let next : length (xor_bytes (word (expanded_key key n) n) step) ≡ 4 =
    length-xor_bytes (word (expanded_key key n) n) step ∙ omega (arith, back_long, length-schedule_step (length key / 4) (n + length key / 4) last last_long) in
    length-append (expanded_key key n) (xor_bytes (word (expanded_key key n) n) step) ∙ omega (arith, before, next)

pub length-key_schedule : (key : List ℕ) → (length key ≡ 16) ⊎ (length key ≡ 32) → length (key_schedule key) ≡ 16 * (round_count key + 1)
length-key_schedule key (inl long) = length-expanded_key key (omega arith) (omega arith) (4 * (round_count key + 1) - length key / 4) ∙ omega arith
length-key_schedule key (inr long) = length-expanded_key key (omega arith) (omega arith) (4 * (round_count key + 1) - length key / 4) ∙ omega arith

pub length-round_key : (key : List ℕ) → (length key ≡ 16) ⊎ (length key ≡ 32) → (r : ℕ) → r ≤ round_count key → length (round_key (key_schedule key) r) ≡ 16
length-round_key key long r le =
    length-take-le 16 (drop (16 * r) (key_schedule key)) (omega (arith, length-drop (16 * r) (key_schedule key), length-key_schedule key long))

length-shift_rows : (s : List ℕ) → length (shift_rows s) ≡ 16
unfolding shift_rows
length-shift_rows s = refl

-- the cipher makes 16 bytes of whatever block
pub length-aes : (key block : List ℕ) → (length key ≡ 16) ⊎ (length key ≡ 32) → length (aes key block) ≡ 16
unfolding aes
length-aes key block long =
    let state : List ℕ = sub_bytes (state_after (key_schedule key) block (round_count key - 1)) in
    length-xor_bytes (shift_rows state) (round_key (key_schedule key) (round_count key))
    ∙ omega (arith, length-shift_rows state, length-round_key key long (round_count key) (omega arith))
