-- Blocks of AES under keys of any length: all are of one length, and the same but for the lowest eight bits of each number.
use Rattle.std.proofs.Common.{◌≡◌, ◌<◌, ◌≤◌, ◌+◌, ◌-◌, ◌*◌, ◌/◌, ◌%◌, ℕ, zero, suc, List, [], ◌∷◌, ◌++◌, length, drop, flat_map, get_or, bit_xor, refl, sym, ap, ◌∙◌, subst, inl, inr, ◌⊎◌, arith, lit<, length-append, length-take, length-drop}
use Rattle.std.specs.List.{range_with_len}
use Rattle.std.specs.Int.Bits.{xor_self}
use Rattle.std.proofs.lemmas.Bool.{cases_lt}
use Rattle.aes_block.specs.Bytes.{xor_bytes, AreBytes}
use Rattle.aes_block.specs.Field.{substituted}
use Rattle.aes_block.specs.Aes.{aes, expanded_key, key_schedule, place, round_count, round_key, schedule_step, shift_rows, state_after, sub_bytes, word}
use Rattle.aes_block.proofs.ByteLemmas.{AreBytes-map, get_or-byte, length-xor_bytes, substituted-lt, xor-lt, xor-twice, xor_swap}
use Rattle.aes_block.proofs.Lengths.{length-schedule_step, length-word}

-- ---- lists of numbers that are near: as long, and the same but for the lowest eight bits of each

abbrev pub AreNear : List ℕ → List ℕ → Type 0
AreNear [] [] = Unit {0}
AreNear [] (y ∷ ys) = ⊥
AreNear (x ∷ xs) [] = ⊥
AreNear (x ∷ xs) (y ∷ ys) = (bit_xor x y < 256) × AreNear xs ys

pub near_lengths : (xs ys : List ℕ) → AreNear xs ys → length xs ≡ length ys
near_lengths [] [] near = refl
near_lengths [] (y ∷ ys) near = absurd near
near_lengths (x ∷ xs) [] near = absurd near
near_lengths (x ∷ xs) (y ∷ ys) near = ap suc (near_lengths xs ys near.1)

-- what is near bytes are bytes
pub near_bytes : (xs ys : List ℕ) → AreNear xs ys → AreBytes ys → AreBytes xs
near_bytes [] ys near are = tt
near_bytes (x ∷ xs) [] near are = absurd near
near_bytes (x ∷ xs) (y ∷ ys) near are = (subst (λ (z : ℕ). z < 256) (xor-twice x y) (xor-lt (bit_xor x y) y near.0 are.0), near_bytes xs ys near.1 are.1)

near_itself : (xs : List ℕ) → AreNear xs xs
near_itself [] = tt
near_itself (x ∷ xs) = (subst (λ (z : ℕ). z < 256) (sym (xor_self x)) (lit< tt), near_itself xs)

pub near_append : (xs ys vs ws : List ℕ) → AreNear xs ys → AreNear vs ws → AreNear (xs ++ vs) (ys ++ ws)
near_append [] [] vs ws near more = more
near_append [] (y ∷ ys) vs ws near more = absurd near
near_append (x ∷ xs) [] vs ws near more = absurd near
near_append (x ∷ xs) (y ∷ ys) vs ws near more = (near.0, near_append xs ys vs ws near.1 more)

pub near_flat : (f g : ℕ → List ℕ) → ((i : ℕ) → AreNear (f i) (g i)) → (xs : List ℕ) → AreNear (flat_map f xs) (flat_map g xs)
near_flat f g near [] = tt
near_flat f g near (x ∷ xs) = near_append (f x) (g x) (flat_map f xs) (flat_map g xs) (near x) (near_flat f g near xs)

-- bytes that are xored with near numbers
pub near_xor : (xs ys vs ws : List ℕ) → AreBytes xs → AreBytes ys → length xs ≡ length ys → AreNear vs ws → AreNear (xor_bytes xs vs) (xor_bytes ys ws)
near_xor [] [] vs ws are are' same near = tt
near_xor [] (y ∷ ys) vs ws are are' same near = absurd (omega (arith, same))
near_xor (x ∷ xs) [] vs ws are are' same near = absurd (omega (arith, same))
near_xor (x ∷ xs) (y ∷ ys) [] [] are are' same near = tt
near_xor (x ∷ xs) (y ∷ ys) [] (w ∷ ws) are are' same near = absurd near
near_xor (x ∷ xs) (y ∷ ys) (v ∷ vs) [] are are' same near = absurd near
near_xor (x ∷ xs) (y ∷ ys) (v ∷ vs) (w ∷ ws) are are' same near =
    (subst (λ (z : ℕ). z < 256) (xor_swap x y v w) (xor-lt (bit_xor x y) (bit_xor v w) (xor-lt x y are.0 are'.0) near.0), near_xor xs ys vs ws are.1 are'.1 (omega (arith, same)) near.1)

-- ---- blocks

abbrev pub AllNear : (List ℕ → List ℕ) → Type 0
AllNear cipher = (a b : List ℕ) → AreNear (cipher a) (cipher b)

rows_are_bytes : (s : List ℕ) → AreBytes (shift_rows (sub_bytes s))
unfolding shift_rows sub_bytes
rows_are_bytes s = AreBytes-map (λ i. get_or (sub_bytes s) (place (i % 4) (i / 4 + i % 4)) 0) (λ i. get_or-byte (sub_bytes s) _ (AreBytes-map substituted substituted-lt s)) (range_with_len 0 16)

rows_are_16 : (s : List ℕ) → length (shift_rows s) ≡ 16
unfolding shift_rows
rows_are_16 s = refl

-- the last round key is all that keeps a block from being bytes
pub aes_near : (key : List ℕ) → AllNear (aes key)
unfolding aes
aes_near key a b =
    let s : List ℕ = state_after (key_schedule key) a (round_count key - 1) in
    let t : List ℕ = state_after (key_schedule key) b (round_count key - 1) in
    let last : List ℕ = round_key (key_schedule key) (round_count key) in
    near_xor (shift_rows (sub_bytes s)) (shift_rows (sub_bytes t)) last last (rows_are_bytes s) (rows_are_bytes t) (rows_are_16 (sub_bytes s) ∙ sym (rows_are_16 (sub_bytes t))) (near_itself last)

-- a key of less than four bytes is soon at an end
few_expanded : (key : List ℕ) → length key < 4 → (n : ℕ) → length (expanded_key key n) ≤ 3 * n + 3
unfolding expanded_key
few_expanded key few zero = omega (arith, few)
few_expanded key few (suc n) =
    let so_far : List ℕ = expanded_key key n in
    let next : List ℕ = schedule_step (length key / 4) (n + length key / 4) (word so_far (n + length key / 4 - 1)) in
    omega (arith, few_expanded key few n, length-append so_far (xor_bytes (word so_far n) next), length-xor_bytes (word so_far n) next, length-take 4 (drop (4 * n) so_far), length-drop (4 * n) so_far)

all_expanded : (key : List ℕ) → 4 ≤ length key → (n : ℕ) → length (expanded_key key n) ≡ length key + 4 * n
unfolding expanded_key
all_expanded key some zero = omega arith
all_expanded key some (suc n) =
    let so_far : List ℕ = expanded_key key n in
    let before : length so_far ≡ length key + 4 * n = all_expanded key some n in
    let last : List ℕ = word so_far (n + length key / 4 - 1) in
    let next : List ℕ = schedule_step (length key / 4) (n + length key / 4) last in
    let first_long : length (word so_far n) ≡ 4 = length-word so_far n (omega (arith, before, some)) in
    let last_long : length last ≡ 4 = length-word so_far (n + length key / 4 - 1) (omega (arith, before, some)) in
    omega (arith, before, first_long, length-append so_far (xor_bytes (word so_far n) next), length-xor_bytes (word so_far n) next, length-schedule_step (length key / 4) (n + length key / 4) last last_long)

last_key : (key : List ℕ) → (length (round_key (key_schedule key) (round_count key)) ≡ 16) ⊎ (length (round_key (key_schedule key) (round_count key)) ≡ 0)
last_key key = go (cases_lt (length key) 4)
  where
    s : List ℕ
    s = key_schedule key

    go : (length key < 4) ⊎ (4 ≤ length key) → (length (round_key s (round_count key)) ≡ 16) ⊎ (length (round_key s (round_count key)) ≡ 0)
    go (inl few) = inr (omega (arith, few, few_expanded key few (4 * (round_count key + 1) - length key / 4), length-take 16 (drop (16 * round_count key) s), length-drop (16 * round_count key) s))
    go (inr some) = inl (omega (arith, some, all_expanded key some (4 * (round_count key + 1) - length key / 4), length-take 16 (drop (16 * round_count key) s), length-drop (16 * round_count key) s))

-- a block has 16 numbers or none
pub aes_length : (key b : List ℕ) → (length (aes key b) ≡ 16) ⊎ (length (aes key b) ≡ 0)
unfolding aes
aes_length key b = go (last_key key)
  where
    s : List ℕ
    s = sub_bytes (state_after (key_schedule key) b (round_count key - 1))

    last : List ℕ
    last = round_key (key_schedule key) (round_count key)

    go : (length last ≡ 16) ⊎ (length last ≡ 0) → (length (xor_bytes (shift_rows s) last) ≡ 16) ⊎ (length (xor_bytes (shift_rows s) last) ≡ 0)
    go (inl all) = inl (omega (arith, all, rows_are_16 s, length-xor_bytes (shift_rows s) last))
    go (inr none) = inr (omega (arith, none, length-xor_bytes (shift_rows s) last))
