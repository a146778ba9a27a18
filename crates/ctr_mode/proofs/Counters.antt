-- A text xored with the encrypted counter blocks, block by block.
use Rattle.std.proofs.Common.{◌≡◌, ℕ, zero, suc, ◌+◌, ◌-◌, ◌*◌, ◌/◌, ◌%◌, ◌^◌, ◌<◌, ◌≤◌, min, List, [], ◌∷◌, ◌++◌, length, take, drop, flat_map, get_or, inl, inr, refl, sym, ap, ◌∙◌, arith}
use Rattle.std.specs.Prelude.{slice_set as set}
use Rattle.std.specs.List.{range_with_len}
use Rattle.std.proofs.lemmas.Bool.{cases_lt}
use Rattle.std.proofs.lemmas.Grind.{flat_map-append}
use Rattle.std.proofs.lemmas.List.{append-nil, append_assoc, length-append, length-take-le, length-drop, take-append-drop, take_all, drop_all, take_at, drop_at, drop-drop, take-take, drop-take, take_min, drop_min, get_or-set_same, get_or-set_other}
use Rattle.aes_block.specs.Bytes.{MakesBlocks, xor_bytes, bytes_of}
use Rattle.aes_block.proofs.ByteLemmas.{length-xor, length-xor_bytes, xor_bytes-append, xor_bytes-twice}
use Rattle.ctr_mode.specs.Counter.{counter_block, keystream, counted}
use Rattle.ctr_mode.specs.Counted.{IsCountedTo}

range-push : (a n : ℕ) → range_with_len a (suc n) ≡ range_with_len a n ++ (a + n) ∷ []
range-push a zero = let same : a ≡ a + 0 = omega arith in ap (λ k. k ∷ []) same
range-push a (suc n) = let same : a + 1 + n ≡ a + suc n = omega arith in ap (λ t. a ∷ t) (range-push (a + 1) n ∙ ap (λ k. range_with_len (a + 1) n ++ k ∷ []) same)

pub keystream-push : (cipher : List ℕ → List ℕ) (first n : ℕ) → keystream cipher first (suc n) ≡ keystream cipher first n ++ cipher (counter_block first n)
keystream-push cipher first n =
    let block : ℕ → List ℕ = λ i. cipher (counter_block first i) in
    let from_zero : 0 + n ≡ n = omega arith in
    let push = range-push 0 n ∙ ap (λ k. range_with_len 0 n ++ k ∷ []) from_zero in
    ap (flat_map block) push ∙ flat_map-append block (range_with_len 0 n) (n ∷ []) ∙ ap (λ t. keystream cipher first n ++ t) (append-nil (block n))

pub length-keystream : (cipher : List ℕ → List ℕ) (first : ℕ) → MakesBlocks cipher → (n : ℕ) → length (keystream cipher first n) ≡ 16 * n
length-keystream cipher first makes zero = refl
length-keystream cipher first makes (suc n) =
    ap length (keystream-push cipher first n) ∙ length-append (keystream cipher first n) (cipher (counter_block first n))
    ∙ omega (arith, length-keystream cipher first makes n, makes.long (counter_block first n))

-- a counter that has wrapped counts on
pub counter_block-from : (first start i : ℕ) → counter_block ((first + start) % 2 ^ 128) i ≡ counter_block first (start + i)
counter_block-from first start i =
    let same : ((first + start) % 2 ^ 128 + i) % 2 ^ 128 ≡ (first + (start + i)) % 2 ^ 128 = omega arith in
    ap (λ (n : ℕ). bytes_of 16 n) same

take-add : (m n : ℕ) (xs : List ℕ) → take (m + n) xs ≡ take m xs ++ take n (drop m xs)
take-add m n xs = sym (take-append-drop m (take (m + n) xs)) ∙ (λ i. take-take m (m + n) xs (omega arith) i ++ drop-take m n xs i)

-- one counter more is set
pub set_next : (masks : List (List ℕ)) (j : ℕ) (block : List ℕ) (counter : ℕ → List ℕ) → j < length masks → block ≡ counter j
    → ((k : ℕ) → k < j → get_or masks k [] ≡ counter k) → (k : ℕ) → k < j + 1 → get_or (set masks j block) k [] ≡ counter k
set_next masks j block counter within is before k below =
    elim (cases_lt k j) [
      | inl less ↦ get_or-set_other masks j k block [] (λ same. absurd (omega arith)) ∙ before k less
      | inr least ↦ (let same : k ≡ j = omega arith in
          ap (λ (n : ℕ). get_or (set masks j block) n []) same ∙ get_or-set_same masks j block [] within ∙ is ∙ ap counter (sym same))
    ]

pub counted_more : (cipher : List ℕ → List ℕ) (first : ℕ) (old now part new block : List ℕ) (i k : ℕ)
    → IsCountedTo cipher first old now i → 16 * i < length old → k ≡ min (length old - 16 * i) 16
    → block ≡ cipher (counter_block first i) → length block ≡ 16 → part ≡ xor_bytes (take k (drop (16 * i) now)) block
    → new ≡ take (16 * i) now ++ (part ++ drop k (drop (16 * i) now)) → IsCountedTo cipher first old new (suc i)
counted_more cipher first old now part new block i k h within k_is block_is whole part_is new_is =
    let at = 16 * i in
    let stream = keystream cipher first i in
    let front = xor_bytes (take at old) stream in
    let rest = drop at old in
    let rest_long = length-drop at old in
    let old_long = length-take-le at old (omega arith) in
    let front_long = length-xor_bytes (take at old) stream in
    let front_at : length front ≡ at = omega (arith, h.long) in
    let front_is : take at now ≡ front = ap (take at) h.done ∙ take_at front rest at front_at in
    let rest_is : drop at now ≡ rest = ap (drop at) h.done ∙ drop_at front rest at front_at in
    let next : at + 16 ≡ 16 * suc i = omega arith in
    let pushed = keystream-push cipher first i ∙ ap (λ b. stream ++ b) (sym block_is) in
    let same_take : take k rest ≡ take 16 rest = ap (λ n. take n rest) (let e : k ≡ min 16 (length rest) = omega arith in e) ∙ take_min 16 rest in
    let same_drop : drop k rest ≡ drop 16 rest = ap (λ n. drop n rest) (let e : k ≡ min 16 (length rest) = omega arith in e) ∙ drop_min 16 rest in
    let piece : part ≡ xor_bytes (take 16 rest) block =
    part_is ∙ (λ j. xor_bytes (take k (rest_is j)) block) ∙ (λ j. xor_bytes (same_take j) block) in
    let tail : drop k (drop at now) ≡ drop (at + 16) old = ap (drop k) rest_is ∙ same_drop ∙ drop-drop 16 at old in
    let joined : xor_bytes (take (at + 16) old) (keystream cipher first (suc i)) ≡ front ++ xor_bytes (take 16 rest) block =
    (λ j. xor_bytes (take-add at 16 old j) (pushed j)) ∙ xor_bytes-append (take at old) stream (take 16 rest) block (omega (arith, h.long)) in
    record {
      long = ap length pushed ∙ length-append stream block ∙ omega (arith, h.long);
      done = new_is ∙ (λ j. front_is j ++ (piece j ++ tail j)) ∙ sym (append_assoc front (xor_bytes (take 16 rest) block) (drop (at + 16) old))
          ∙ (λ j. sym joined j ++ drop (at + 16) old) ∙ ap (λ n. xor_bytes (take n old) (keystream cipher first (suc i)) ++ drop n old) next;
    }

pub counted_all : (cipher : List ℕ → List ℕ) (first : ℕ) (old new : List ℕ) (i : ℕ)
    → IsCountedTo cipher first old new i → i ≡ (length old + 15) / 16 → new ≡ counted cipher first old
unfolding counted
counted_all cipher first old new i h i_is =
    let at = 16 * i in
    let past : length old ≤ at = omega arith in
    h.done ∙ (λ j. xor_bytes (take_all at old past j) (keystream cipher first i) ++ drop_all at old past j)
    ∙ append-nil (xor_bytes old (keystream cipher first i)) ∙ (λ j. xor_bytes old (keystream cipher first (i_is j)))

-- ---- laws of counted

covers : (cipher : List ℕ → List ℕ) (first : ℕ) (text : List ℕ) → MakesBlocks cipher → length text ≤ length (keystream cipher first ((length text + 15) / 16))
covers cipher first text makes = omega (arith, length-keystream cipher first makes ((length text + 15) / 16))

pub length-counted : (cipher : List ℕ → List ℕ) (first : ℕ) (text : List ℕ) → MakesBlocks cipher → length (counted cipher first text) ≡ length text
unfolding counted
length-counted cipher first text makes = length-xor text (keystream cipher first ((length text + 15) / 16)) (covers cipher first text makes)

counted_back : (cipher : List ℕ → List ℕ) (first : ℕ) (text out : List ℕ) → MakesBlocks cipher → out ≡ counted cipher first text → counted cipher first out ≡ text
unfolding counted
counted_back cipher first text out makes is =
    let stream : List ℕ = keystream cipher first ((length text + 15) / 16) in
    let enough : length text ≤ length stream = covers cipher first text makes in
    let long : length out ≡ length text = ap length is ∙ length-xor text stream enough in
    rw (long, is) (xor_bytes-twice text stream enough)

-- decryption is encryption again
pub counted-twice : (cipher : List ℕ → List ℕ) (first : ℕ) (text : List ℕ) → MakesBlocks cipher → counted cipher first (counted cipher first text) ≡ text
counted-twice cipher first text makes = counted_back cipher first text (counted cipher first text) makes refl
