-- A text xored with the encrypted counter blocks, a block at a time.
use Rattle.std.proofs.Common.{◌≡◌, ℕ, zero, suc, ◌+◌, ◌-◌, ◌*◌, ◌/◌, ◌%◌, ◌^◌, ◌<◌, ◌≤◌, List, [], ◌∷◌, ◌++◌, length, map, get_or, take, drop, min, refl, ap, sym, subst, ◌∙◌, arith, length-append, length-drop}
use Rattle.std.proofs.lemmas.List.{append-nil, append_assoc, take_all, drop_all, take_at, drop_at, drop-drop, drop-take, take-append-drop, take-take, take_min, drop_min, length-take-le}
use Rattle.std.proofs.lemmas.List.Concat.{flat_map-append}
use Rattle.std.specs.List.{between, range_with_len, flat_map}
use borrow.Rule.Slice.PartMut.{put_mid}
use Rattle.aes_block.specs.Bytes.{xor_bytes, bytes_of, MakesBlocks}
use Rattle.gcm_mode.specs.Gcm.{counter_block, counted, keystream}
use Rattle.gcm_mode.specs.Counted.{Counted}
use Rattle.aes_block.proofs.ByteLemmas.{length-xor, xor_bytes-append}

range_with_len_more : (a n : ℕ) → range_with_len a (n + 1) ≡ range_with_len a n ++ (a + n) ∷ []
range_with_len_more a zero =
    let same : a + 0 ≡ a = omega arith in
    rw same refl
range_with_len_more a (suc n) =
    let same : a + suc n ≡ a + 1 + n = omega arith in
    let next : suc n + 1 ≡ suc (n + 1) = omega arith in
    rw (same, next) (ap (λ (r : List ℕ). a ∷ r) (range_with_len_more (a + 1) n))

-- one encrypted counter block more
pub keystream_more : (cipher : List ℕ → List ℕ) (nonce : List ℕ) (n : ℕ) → keystream cipher nonce (n + 1) ≡ keystream cipher nonce n ++ cipher (counter_block nonce (n + 2))
unfolding keystream
keystream_more cipher nonce n =
    let f : ℕ → List ℕ = λ i. cipher (counter_block nonce (i + 2)) in
    let more : range_with_len 0 (n + 1) ≡ range_with_len 0 n ++ n ∷ [] = range_with_len_more 0 n ∙ ap (λ (k : ℕ). range_with_len 0 n ++ k ∷ []) (omega arith) in
    ap (flat_map f) more ∙ flat_map-append f (range_with_len 0 n) (n ∷ []) ∙ ap (λ (r : List ℕ). flat_map f (range_with_len 0 n) ++ r) (append-nil (f n))

-- one block of text more
pub counted_more : (old now ks block ys : List ℕ) (a e : ℕ) → now ≡ xor_bytes (take a old) ks ++ drop a old → length ks ≡ a → a < length old
    → e ≡ min (length old) (a + 16) → ys ≡ xor_bytes (between a e now) block
    → put_mid a (e - a) now ys ≡ xor_bytes (take (a + 16) old) (ks ++ block) ++ drop (a + 16) old
counted_more old now ks block ys a e known long within end done =
    let rest : List ℕ = drop a old in
    let left : length (drop a old) ≡ length old - a = length-drop a old in
    let front_long : length (take a old) ≡ a = length-take-le a old (omega arith) in
    let front : List ℕ = xor_bytes (take a old) ks in
    let front_is : length (xor_bytes (take a old) ks) ≡ a = length-xor (take a old) ks (omega arith) ∙ front_long in
    let kept : take a now ≡ front = ap (take a) known ∙ take_at front rest a front_is in
    let still : drop a now ≡ rest = ap (drop a) known ∙ drop_at front rest a front_is in
    let size : e - a ≡ min 16 (length rest) = omega arith in
    let part : take (e - a) rest ≡ take 16 rest = ap (λ (k : ℕ). take k rest) size ∙ take_min 16 rest in
    let after : drop (e - a) rest ≡ drop 16 rest = ap (λ (k : ℕ). drop k rest) size ∙ drop_min 16 rest in
    let whole : take (a + 16) old ≡ take a old ++ take 16 rest =
    sym (take-append-drop a (take (a + 16) old)) ∙ rw (take-take a (a + 16) old (omega arith), drop-take a 16 old) refl in
    let fresh : ys ≡ xor_bytes (take 16 rest) block = done ∙ rw (still, part) refl in
    let ends : drop (a + 16) old ≡ drop 16 rest = sym (drop-drop 16 a old) in
    rw (kept, still, after, fresh, whole, ends, xor_bytes-append (take a old) ks (take 16 rest) block (front_long ∙ sym long))
    (sym (append_assoc front (xor_bytes (take 16 rest) block) (drop 16 rest)))

-- all blocks
pub counted_all : (cipher : List ℕ → List ℕ) (nonce old now : List ℕ) (n : ℕ) → n ≡ (length old + 15) / 16
    → now ≡ xor_bytes (take (16 * n) old) (keystream cipher nonce n) ++ drop (16 * n) old → now ≡ counted cipher nonce old
unfolding counted
counted_all cipher nonce old now n count known =
    known ∙ rw (take_all (16 * n) old (omega arith), drop_all (16 * n) old (omega arith), append-nil (xor_bytes old (keystream cipher nonce n)), count) refl

-- a counter that has wrapped names the same block
pub counter_block_same : (nonce : List ℕ) (i k : ℕ) → k ≡ i % 2 ^ 32 → counter_block nonce k ≡ counter_block nonce i
unfolding counter_block
counter_block_same nonce i k same =
    let low : k % 2 ^ 32 ≡ i % 2 ^ 32 = omega arith in
    ap (λ (n : ℕ). nonce ++ bytes_of 4 n) low

pub keystream_none : (cipher : List ℕ → List ℕ) (nonce : List ℕ) → keystream cipher nonce 0 ≡ []
unfolding keystream
keystream_none cipher nonce = refl

-- n encrypted counter blocks have 16 * n bytes
pub length-keystream : (cipher : List ℕ → List ℕ) (nonce : List ℕ) → ((b : List ℕ) → length (cipher b) ≡ 16) → (n : ℕ) → length (keystream cipher nonce n) ≡ 16 * n
length-keystream cipher nonce long zero = ap length (keystream_none cipher nonce)
length-keystream cipher nonce long (suc n) =
    let block : List ℕ = cipher (counter_block nonce (n + 2)) in
    let next : suc n ≡ n + 1 = omega arith in
    let more : keystream cipher nonce (suc n) ≡ keystream cipher nonce n ++ block = ap (keystream cipher nonce) next ∙ keystream_more cipher nonce n in
    let before : length (keystream cipher nonce n) ≡ 16 * n = length-keystream cipher nonce long n in
    let size : length block ≡ 16 = long (counter_block nonce (n + 2)) in
    ap length more ∙ length-append (keystream cipher nonce n) block ∙ omega arith

-- ---- the state of the loops

pub Counted_none : (cipher : List ℕ → List ℕ) (nonce old : List ℕ) → Counted cipher nonce old 0 old
Counted_none cipher nonce old = record {
  blocks = ap length (keystream_none cipher nonce);
  done = refl;
}

-- one block more, or what is left of it
pub Counted_more : (cipher : List ℕ → List ℕ) (nonce old now block ys : List ℕ) (n e k : ℕ) → Counted cipher nonce old n now → 16 * n < length old
    → e ≡ min (length old) (16 * n + 16) → k ≡ e - 16 * n → block ≡ cipher (counter_block nonce (n + 2)) → length block ≡ 16 → ys ≡ xor_bytes (between (16 * n) e now) block
    → Counted cipher nonce old (n + 1) (put_mid (16 * n) k now ys)
Counted_more cipher nonce old now block ys n e k known within end size is long done =
    let more : keystream cipher nonce (n + 1) ≡ keystream cipher nonce n ++ block =
    keystream_more cipher nonce n ∙ ap (λ (b : List ℕ). keystream cipher nonce n ++ b) (sym is) in
    let place : 16 * (n + 1) ≡ 16 * n + 16 = omega arith in record {
      blocks = ap length more ∙ length-append (keystream cipher nonce n) block ∙ omega (arith, long, known.blocks);
      done = ap (λ (j : ℕ). put_mid (16 * n) j now ys) size ∙ rw (place, more) (counted_more old now (keystream cipher nonce n) block ys (16 * n) e known.done known.blocks within end done);
    }

pub Counted_all : (cipher : List ℕ → List ℕ) (nonce old now : List ℕ) (n : ℕ) → n ≡ (length old + 15) / 16 → Counted cipher nonce old n now → now ≡ counted cipher nonce old
Counted_all cipher nonce old now n count known = counted_all cipher nonce old now n count known.done

-- one whole block more, from a up to e
pub Counted_step : (cipher : List ℕ → List ℕ) (nonce old now b block ys : List ℕ) (n a e : ℕ) → MakesBlocks cipher → Counted cipher nonce old n now → a ≡ 16 * n → e ≡ a + 16
    → e ≤ length old → b ≡ counter_block nonce (n + 2) → block ≡ cipher b → ys ≡ xor_bytes (between a e now) block → Counted cipher nonce old (n + 1) (put_mid a (e - a) now ys)
Counted_step cipher nonce old now b block ys n a e blocks known at end room is made done =
    let last : e ≡ min (length old) (16 * n + 16) = omega arith in
    let cited : ys ≡ xor_bytes (between (16 * n) e now) block = done ∙ ap (λ (k : ℕ). xor_bytes (between k e now) block) at in
    let long : length block ≡ 16 = ap length (made ∙ ap cipher is) ∙ blocks.long (counter_block nonce (n + 2)) in
    let next = Counted_more cipher nonce old now block ys n e (e - a) known (omega arith) last (ap (λ (k : ℕ). e - k) at) (made ∙ ap cipher is) long cited in
    subst (λ (k : ℕ). Counted cipher nonce old (n + 1) (put_mid k (e - a) now ys)) (sym at) next

-- four encrypted counter blocks
pub four_masks_are : (cipher : List ℕ → List ℕ) (nonce : List ℕ) {b0 b1 b2 b3 : List ℕ} (first : ℕ) → first < 2 ^ 32
    → b0 ≡ counter_block nonce first → b1 ≡ counter_block nonce ((first + 1) % 4294967296)
    → b2 ≡ counter_block nonce ((first + 2) % 4294967296) → b3 ≡ counter_block nonce ((first + 3) % 4294967296)
    → (j : ℕ) → j < 4 → get_or (map cipher (b0 ∷ b1 ∷ b2 ∷ b3 ∷ [])) j [] ≡ cipher (counter_block nonce ((first + j) % 2 ^ 32))
four_masks_are cipher nonce first small e0 e1 e2 e3 zero within =
    let same : first ≡ (first + 0) % 2 ^ 32 = omega arith in
    ap cipher (e0 ∙ ap (counter_block nonce) same)
four_masks_are cipher nonce first small e0 e1 e2 e3 (suc zero) within = ap cipher e1
four_masks_are cipher nonce first small e0 e1 e2 e3 (suc (suc zero)) within = ap cipher e2
four_masks_are cipher nonce first small e0 e1 e2 e3 (suc (suc (suc zero))) within = ap cipher e3
four_masks_are cipher nonce first small e0 e1 e2 e3 (suc (suc (suc (suc j)))) within = absurd (omega arith)

-- eight encrypted counter blocks
pub eight_masks_are : (cipher : List ℕ → List ℕ) (nonce : List ℕ) {b0 b1 b2 b3 b4 b5 b6 b7 : List ℕ} (first : ℕ) → first < 2 ^ 32
    → b0 ≡ counter_block nonce first → b1 ≡ counter_block nonce ((first + 1) % 4294967296) → b2 ≡ counter_block nonce ((first + 2) % 4294967296) → b3 ≡ counter_block nonce ((first + 3) % 4294967296) → b4 ≡ counter_block nonce ((first + 4) % 4294967296) → b5 ≡ counter_block nonce ((first + 5) % 4294967296) → b6 ≡ counter_block nonce ((first + 6) % 4294967296) → b7 ≡ counter_block nonce ((first + 7) % 4294967296)
    → (j : ℕ) → j < 8 → get_or (map cipher (b0 ∷ b1 ∷ b2 ∷ b3 ∷ b4 ∷ b5 ∷ b6 ∷ b7 ∷ [])) j [] ≡ cipher (counter_block nonce ((first + j) % 2 ^ 32))
eight_masks_are cipher nonce first small e0 e1 e2 e3 e4 e5 e6 e7 zero within =
    let same : first ≡ (first + 0) % 2 ^ 32 = omega arith in
    ap cipher (e0 ∙ ap (counter_block nonce) same)
eight_masks_are cipher nonce first small e0 e1 e2 e3 e4 e5 e6 e7 (suc zero) within = ap cipher e1
eight_masks_are cipher nonce first small e0 e1 e2 e3 e4 e5 e6 e7 (suc (suc zero)) within = ap cipher e2
eight_masks_are cipher nonce first small e0 e1 e2 e3 e4 e5 e6 e7 (suc (suc (suc zero))) within = ap cipher e3
eight_masks_are cipher nonce first small e0 e1 e2 e3 e4 e5 e6 e7 (suc (suc (suc (suc zero)))) within = ap cipher e4
eight_masks_are cipher nonce first small e0 e1 e2 e3 e4 e5 e6 e7 (suc (suc (suc (suc (suc zero))))) within = ap cipher e5
eight_masks_are cipher nonce first small e0 e1 e2 e3 e4 e5 e6 e7 (suc (suc (suc (suc (suc (suc zero)))))) within = ap cipher e6
eight_masks_are cipher nonce first small e0 e1 e2 e3 e4 e5 e6 e7 (suc (suc (suc (suc (suc (suc (suc zero))))))) within = ap cipher e7
eight_masks_are cipher nonce first small e0 e1 e2 e3 e4 e5 e6 e7 (suc (suc (suc (suc (suc (suc (suc (suc j)))))))) within = absurd (omega arith)
