-- BlockMix on words: X block by block, and the halves that it writes.
use Rattle.std.proofs.Common.{◌≡◌, ℕ, zero, suc, ◌+◌, ◌-◌, ◌*◌, ◌<◌, ◌≤◌, List, [], ◌∷◌, ◌++◌, length, take, drop, refl, sym, ap, ap₂, ◌∙◌, length-append, length-drop, arith, lit<}
use Rattle.std.proofs.lemmas.List.{drop-append-le, drop-take, length-take-le, take-append-drop, take_all, take_at}
use Rattle.std.proofs.lemmas.Slice.{drop-put_mid, take-put_mid_below}
use Rattle.std.proofs.Math.Seq.{take-append-add}
use borrow.Rule.Slice.PartMut.{put_mid}
use Rattle.aes_block.proofs.ByteLemmas.{length-xor}
use Rattle.aes_block.specs.Bytes.{xor_bytes}
use Rattle.scrypt_kdf.specs.Salsa.{add_words, bytes_of_words, double_round, salsa, words_of}
use Rattle.scrypt_kdf.specs.Scrypt.{block_at, block_mix, mixed_after}
use Rattle.scrypt_kdf.proofs.Blocks.{first_blocks, first_blocks-more}
use Rattle.scrypt_kdf.proofs.Words.{AreWords, AreWords-drop, AreWords-take, AreWords-xor, bytes_of_words-append, drop-bytes_of_words, take-bytes_of_words, words_of-bytes_of_words, xor-bytes_of_words}

-- ---- X

block_at-is : (row : List ℕ) (n : ℕ) → block_at (bytes_of_words row) n ≡ bytes_of_words (take 16 (drop (16 * n) row))
block_at-is row n =
    let place : 64 * n ≡ 4 * (16 * n) = omega arith in
    ap (λ (m : ℕ). take 64 (drop m (bytes_of_words row))) place ∙ ap (take 64) (drop-bytes_of_words (16 * n) row) ∙ take-bytes_of_words 16 (drop (16 * n) row)

pub mixed_after-none : (r : ℕ) (row x : List ℕ) → 0 < r → length row ≡ 32 * r → x ≡ drop (16 * (2 * r - 1)) row → bytes_of_words x ≡ mixed_after r (bytes_of_words row) 0
unfolding mixed_after
mixed_after-none r row x some long e =
    let left = length-drop (16 * (2 * r - 1)) row in
    let whole : take 16 (drop (16 * (2 * r - 1)) row) ≡ drop (16 * (2 * r - 1)) row = take_all 16 _ (omega arith) in
    ap bytes_of_words (e ∙ sym whole) ∙ sym (block_at-is row (2 * r - 1))

-- a block more is taken in
pub mixed_after-more : (r n m : ℕ) (row x y : List ℕ) → m ≡ suc n → length x ≡ 16 → AreWords x → AreWords row → 16 * (n + 1) ≤ length row
    → bytes_of_words x ≡ mixed_after r (bytes_of_words row) n → y ≡ salsa (xor_bytes x (take 16 (drop (16 * n) row)))
    → bytes_of_words y ≡ mixed_after r (bytes_of_words row) m
unfolding mixed_after
mixed_after-more r n m row x y next long words row_words within before mixed =
    let block : List ℕ = take 16 (drop (16 * n) row) in
    let left = length-drop (16 * n) row in
    let block_long : length (take 16 (drop (16 * n) row)) ≡ 16 = length-take-le 16 (drop (16 * n) row) (omega arith) in
    let inner : xor_bytes (mixed_after r (bytes_of_words row) n) (block_at (bytes_of_words row) n) ≡ bytes_of_words (xor_bytes x (take 16 (drop (16 * n) row))) =
    ap₂ xor_bytes (sym before) (block_at-is row n) ∙ xor-bytes_of_words x (take 16 (drop (16 * n) row)) in
    let back : words_of (bytes_of_words (xor_bytes x (take 16 (drop (16 * n) row)))) ≡ xor_bytes x (take 16 (drop (16 * n) row)) =
    words_of-bytes_of_words (xor_bytes x (take 16 (drop (16 * n) row))) (length-xor x block (omega arith) ∙ long)
    (AreWords-xor x block words (AreWords-take 16 (drop (16 * n) row) (AreWords-drop (16 * n) row row_words))) in
    rw next (ap bytes_of_words (mixed ∙ ap salsa (sym back ∙ ap words_of (sym inner))))

AreWords-add_words : (xs ys : List ℕ) → AreWords (add_words xs ys)
AreWords-add_words [] ys k = lit< tt
AreWords-add_words (x ∷ xs) [] k = lit< tt
AreWords-add_words (x ∷ xs) (y ∷ ys) zero = omega arith
AreWords-add_words (x ∷ xs) (y ∷ ys) (suc k) = AreWords-add_words xs ys k

AreWords-salsa : (x : List ℕ) → AreWords (salsa x)
unfolding salsa
AreWords-salsa x = AreWords-add_words (double_round (double_round (double_round (double_round x)))) x

-- ---- the halves

-- a block more is written after the n that are there from a place on
half-more : (f : ℕ → List ℕ) (from n at k : ℕ) (t u x : List ℕ) → bytes_of_words (take (16 * n) (drop from t)) ≡ first_blocks f n → length x ≡ 16
    → bytes_of_words x ≡ f n → at ≡ from + 16 * n → at + 16 ≤ length t → u ≡ put_mid at k t x
    → bytes_of_words (take (16 * (n + 1)) (drop from u)) ≡ first_blocks f (n + 1)
half-more f from n at k t u x before long made place within written =
    let done : List ℕ = take (16 * n) (drop from t) in
    let rest : List ℕ = x ++ drop k (drop at t) in
    let left = length-drop from t in
    let done_long : length (take (16 * n) (drop from t)) ≡ 16 * n = length-take-le (16 * n) (drop from t) (omega arith) in
    let front_long : length (take at t) ≡ at = length-take-le at t (omega arith) in
    let front : drop from (take at t) ≡ take (16 * n) (drop from t) = ap (λ (m : ℕ). drop from (take m t)) place ∙ drop-take from (16 * n) t in
    let behind : drop from u ≡ done ++ rest =
    ap (drop from) written ∙ drop-append-le from (take at t) rest (omega arith) ∙ ap (λ (l : List ℕ). l ++ rest) front in
    let sum : 16 * (n + 1) ≡ length done + 16 = omega (arith, done_long) in
    let cut : take (16 * (n + 1)) (drop from u) ≡ done ++ x =
    ap (take (16 * (n + 1))) behind ∙ ap (λ (m : ℕ). take m (done ++ rest)) sum ∙ take-append-add done rest 16
    ∙ ap (λ (l : List ℕ). done ++ l) (take_at x (drop k (drop at t)) 16 long) in
    ap bytes_of_words cut ∙ bytes_of_words-append done x ∙ ap₂ (λ (p q : List ℕ). p ++ q) before made ∙ sym (first_blocks-more f n)

-- what is before the place of a write stays
half-before : (from n at k : ℕ) (t u x : List ℕ) → from + 16 * n ≤ at → at ≤ length t → u ≡ put_mid at k t x → take (16 * n) (drop from u) ≡ take (16 * n) (drop from t)
half-before from n at k t u x behind within written =
    sym (drop-take from (16 * n) u) ∙ ap (drop from) (ap (take (from + 16 * n)) written ∙ take-put_mid_below at k t x (from + 16 * n) behind within) ∙ drop-take from (16 * n) t

-- what follows it too
half-behind : (from n at k : ℕ) (t u x : List ℕ) → at + k ≤ from → at ≤ length t → length x ≡ k → u ≡ put_mid at k t x
    → take (16 * n) (drop from u) ≡ take (16 * n) (drop from t)
half-behind from n at k t u x before within long written =
    ap (take (16 * n)) (ap (drop from) written ∙ drop-put_mid at k t x from before within long)

length-written : (at k : ℕ) (t u x : List ℕ) → at + k ≤ length t → length x ≡ k → u ≡ put_mid at k t x → length u ≡ length t
length-written at k t u x within long written =
    let behind : List ℕ = drop k (drop at t) in
    let front_long : length (take at t) ≡ at = length-take-le at t (omega arith) in
    let behind_long : length (drop k (drop at t)) ≡ length t - at - k = length-drop k (drop at t) ∙ ap (λ (n : ℕ). n - k) (length-drop at t) in
    let rest_long = length-append x behind in
    ap length written ∙ length-append (take at t) (x ++ behind) ∙ omega (arith, front_long, behind_long, rest_long)

-- 2 n blocks of the row were taken in, and their outputs written to the two halves of the target
pub record IsMixed (r : ℕ) (row x target : List ℕ) (n : ℕ) : Type 0 where
  pub long : length x ≡ 16
  pub words : AreWords x
  pub last : bytes_of_words x ≡ mixed_after r (bytes_of_words row) (2 * n)
  pub even : bytes_of_words (take (16 * n) target) ≡ first_blocks (λ i. mixed_after r (bytes_of_words row) (2 * i + 1)) n
  pub odd : bytes_of_words (take (16 * n) (drop (16 * r) target)) ≡ first_blocks (λ i. mixed_after r (bytes_of_words row) (2 * i + 2)) n

pub IsMixed-none : (r : ℕ) (row x target : List ℕ) → 0 < r → length row ≡ 32 * r → AreWords row → x ≡ drop (16 * (2 * r - 1)) row → IsMixed r row x target 0
IsMixed-none r row x target some long row_words e =
    let left = length-drop (16 * (2 * r - 1)) row in
    record {
      long = ap length e ∙ omega arith;
      words = rw e (AreWords-drop (16 * (2 * r - 1)) row row_words);
      last = mixed_after-none r row x some long e;
      even = refl;
      odd = refl;
    }

-- two blocks more: y and then z are X, u and then v the target
pub IsMixed-more : {r n : ℕ} (k j : ℕ) {row x y z t u v : List ℕ} → IsMixed r row x t n → n < r → length row ≡ 32 * r → length t ≡ 32 * r
    → length y ≡ 16 → length z ≡ 16 → AreWords row → k ≡ 16 → j ≡ 16
    → y ≡ salsa (xor_bytes x (take 16 (drop (16 * (2 * n)) row))) → u ≡ put_mid (16 * n) k t y
    → z ≡ salsa (xor_bytes y (take 16 (drop (16 * (2 * n + 1)) row))) → v ≡ put_mid (16 * (r + n)) j u z → IsMixed r row z v (n + 1)
IsMixed-more {r = r} {n = n} k j {row = row} {x = x} {y = y} {z = z} {t = t} {u = u} {v = v} h within long t_long y_long z_long row_words ek ej ey eu ez ev =
    let u_long : length u ≡ 32 * r = length-written (16 * n) k t u y (omega arith) (omega arith) eu ∙ t_long in
    let y_words : AreWords y = rw ey (AreWords-salsa (xor_bytes x (take 16 (drop (16 * (2 * n)) row)))) in
    let y_is : bytes_of_words y ≡ mixed_after r (bytes_of_words row) (2 * n + 1) =
    mixed_after-more r (2 * n) (2 * n + 1) row x y (omega arith) h.long h.words row_words (omega arith) h.last ey in
    let z_is : bytes_of_words z ≡ mixed_after r (bytes_of_words row) (2 * n + 2) =
    mixed_after-more r (2 * n + 1) (2 * n + 2) row y z (omega arith) y_long y_words row_words (omega arith) y_is ez in
    let twice : 2 * n + 2 ≡ 2 * (n + 1) = omega arith in
    let even : bytes_of_words (take (16 * (n + 1)) u) ≡ first_blocks (λ i. mixed_after r (bytes_of_words row) (2 * i + 1)) (n + 1) =
    half-more (λ i. mixed_after r (bytes_of_words row) (2 * i + 1)) 0 n (16 * n) k t u y h.even y_long y_is (omega arith) (omega arith) eu in
    let odd : bytes_of_words (take (16 * n) (drop (16 * r) u)) ≡ first_blocks (λ i. mixed_after r (bytes_of_words row) (2 * i + 2)) n =
    ap bytes_of_words (half-behind (16 * r) n (16 * n) k t u y (omega arith) (omega arith) (omega arith) eu) ∙ h.odd in
    record {
      long = z_long;
      words = rw ez (AreWords-salsa (xor_bytes y (take 16 (drop (16 * (2 * n + 1)) row))));
      last = z_is ∙ ap (mixed_after r (bytes_of_words row)) twice;
      even = ap bytes_of_words (half-before 0 (n + 1) (16 * (r + n)) j u v z (omega arith) (omega arith) ev) ∙ even;
      odd = half-more (λ i. mixed_after r (bytes_of_words row) (2 * i + 2)) (16 * r) n (16 * (r + n)) j u v z odd z_long z_is (omega arith) (omega arith) ev;
    }

pub IsMixed-all : (r n : ℕ) (row x target : List ℕ) → IsMixed r row x target n → n ≡ r → length target ≡ 32 * r → bytes_of_words target ≡ block_mix r (bytes_of_words row)
unfolding block_mix
IsMixed-all r n row x target h all long =
    let left = length-drop (16 * r) target in
    let whole : take (16 * r) (drop (16 * r) target) ≡ drop (16 * r) target = take_all (16 * r) _ (omega arith) in
    ap bytes_of_words (sym (take-append-drop (16 * r) target) ∙ ap (λ (l : List ℕ). take (16 * r) target ++ l) (sym whole))
    ∙ bytes_of_words-append (take (16 * r) target) (take (16 * r) (drop (16 * r) target))
    ∙ ap₂ (λ (p q : List ℕ). p ++ q) (rw all at h.even) (rw all at h.odd)
