-- ROMix on words: the rows of the table, and X step by step.
use Rattle.std.proofs.Common.{◌≡◌, ℕ, suc, ◌+◌, ◌-◌, ◌*◌, ◌%◌, ◌^◌, ◌<◌, ◌≤◌, List, ◌++◌, length, get_or, take, drop, sym, ap, ap₂, ◌∙◌, arith, inl, inr}
use Rattle.std.proofs.lemmas.Bool.{cases_lt}
use Rattle.std.proofs.lemmas.List.{drop-take, drop_at, take-take, take_at, take_rest}
use Rattle.std.proofs.Math.Nat.{mod-lt, mul-le-mul_left}
use Rattle.byteorder.specs.Endian.{little_number, little_from}
use Rattle.aes_block.specs.Bytes.{xor_bytes}
use Rattle.scrypt_kdf.specs.Rows.{HoldsRows, chosen_row, row_at}
use Rattle.scrypt_kdf.specs.Salsa.{bytes_of_words}
use Rattle.scrypt_kdf.specs.Scrypt.{block_mix, v_at, x_after}
use Rattle.scrypt_kdf.proofs.Words.{four_first, low_word_decides, word_at-is}

-- ---- the table

-- a row is the same in two tables that are the same up to its end
row_at-same : (r i n : ℕ) (t u : List ℕ) → i < n → take (32 * r * n) u ≡ take (32 * r * n) t → row_at r u i ≡ row_at r t i
row_at-same r i n t u below same =
    let rows : 32 * r * (i + 1) ≤ 32 * r * n = mul-le-mul_left (32 * r) (omega arith) in
    let end : 32 * r * i + 32 * r ≡ 32 * r * (i + 1) = omega arith in
    let front : take (32 * r * i + 32 * r) u ≡ take (32 * r * i + 32 * r) t =
    sym (take-take (32 * r * i + 32 * r) (32 * r * n) u (omega arith)) ∙ ap (take (32 * r * i + 32 * r)) same ∙ take-take (32 * r * i + 32 * r) (32 * r * n) t (omega arith) in
    sym (drop-take (32 * r * i) (32 * r) u) ∙ ap (drop (32 * r * i)) front ∙ drop-take (32 * r * i) (32 * r) t

pub HoldsRows-first : (r : ℕ) (x t : List ℕ) → take (32 * r) t ≡ x → HoldsRows r (bytes_of_words x) t 1
unfolding v_at
HoldsRows-first r x t e k below =
    let first : k ≡ 0 = omega arith in
    let start : 32 * r * 0 ≡ 0 = omega arith in
    rw (first, start) (ap bytes_of_words e)

pub HoldsRows-more : (r i : ℕ) (bytes t u : List ℕ) → 0 < i → HoldsRows r bytes t i → take (32 * r * i) u ≡ take (32 * r * i) t
    → bytes_of_words (row_at r u i) ≡ block_mix r (bytes_of_words (row_at r t (i - 1))) → HoldsRows r bytes u (i + 1)
unfolding v_at
HoldsRows-more r i bytes t u behind before kept made k below = elim (cases_lt k i) [
  | inl lower ↦ ap bytes_of_words (row_at-same r k i t u lower kept) ∙ before k lower
  | inr top ↦
      let here : k ≡ i = omega arith in
      let next : i ≡ suc (i - 1) = omega arith in
      let value : bytes_of_words (row_at r u i) ≡ v_at r bytes (suc (i - 1)) = made ∙ ap (block_mix r) (before (i - 1) (omega arith)) in
      rw here (value ∙ ap (v_at r bytes) (sym next))
]

-- a row that was written between two parts
pub row_at-written : (r i : ℕ) (before row behind : List ℕ) → length before ≡ 32 * r * i → length row ≡ 32 * r → row_at r (before ++ (row ++ behind)) i ≡ row
row_at-written r i before row behind start long = ap (take (32 * r)) (drop_at before (row ++ behind) (32 * r * i) start) ∙ take_at row behind (32 * r) long

-- the last row of the first i
pub row_at-last : (r i : ℕ) (front t : List ℕ) → 0 < i → front ≡ take (32 * r * i) t → take (length front - 32 * r * (i - 1)) (drop (32 * r * (i - 1)) front) ≡ row_at r t (i - 1)
row_at-last r i front t behind e =
    let next : i ≡ i - 1 + 1 = omega arith in
    let sum : 32 * r * i ≡ 32 * r * (i - 1) + 32 * r = ap (λ (n : ℕ). 32 * r * n) next ∙ omega arith in
    take_rest front (32 * r * (i - 1)) ∙ ap (drop (32 * r * (i - 1))) (e ∙ ap (λ (n : ℕ). take n t) sum) ∙ drop-take (32 * r * (i - 1)) (32 * r) t

-- ---- X

-- the number in the last block, modulo a divisor of 2 ^ 32, by the block's first word
pub chosen_row-is : (cost r : ℕ) (x : List ℕ) → 0 < r → 0 < cost → 2 ^ 32 % cost ≡ 0 → length x ≡ 32 * r → get_or x (32 * r - 16) 0 < 2 ^ 32
    → get_or x (32 * r - 16) 0 % cost ≡ chosen_row cost r (bytes_of_words x)
unfolding chosen_row
chosen_row-is cost r x some rows divides long word =
    let place : 64 * (2 * r - 1) ≡ 4 * (32 * r - 16) = omega arith in
    let last : List ℕ = drop (64 * (2 * r - 1)) (bytes_of_words x) in
    let low : little_number 4 last ≡ get_or x (32 * r - 16) 0 =
    ap (λ (n : ℕ). little_number 4 (drop n (bytes_of_words x))) place ∙ word_at-is x (32 * r - 16) word (omega arith) in
    sym (ap (λ (n : ℕ). n % cost) (four_first 60 last) ∙ low_word_decides (little_number 4 last) (little_from 4 60 last) cost rows divides ∙ ap (λ (n : ℕ). n % cost) low)

pub x_after-none : (cost r : ℕ) (bytes t x : List ℕ) → 0 < cost → HoldsRows r bytes t cost
    → bytes_of_words x ≡ block_mix r (bytes_of_words (row_at r t (cost - 1))) → bytes_of_words x ≡ x_after cost r bytes 0
unfolding x_after v_at
x_after-none cost r bytes t x rows holds made =
    let next : cost ≡ suc (cost - 1) = omega arith in
    let value : bytes_of_words x ≡ v_at r bytes (suc (cost - 1)) = made ∙ ap (block_mix r) (holds (cost - 1) (omega arith)) in
    value ∙ ap (v_at r bytes) (sym next)

pub x_after-more : (cost r n m : ℕ) (bytes t x y : List ℕ) → m ≡ suc n → 0 < cost → HoldsRows r bytes t cost → bytes_of_words x ≡ x_after cost r bytes n
    → bytes_of_words y ≡ block_mix r (xor_bytes (bytes_of_words x) (bytes_of_words (row_at r t (chosen_row cost r (bytes_of_words x)))))
    → bytes_of_words y ≡ x_after cost r bytes m
unfolding x_after chosen_row
x_after-more cost r n m bytes t x y next rows holds before mixed =
    let row = holds (chosen_row cost r (bytes_of_words x)) (mod-lt _ rows) in
    rw next (mixed ∙ ap (block_mix r) (ap₂ xor_bytes before (row ∙ ap (λ (l : List ℕ). v_at r bytes (chosen_row cost r l)) before)))
