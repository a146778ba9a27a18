-- The blocks, turn by turn, and the output, block by block.
use Rattle.std.proofs.Common.{◌≡◌, ℕ, suc, ◌+◌, ◌-◌, ◌*◌, ◌/◌, ◌%◌, ◌^◌, ◌<◌, min, List, [], ◌∷◌, ◌++◌, length, take, drop, refl, sym, ap, ap₂, ◌∙◌, append_assoc, length-append, length-drop, arith}
use Rattle.std.specs.Int.{w32, to_be_bytes}
use Rattle.std.specs.List.{flat_map, range_with_len}
use Rattle.std.proofs.lemmas.List.{append-nil, drop-drop, drop_all, drop_at, flat_map_more, map-id, take_all, take_at, take_min, drop_min}
use Rattle.std.proofs.Math.Seq.{take-append-add}
use Rattle.std.proofs.lemmas.List.FromFn.{map-range_with_len_more}
use borrow.Rule.Slice.PartMut.{put_mid}
use Rattle.aes_block.specs.Bytes.{bytes_of, xor_bytes}
use Rattle.scrypt_kdf.specs.Pbkdf2.{block, pbkdf2, prf, u_after, xored_us}

-- ---- a block

-- std writes a number as its lowest 4 bytes
to_be_bytes-is : (n : ℕ) → to_be_bytes w32 n ≡ bytes_of 4 n
to_be_bytes-is n =
    let whole : n / 1 ≡ n = omega arith in
    rw whole refl

pub counter-is : (salt counter : List ℕ) (n m : ℕ) → counter ≡ to_be_bytes w32 n → n ≡ m % 2 ^ 32 → salt ++ counter ≡ salt ++ bytes_of 4 (m % 2 ^ 32)
counter-is salt counter n m e en = ap (λ (l : List ℕ). salt ++ l) (e ∙ to_be_bytes-is n ∙ ap (bytes_of 4) en)

pub u_after-none : (password first u : List ℕ) (t : ℕ) → u ≡ prf password first → t ≡ 0 → u ≡ u_after password first t
unfolding u_after
u_after-none password first u t e et = rw et e

pub xored_us-none : (password first u : List ℕ) (t : ℕ) → u ≡ prf password first → t ≡ 0 → u ≡ xored_us password first t
unfolding xored_us
xored_us-none password first u t e et = rw et (u_after-none password first u 0 e refl)

pub u_after-more : (password first u u' : List ℕ) (t t' : ℕ) → t' ≡ suc t → u ≡ u_after password first t → u' ≡ prf password u → u' ≡ u_after password first t'
unfolding u_after
u_after-more password first u u' t t' et e e' = rw et (e' ∙ ap (prf password) e)

pub xored_us-more : (password first u x x' : List ℕ) (t t' : ℕ) → t' ≡ suc t → u ≡ u_after password first t' → x ≡ xored_us password first t
    → x' ≡ xor_bytes x u → x' ≡ xored_us password first t'
unfolding xored_us
xored_us-more password first u x x' t t' et eu e e' = rw et (e' ∙ ap₂ xor_bytes e (eu ∙ ap (u_after password first) et))

-- ---- the output

-- the first n of the blocks that f makes
abbrev pub first_blocks : (ℕ → List ℕ) → ℕ → List ℕ
first_blocks f n = flat_map f (range_with_len 0 n)

range-more : (n : ℕ) → range_with_len 0 (n + 1) ≡ range_with_len 0 n ++ n ∷ []
range-more n = sym (map-id _) ∙ map-range_with_len_more (λ x. x) 0 n n (omega arith) ∙ ap (λ (l : List ℕ). l ++ n ∷ []) (map-id _)

pub first_blocks-more : (f : ℕ → List ℕ) (n : ℕ) → first_blocks f (n + 1) ≡ first_blocks f n ++ f n
first_blocks-more f n = ap (flat_map f) (range-more n) ∙ sym (flat_map_more f [] (range_with_len 0 n) n)

-- the first n blocks are written into out
pub record IsFilled (f : ℕ → List ℕ) (init out : List ℕ) (n : ℕ) : Type 0 where
  pub long : length (first_blocks f n) ≡ 32 * n
  pub done : out ≡ take (length init) (first_blocks f n) ++ drop (32 * n) init

pub filled-none : (f : ℕ → List ℕ) (init : List ℕ) → IsFilled f init init 0
filled-none f init = record { long = refl; done = ap (λ (l : List ℕ). l ++ init) (sym (take_all (length init) [] (omega arith))) }

-- a block more, cut where the output ends
pub filled-more : (f : ℕ → List ℕ) (init out out' made part : List ℕ) (n k : ℕ) → IsFilled f init out n → 32 * n < length init → length made ≡ 32
    → made ≡ f n → k ≡ min (length init - 32 * n) 32 → part ≡ take k made → out' ≡ put_mid (32 * n) k out part → IsFilled f init out' (n + 1)
filled-more f init out out' made part n k h within long e ek ep eo =
    let before : List ℕ = first_blocks f n in
    let whole : take (length init) before ≡ before = take_all (length init) before (omega (arith, h.long)) in
    let same : out ≡ before ++ drop (32 * n) init = h.done ∙ ap (λ (l : List ℕ). l ++ drop (32 * n) init) whole in
    let front : take (32 * n) out ≡ before = ap (take (32 * n)) same ∙ take_at before (drop (32 * n) init) (32 * n) h.long in
    let rest : drop (32 * n) out ≡ drop (32 * n) init = ap (drop (32 * n)) same ∙ drop_at before (drop (32 * n) init) (32 * n) h.long in
    let next = first_blocks-more f n ∙ ap (λ (l : List ℕ). first_blocks f n ++ l) (sym e) in
    let length_next : length (first_blocks f (n + 1)) ≡ 32 * (n + 1) = ap length next ∙ length-append before made ∙ omega (arith, h.long, long) in
    let shortest : k ≡ min (length init - 32 * n) (length made) = ek ∙ ap (min (length init - 32 * n)) (sym long) in
    let cut : take k made ≡ take (length init - 32 * n) made = ap (λ (m : ℕ). take m made) shortest ∙ take_min (length init - 32 * n) made in
    let left = length-drop (32 * n) init in
    let shortest' : k ≡ min 32 (length (drop (32 * n) init)) = omega (arith, ek, left) in
    let end : 32 * n + 32 ≡ 32 * (n + 1) = omega arith in
    let behind : drop k (drop (32 * n) init) ≡ drop (32 * (n + 1)) init =
    ap (λ (m : ℕ). drop m (drop (32 * n) init)) shortest' ∙ drop_min 32 (drop (32 * n) init) ∙ drop-drop 32 (32 * n) init ∙ ap (λ (m : ℕ). drop m init) end in
    let sum : length init ≡ length before + (length init - 32 * n) = omega (arith, h.long) in
    let shorter : take (length init) (before ++ made) ≡ before ++ take (length init - 32 * n) made =
    ap (λ (m : ℕ). take m (first_blocks f n ++ made)) sum ∙ take-append-add before made (length init - 32 * n) in
    record {
      long = length_next;
      done = eo ∙ ap₂ (λ (p q : List ℕ). p ++ (q ++ drop k (drop (32 * n) out))) front (ep ∙ cut)
          ∙ ap (λ (l : List ℕ). first_blocks f n ++ (take (length init - 32 * n) made ++ l)) (ap (drop k) rest ∙ behind)
          ∙ sym (append_assoc (first_blocks f n) (take (length init - 32 * n) made) (drop (32 * (n + 1)) init))
          ∙ ap (λ (l : List ℕ). l ++ drop (32 * (n + 1)) init) (sym shorter ∙ ap (take (length init)) (sym next));
    }

-- all blocks
pub filled-all : (password salt out init : List ℕ) (turns n : ℕ) → IsFilled (λ i. block password salt turns (i + 1)) init out n → n ≡ (length init + 31) / 32
    → out ≡ pbkdf2 password salt turns (length init)
unfolding pbkdf2
filled-all password salt out init turns n h e =
    let behind : drop (32 * n) init ≡ [] = drop_all (32 * n) init (omega (arith, e)) in
    h.done ∙ ap (λ (l : List ℕ). take (length init) (first_blocks (λ i. block password salt turns (i + 1)) n) ++ l) behind
    ∙ append-nil _ ∙ ap (λ (m : ℕ). take (length init) (first_blocks (λ i. block password salt turns (i + 1)) m)) e
