-- Bytes that are cut into sealed chunks.
use Rattle.std.proofs.Common.{◌≡◌, inl, inr, ℕ, zero, suc, ◌+◌, ◌*◌, ◌<◌, min, List, [], ◌∷◌, ◌++◌, length, take, drop, max, map, refl, sym, ap, ◌∙◌, arith, length-drop, length-append}
use Rattle.std.proofs.Math.ListN.{drop_of_length-le}
use Rattle.std.specs.Int.{div_ceil}
use Rattle.std.specs.List.{range_with_len, AllByRecursion, concat}
use Rattle.std.specs.Fork.{slice_chunk}
use Rattle.std.proofs.lemmas.Bool.{cases_lt}
use Rattle.std.proofs.lemmas.List.{take_at, take_all, drop_at, drop-drop, append-nil}
use Rattle.content_laws.specs.Rewriting.{place_of_chunk, CanPutChunk, CanPutChunks}
use Rattle.write_back.specs.Sealed.{chunks_of, HasBytes}

-- the pieces from one index further on are those of the bytes after the first piece
shifted : (bytes : List ℕ) (from count : ℕ) → map (slice_chunk bytes 32796) (range_with_len (from + 1) count)
    ≡ map (slice_chunk (drop 32796 bytes) 32796) (range_with_len from count)
shifted bytes from zero = refl
shifted bytes from (suc count) =
    let place : (from + 1) * 32796 ≡ 32796 + from * 32796 = omega arith in
    let piece : slice_chunk bytes 32796 (from + 1) ≡ slice_chunk (drop 32796 bytes) 32796 from =
    ap (λ (k : ℕ). take 32796 (drop k bytes)) place ∙ ap (take 32796) (sym (drop-drop (from * 32796) 32796 bytes)) in
    ap (λ (x : List ℕ). x ∷ map (slice_chunk bytes 32796) (range_with_len (from + 1 + 1) count)) piece
    ∙ ap (λ (l : List (List ℕ)). slice_chunk (drop 32796 bytes) 32796 from ∷ l) (shifted bytes (from + 1) count)

-- the first piece, and those after it
pub first_piece : (bytes : List ℕ) → 0 < length bytes → chunks_of 32796 bytes ≡ take 32796 bytes ∷ chunks_of 32796 (drop 32796 bytes)
first_piece bytes some =
    let count : div_ceil (length bytes) 32796 ≡ suc (div_ceil (length (drop 32796 bytes)) 32796) = omega (arith, length-drop 32796 bytes) in
    ap (λ (n : ℕ). map (slice_chunk bytes 32796) (range_with_len 0 n)) count
    ∙ ap (λ (l : List (List ℕ)). take 32796 bytes ∷ l) (shifted bytes 0 (div_ceil (length (drop 32796 bytes)) 32796))

-- a piece that is full, or after which there is nothing, is the first of the bytes that it begins
pub cut_first : (x rest : List ℕ) → 0 < length x → length x ≡ min 32796 (length x + length rest) → chunks_of 32796 (x ++ rest) ≡ x ∷ chunks_of 32796 rest
cut_first x rest some long = first_piece (x ++ rest) (omega (arith, length-append x rest)) ∙ elim (cases_lt (length x) 32796) [
  | inl short ↦ last rest (omega arith)
  | inr full ↦
      let is_full : length x ≡ 32796 = omega arith in
      ap (λ (l : List ℕ). l ∷ chunks_of 32796 (drop 32796 (x ++ rest))) (take_at x rest 32796 is_full)
      ∙ ap (λ (l : List ℕ). x ∷ chunks_of 32796 l) (drop_at x rest 32796 is_full)
]
  where
    last : (rest : List ℕ) → length rest ≡ 0 → take 32796 (x ++ rest) ∷ chunks_of 32796 (drop 32796 (x ++ rest)) ≡ x ∷ chunks_of 32796 rest
    last [] none =
        let all : x ++ [] ≡ x = append-nil x in
        ap (λ (l : List ℕ). take 32796 l ∷ chunks_of 32796 (drop 32796 l)) all
        ∙ ap (λ (l : List ℕ). l ∷ chunks_of 32796 (drop 32796 x)) (take_all 32796 x (omega arith))
        ∙ ap (λ (l : List ℕ). x ∷ chunks_of 32796 l) (drop_of_length-le x {i = 32796} (omega arith))
    last (y ∷ rest) none = absurd (omega arith)

-- none of them is after one that ends at the host file's end
ends_last : (size first len : ℕ) (s : List ℕ) (more : List (List ℕ)) → CanPutChunk size len first s → place_of_chunk first + length s ≡ size
    → CanPutChunks size (max len (place_of_chunk first + length s)) (first + 1) more → AllByRecursion HasBytes more → more ≡ []
ends_last size first len s [] this is can some = refl
ends_last size first len s (next ∷ more) this is can some = absurd (omega (arith, this.short, can.0.ends, some.0))

-- chunks one after the other are cut at their borders
pub again : (size : ℕ) (sealed : List (List ℕ)) (first len : ℕ) → CanPutChunks size len first sealed → AllByRecursion HasBytes sealed → chunks_of 32796 (concat sealed) ≡ sealed
again size [] first len can some = refl
again size (s ∷ more) first len can some =
    let this : CanPutChunk size len first s = can.0 in
    let rest : chunks_of 32796 (concat more) ≡ more = again size more (first + 1) (max len (place_of_chunk first + length s)) can.1 some.1 in
    let long : length s ≡ min 32796 (length s + length (concat more)) = elim this.whole [
      | inl full ↦ omega arith
      | inr last ↦ let none = ap (λ (l : List (List ℕ)). length (concat l)) (ends_last size first len s more this last can.1 some.1) in omega (arith, none, this.short)
    ] in
    cut_first s (concat more) some.0 long ∙ ap (λ (l : List (List ℕ)). s ∷ l) rest
