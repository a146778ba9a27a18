-- Parts of lists, and the chunks that a slice meets.
use Rattle.std.proofs.Common.{◌≡◌, ℕ, ◌+◌, ◌-◌, ◌*◌, ◌/◌, ◌<◌, ◌≤◌, min, Bool, true, false, cond, Some, None, List, length, take, drop, sym, ap, ◌∙◌, arith, inl, inr, length-drop}
use Rattle.std.proofs.lemmas.Bool.{cases_lt}
use Rattle.std.proofs.lemmas.List.{take_all, drop-take, take-take, drop-drop}
use Rattle.std.proofs.lemmas.Option.{same_Some}
use Rattle.file_chunks.specs.File.{clear_length, is_bad_size}
use Rattle.content_reader.specs.Reading.{Meets, AreChunksOf}

-- ---- parts of lists

pub part_of_front : {A : Type 0} (offset more k : ℕ) (xs : List A) → offset + more ≤ k → take more (drop offset (take k xs)) ≡ take more (drop offset xs)
part_of_front offset more k xs h =
    let split : k ≡ offset + (k - offset) = omega arith in
    ap (λ (n : ℕ). take more (drop offset (take n xs))) split ∙ ap (take more) (drop-take offset (k - offset) xs) ∙ take-take more (k - offset) (drop offset xs) (omega arith)

-- no more than all
pub take_min : {A : Type 0} (k n : ℕ) (xs : List A) → n ≡ min k (length xs) → take n xs ≡ take k xs
take_min k n xs is = elim (cases_lt (length xs) k) [
  | inl short ↦ take_all n xs (omega arith) ∙ sym (take_all k xs (omega arith))
  | inr long ↦ let same : n ≡ k = omega arith in ap (λ (m : ℕ). take m xs) same
]

-- a part of a list that may end before it does
pub part_to_end : {A : Type 0} (place room start end : ℕ) (xs : List A) → start ≡ min place (length xs) → end ≡ min (start + room) (length xs)
    → take (end - start) (drop start xs) ≡ take room (drop place xs)
part_to_end {A = A} place room start end xs at to = elim (cases_lt (length xs) place) [
  | inl past ↦ take_min room (end - start) (drop start xs) (omega (arith, length-drop start xs)) ∙ nothing past
  | inr within ↦
      let same : start ≡ place = omega arith in
      take_min room (end - start) (drop start xs) (omega (arith, length-drop start xs)) ∙ ap (λ (n : ℕ). take room (drop n xs)) same
]
  where
    empty_is : (a b : List A) → length a ≡ 0 → length b ≡ 0 → a ≡ b
    empty_is a b x y = sym (take_all 0 a (omega arith)) ∙ take_all 0 b (omega arith)

    nothing : length xs < place → take room (drop start xs) ≡ take room (drop place xs)
    nothing past = ap (take room) (empty_is (drop start xs) (drop place xs) (omega (arith, length-drop start xs)) (omega (arith, length-drop place xs)))

-- ---- the chunks that a slice meets

pub few_chunks : (at count first chunks : ℕ) → count ≤ 65536 → first ≡ at / 32768 → Meets at count first chunks → chunks ≤ 3
few_chunks at count first chunks few is meets = elim (cases_lt 3 chunks) [
  | inl more ↦
      let p = (meets (first + 3)).0 (omega arith, omega arith) in
      let place : p.0 / 32768 ≡ first + 3 = p.3 in
      let under : p.0 < at + count = p.2 in
      absurd (omega arith)
  | inr less ↦ less
]

met : (at count first chunks index : ℕ) → Meets at count first chunks → at / 32768 ≤ index → 32768 * index < at + count → 0 < count → index < first + chunks
met at count first chunks index meets low high some = elim (cases_lt (32768 * index) at) [
  | inl inside ↦ ((meets index).1 (at, omega arith, omega arith, omega arith)).1
  | inr behind ↦ ((meets index).1 (32768 * index, behind, high, omega arith)).1
]

-- what was read from the first chunk on
pub chunks_read : (at count first chunks n : ℕ) (bytes front : List ℕ) → 0 < count → first ≡ at / 32768 → Meets at count first chunks
    → n ≡ min (32796 * chunks) (length bytes - (68 + 32796 * first)) → front ≡ take n (drop (68 + 32796 * first) bytes) → AreChunksOf at count bytes front
chunks_read at count first chunks n bytes front some is meets counted read index low high =
    let under : index < first + chunks = met at count first chunks index meets low high some in
    let all : take n (drop (68 + 32796 * first) bytes) ≡ take (32796 * chunks) (drop (68 + 32796 * first) bytes) =
    take_min (32796 * chunks) n (drop (68 + 32796 * first) bytes) (omega (arith, length-drop (68 + 32796 * first) bytes)) in
    let place : 68 + 32796 * first + 32796 * (index - at / 32768) ≡ 68 + 32796 * index = omega arith in
    ap (λ (xs : List ℕ). take 32796 (drop (32796 * (index - at / 32768)) xs)) (read ∙ all)
    ∙ part_of_front (32796 * (index - at / 32768)) 32796 (32796 * chunks) (drop (68 + 32796 * first) bytes) (omega arith)
    ∙ ap (take 32796) (drop-drop (32796 * (index - at / 32768)) (68 + 32796 * first) bytes ∙ ap (λ (k : ℕ). drop k bytes) place)

-- the first chunk of a slice of a content lies within its host file
pub place_within : (size n at : ℕ) → clear_length size ≡ Some n → at < n → 68 + 32796 * (at / 32768) ≤ size
place_within size n at sized inside = by_test (is_bad_size size) sized
  where
    by_test : (b : Bool) → cond b None (Some (size - 68 - 28 * ((size - 68 + 32795) / 32796))) ≡ Some n → 68 + 32796 * (at / 32768) ≤ size
    by_test true e = absurd cc
    by_test false e =
        let len : size - 68 - 28 * ((size - 68 + 32795) / 32796) ≡ n = same_Some (size - 68 - 28 * ((size - 68 + 32795) / 32796)) n e in
        omega arith

-- if a slice has a byte there is room for a header
pub header_within : (size n at : ℕ) → clear_length size ≡ Some n → at < n → 68 ≤ size
header_within size n at sized inside = let h = place_within size n at sized inside in omega arith
