-- Sealed chunks one after the other, and one more.
use Rattle.std.proofs.Common.{◌≡◌, ℕ, zero, suc, ◌+◌, ◌*◌, ◌/◌, ◌%◌, ◌<◌, ◌≤◌, min, List, [], ◌∷◌, ◌++◌, length, take, drop, map, get_or, refl, sym, ap, subst, ◌∙◌, arith, inl, inr, length-take, length-drop, length-append}
use Rattle.std.specs.List.{range_with_len}
use Rattle.std.specs.Fork.{slice_chunk}
use Rattle.std.proofs.Math.Seq.{take-append-add}
use Rattle.std.proofs.lemmas.Bool.{cases_lt}
use Rattle.std.proofs.lemmas.List.{take_all, take-take, take-append-le, drop_at, drop-append-le}
use Rattle.std.proofs.lemmas.List.Elements.{All-get_or}
use Rattle.std.proofs.lemmas.List.FromFn.{length-map-range_with_len, map-range_with_len_more, get_or-map-range_with_len}
use Rattle.content_writer.specs.Sealed.{chunks_of, AreFull}

-- the same at each index
same_map : {X : Type 0} (f g : ℕ → X) (n a : ℕ) → ((i : ℕ) → a ≤ i → i < a + n → f i ≡ g i) → map f (range_with_len a n) ≡ map g (range_with_len a n)
same_map f g zero a each = refl
same_map {X = X} f g (suc n) a each =
    ap (λ (x : X). x ∷ map f (range_with_len (a + 1) n)) (each a (omega arith) (omega arith))
    ∙ ap (λ (xs : List X). g a ∷ xs) (same_map f g n (a + 1) (λ i from below. each i (omega arith) (omega arith)))

pub length-chunks_of : (bytes : List ℕ) → length (chunks_of 32796 bytes) ≡ length bytes / 32796 + min 1 (length bytes % 32796)
length-chunks_of bytes = length-map-range_with_len (slice_chunk bytes 32796) 0 (length bytes / 32796 + min 1 (length bytes % 32796))

-- how many bytes full chunks are
pub length-full : (bytes : List ℕ) → AreFull (chunks_of 32796 bytes) → length bytes ≡ 32796 * length (chunks_of 32796 bytes)
length-full bytes full = elim (cases_lt 0 (length bytes % 32796)) [
  | inl some ↦
      let last : ℕ = length bytes / 32796 in
      let count : length (chunks_of 32796 bytes) ≡ length bytes / 32796 + 1 = omega (arith, length-chunks_of bytes) in
      let at : get_or (chunks_of 32796 bytes) (length bytes / 32796) [] ≡ slice_chunk bytes 32796 (length bytes / 32796) =
      get_or-map-range_with_len (slice_chunk bytes 32796) 0 (length bytes / 32796 + min 1 (length bytes % 32796)) (length bytes / 32796) (length bytes / 32796) [] (omega arith) (omega arith) in
      let long : length (get_or (chunks_of 32796 bytes) (length bytes / 32796) []) ≡ 32796 =
      All-get_or (λ (chunk : List ℕ). length chunk ≡ 32796) (chunks_of 32796 bytes) (length bytes / 32796) [] (omega arith) full in
      absurd (omega (arith, long, ap length at, length-take 32796 (drop (length bytes / 32796 * 32796) bytes), length-drop (length bytes / 32796 * 32796) bytes))
  | inr none ↦ omega (arith, length-chunks_of bytes)
]

-- a chunk that begins within the front, one of full chunks, is the front's
same_chunk : (k i : ℕ) (xs ys : List ℕ) → length xs ≡ 32796 * k → i < k → slice_chunk (xs ++ ys) 32796 i ≡ slice_chunk xs 32796 i
same_chunk k i xs ys long inside =
    ap (take 32796) (drop-append-le (i * 32796) xs ys (omega arith))
    ∙ take-append-le 32796 (drop (i * 32796) xs) ys (omega (arith, length-drop (i * 32796) xs))

-- one more chunk after full ones
pub chunks_of-pushed : (k : ℕ) (xs ys : List ℕ) → length xs ≡ 32796 * k → 0 < length ys → length ys ≤ 32796 → chunks_of 32796 (xs ++ ys) ≡ chunks_of 32796 xs ++ ys ∷ []
chunks_of-pushed k xs ys long some short =
    let all : length (xs ++ ys) / 32796 + min 1 (length (xs ++ ys) % 32796) ≡ k + 1 = omega (arith, length-append xs ys) in
    let before : length xs / 32796 + min 1 (length xs % 32796) ≡ k = omega arith in
    let last : slice_chunk (xs ++ ys) 32796 k ≡ ys = ap (take 32796) (drop_at xs ys (k * 32796) (omega arith)) ∙ take_all 32796 ys short in
    ap (λ (n : ℕ). map (slice_chunk (xs ++ ys) 32796) (range_with_len 0 n)) all
    ∙ map-range_with_len_more (slice_chunk (xs ++ ys) 32796) 0 k k (omega arith)
    ∙ ap (λ (c : List ℕ). map (slice_chunk (xs ++ ys) 32796) (range_with_len 0 k) ++ c ∷ []) last
    ∙ ap (λ (cs : List (List ℕ)). cs ++ ys ∷ []) (same_map (slice_chunk (xs ++ ys) 32796) (slice_chunk xs 32796) k 0 (λ i _ below. same_chunk k i xs ys long (omega arith)))
    ∙ ap (λ (n : ℕ). map (slice_chunk xs 32796) (range_with_len 0 n) ++ ys ∷ []) (sym before)

-- room for 36 chunks, of which the front is these
module _ (room : List ℕ) (used : ℕ) (old : List (List ℕ)) (is : chunks_of 32796 (take used room) ≡ old) (long : length room ≡ 1180656) (fits : used ≤ 1180656) (full : AreFull old) where
  pub used-full : used ≡ 32796 * length old
  used-full =
      let all : length (take used room) ≡ 32796 * length (chunks_of 32796 (take used room)) = length-full (take used room) (subst AreFull (sym is) full) in
      omega (arith, all, ap length is, length-take used room)

  -- one more, if bytes were put after the front
  pub pushed_in : (n size : ℕ) (out rest more : List ℕ) → 0 < n → n ≤ 32796 → n ≤ length out → used + n ≤ size
      → chunks_of 32796 (take (used + n) (take size ((take used room ++ (out ++ rest)) ++ more))) ≡ old ++ take n out ∷ []
  pushed_in n size out rest more some short there within =
      let front : length (take used room) ≡ used = omega (arith, length-take used room) in
      let last : length (take n out) ≡ n = omega (arith, length-take n out) in
      let all : used + n ≤ length (take used room ++ (out ++ rest)) = omega (arith, length-append (take used room) (out ++ rest), length-append out rest, front) in
      ap (chunks_of 32796)
      (take-take (used + n) size ((take used room ++ (out ++ rest)) ++ more) within
      ∙ take-append-le (used + n) (take used room ++ (out ++ rest)) more all
      ∙ ap (λ (k : ℕ). take (k + n) (take used room ++ (out ++ rest))) (sym front)
      ∙ take-append-add (take used room) (out ++ rest) n
      ∙ ap (λ (xs : List ℕ). take used room ++ xs) (take-append-le n out rest there))
      ∙ chunks_of-pushed (length old) (take used room) (take n out) (omega (arith, used-full)) (omega arith) (omega arith)
      ∙ ap (λ (cs : List (List ℕ)). cs ++ take n out ∷ []) is
