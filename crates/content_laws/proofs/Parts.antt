-- The chunks that a change seals anew, each by the host file's chunk of its index.
use Rattle.std.proofs.Common.{◌≡◌, ◌⊎◌, inl, inr, ℕ, zero, suc, ◌+◌, ◌-◌, ◌*◌, ◌/◌, ◌%◌, ◌≤◌, ◌<◌, max, min, List, [], ◌∷◌, ◌++◌, length, take, drop, map, Some, None, Option, refl, ap, sym, subst, ◌∙◌, arith, length-drop, length-take}
use Rattle.std.specs.Option.{option_map}
use Rattle.std.proofs.lemmas.List.{take_all, drop_all, drop-take, take-map, append-nil}
use Rattle.vault_keys.specs.Keys.{KeyPair}
use Rattle.tree_model.specs.Rows.{good, joined, all_there}
use Rattle.tree_model.specs.Contents.{spliced, sealed_chunk}
use Rattle.file_chunks.specs.Header.{Head}
use Rattle.file_chunks.specs.Chunk.{chunk_opens}
use Rattle.file_chunks.specs.File.{sealed_at, content_of}
use Rattle.file_chunks.proofs.Contents.{length-content, slice_opened, slice_damaged}
use Rattle.file_chunks.proofs.SliceLemmas.{all_there-map, slice-add, both}
use Rattle.content_laws.specs.Laws.{IsOpened, after_write, patched_at, IsPartlyKept}
use Rattle.content_laws.proofs.Patches.{spliced-before, drop-spliced, take-spliced, chunk-spliced, there-spliced}

-- ---- bytes that are there, and one that isn't

rest_there : (x : ℕ) (xs : List (Option ℕ)) (o : Option (List ℕ)) (ys : List ℕ) → ((zs : List ℕ) → o ≡ Some zs → xs ≡ map (λ b. Some b) zs)
    → option_map (λ rest. x ∷ rest) o ≡ Some ys → Some x ∷ xs ≡ map (λ b. Some b) ys
rest_there x xs None ys rest e = absurd cc
rest_there x xs (Some zs) ys rest e =
    let all : x ∷ zs ≡ ys = cc in
    ap (λ (l : List (Option ℕ)). Some x ∷ l) (rest zs refl) ∙ ap (map (λ (b : ℕ). Some b)) all

-- what is all there is its bytes
there-is : (xs : List (Option ℕ)) (ys : List ℕ) → all_there xs ≡ Some ys → xs ≡ map (λ b. Some b) ys
there-is [] ys e = let none : [] ≡ ys = cc in ap (map (λ (b : ℕ). Some b)) none
there-is (None ∷ xs) ys e = absurd cc
there-is (Some x ∷ xs) ys e = rest_there x xs (all_there xs) ys (there-is xs) e

both_none : (front : Option (List ℕ)) → both front None ≡ None
both_none None = refl
both_none (Some xs) = refl

-- a slice in which a byte is missing
slice_with_gap : (xs : List (Option ℕ)) (start size q : ℕ) → start ≤ q → q < start + size → all_there (take 1 (drop q xs)) ≡ None
    → all_there (take size (drop start xs)) ≡ None
slice_with_gap xs start size q from below none =
    let before : ℕ = q - start in
    let behind : ℕ = size - (q - start) - 1 in
    let whole : size ≡ (q - start) + (1 + (size - (q - start) - 1)) = omega arith in
    let here : start + (q - start) ≡ q = omega arith in
    ap (λ (n : ℕ). all_there (take n (drop start xs))) whole
    ∙ slice-add xs start before (1 + behind)
    ∙ ap (λ (p : ℕ). both (all_there (take before (drop start xs))) (all_there (take (1 + behind) (drop p xs)))) here
    ∙ ap (both (all_there (take before (drop start xs))))
    (slice-add xs q 1 behind ∙ ap (λ (o : Option (List ℕ)). both o (all_there (take behind (drop (q + 1) xs)))) none)
    ∙ both_none (all_there (take before (drop start xs)))

first_kept : (xs : List (Option ℕ)) (at : ℕ) (bytes : List ℕ) → 0 < length xs → 0 < at → take 1 (spliced xs at bytes) ≡ take 1 xs
first_kept [] at bytes some before = absurd (omega arith)
first_kept (x ∷ xs) zero bytes some before = absurd (omega arith)
first_kept (x ∷ xs) (suc at) bytes some before = ap (take 1) (spliced-before x xs at bytes)

-- a byte that a write keeps
byte_kept : (old : List (Option ℕ)) (at : ℕ) (bytes : List ℕ) (q : ℕ) → q < length old → (q < at) ⊎ (at + length bytes ≤ q)
    → take 1 (drop q (spliced old at bytes)) ≡ take 1 (drop q old)
byte_kept old at bytes q inside (inl before) =
    ap (take 1) (drop-spliced q old at bytes) ∙ first_kept (drop q old) (at - q) (drop (q - at) bytes) (omega (arith, length-drop q old)) (omega arith)
byte_kept old at bytes q inside (inr behind) =
    let none : drop (q - at) bytes ≡ [] = drop_all (q - at) bytes (omega arith) in
    let place : at - q ≡ 0 = omega arith in
    ap (take 1) (drop-spliced q old at bytes ∙ ap (spliced (drop q old) (at - q)) none ∙ ap (λ (a : ℕ). spliced (drop q old) a []) place)

-- ---- by the chunk of the index

module _ (keys : KeyPair) (head : Head) (n : ℕ) (bytes : List ℕ) (file : IsOpened keys head n bytes) where
  -- a chunk's part of the content, if it opens
  chunk_there : (k count : ℕ) (plaintext : List ℕ) → 32768 * k < n → count ≤ 32768 → chunk_opens head k (sealed_at bytes k) ≡ Some plaintext
      → all_there (take count (drop (32768 * k) (joined (content_of keys bytes)))) ≡ Some (take count plaintext)
  chunk_there k count plaintext inside fits opens =
      let place : k ≡ 32768 * k / 32768 = omega arith in
      let begin : 32768 * k % 32768 ≡ 0 = omega arith in
      let here : chunk_opens head (32768 * k / 32768) (sealed_at bytes (32768 * k / 32768)) ≡ Some plaintext =
      subst (λ (i : ℕ). chunk_opens head i (sealed_at bytes i) ≡ Some plaintext) place opens in
      let short : (32768 * k % 32768 + count ≤ 32768) ⊎ (n ≤ 32768 * (32768 * k / 32768 + 1)) = inl (omega arith) in
      slice_opened keys bytes n (32768 * k) count head plaintext file.key file.sized inside file.header here short
      ∙ ap (λ (d : ℕ). Some (take count (drop d plaintext))) begin

  -- a byte of it, if it doesn't
  byte_missing : (k q : ℕ) → q < n → k ≡ q / 32768 → chunk_opens head k (sealed_at bytes k) ≡ None
      → all_there (take 1 (drop q (joined (content_of keys bytes)))) ≡ None
  byte_missing k q inside place none =
      slice_damaged keys bytes n q 1 head file.key file.sized inside (omega arith) file.header
      (subst (λ (i : ℕ). chunk_opens head i (sealed_at bytes i) ≡ None) place none)

  length-joined : length (joined (content_of keys bytes)) ≡ n
  length-joined = length-content keys bytes n file.key file.sized

  -- ---- a write

  module _ (at : ℕ) (input : List ℕ) (k : ℕ) where
    abbrev part : List ℕ
    part = drop (32768 * k - at) input

    abbrev window : List (Option ℕ)
    window = take 32768 (drop (32768 * k) (joined (content_of keys bytes)))

    by_window : (answer : Option (List ℕ)) → all_there (take 32768 (spliced window (at - 32768 * k) part)) ≡ answer
        → sealed_chunk (after_write (content_of keys bytes) at input) k ≡ option_map (λ clear. good clear) answer
    by_window answer is =
        let place : k * 32768 ≡ 32768 * k = omega arith in
        ap (λ (p : ℕ). option_map (λ clear. good clear) (all_there (take 32768 (drop p (after_write (content_of keys bytes) at input))))) place
        ∙ ap (λ (xs : List (Option ℕ)). option_map (λ clear. good clear) (all_there xs)) (chunk-spliced (joined (content_of keys bytes)) at input (32768 * k) 32768)
        ∙ ap (option_map (λ clear. good clear)) is

    pub patched-opened : (plaintext : List ℕ) → 32768 * k < n → chunk_opens head k (sealed_at bytes k) ≡ Some plaintext
        → sealed_chunk (after_write (content_of keys bytes) at input) k ≡ Some (good (patched_at k plaintext at input))
    patched-opened plaintext inside opens =
        let old : List (Option ℕ) = map (λ b. Some b) plaintext in
        let is : window ≡ take 32768 (map (λ b. Some b) plaintext) =
        there-is window (take 32768 plaintext) (chunk_there k 32768 plaintext inside (omega arith) opens) ∙ sym (take-map (λ (b : ℕ). Some b) 32768 plaintext) in
        by_window (Some (patched_at k plaintext at input))
        (ap (λ (w : List (Option ℕ)). all_there (take 32768 (spliced w (at - 32768 * k) part))) is
        ∙ ap all_there (sym (take-spliced 32768 old (at - 32768 * k) part))
        ∙ there-spliced plaintext (at - 32768 * k) part)

    pub patched-behind : n ≤ 32768 * k → sealed_chunk (after_write (content_of keys bytes) at input) k ≡ Some (good (patched_at k [] at input))
    patched-behind behind =
        let none : drop (32768 * k) (joined (content_of keys bytes)) ≡ [] = drop_all (32768 * k) (joined (content_of keys bytes)) (omega (arith, length-joined)) in
        by_window (Some (patched_at k [] at input))
        (ap (λ (w : List (Option ℕ)). all_there (take 32768 (spliced (take 32768 w) (at - 32768 * k) part))) none
        ∙ there-spliced [] (at - 32768 * k) part)

    pub patched-replaced : at ≤ 32768 * k → min n (32768 * (k + 1)) ≤ at + length input
        → sealed_chunk (after_write (content_of keys bytes) at input) k ≡ Some (good (take 32768 part))
    patched-replaced from over =
        let place : at - 32768 * k ≡ 0 = omega arith in
        let long : length window ≡ min 32768 (n - 32768 * k) =
        length-take 32768 (drop (32768 * k) (joined (content_of keys bytes)))
        ∙ omega (arith, length-drop (32768 * k) (joined (content_of keys bytes)), length-joined) in
        let none : drop (0 + length part) window ≡ [] = drop_all (0 + length part) window (omega (arith, length-drop (32768 * k - at) input)) in
        by_window (Some (take 32768 part))
        (ap (λ (a : ℕ). all_there (take 32768 (spliced window a part))) place
        ∙ ap (λ (rest : List (Option ℕ)). all_there (take 32768 (map (λ b. Some b) part ++ rest))) none
        ∙ ap (λ (xs : List (Option ℕ)). all_there (take 32768 xs)) (append-nil (map (λ b. Some b) part))
        ∙ ap all_there (take-map (λ (b : ℕ). Some b) 32768 part)
        ∙ all_there-map (take 32768 part))

    kept_missing : (q : ℕ) → 32768 * k ≤ q → q < 32768 * k + 32768 → q < n → (q < at) ⊎ (at + length input ≤ q)
        → chunk_opens head k (sealed_at bytes k) ≡ None → sealed_chunk (after_write (content_of keys bytes) at input) k ≡ None
    kept_missing q from below inside kept none =
        let place : k * 32768 ≡ 32768 * k = omega arith in
        let index : k ≡ q / 32768 = omega arith in
        let gap : all_there (take 1 (drop q (after_write (content_of keys bytes) at input))) ≡ None =
        ap all_there (byte_kept (joined (content_of keys bytes)) at input q (omega (arith, length-joined)) kept) ∙ byte_missing k q inside index none in
        ap (λ (p : ℕ). option_map (λ clear. good clear) (all_there (take 32768 (drop p (after_write (content_of keys bytes) at input))))) place
        ∙ ap (option_map (λ clear. good clear)) (slice_with_gap (after_write (content_of keys bytes) at input) (32768 * k) 32768 q from below gap)

    pub patched-damaged : 32768 * k < n → chunk_opens head k (sealed_at bytes k) ≡ None → IsPartlyKept n at (length input) k
        → sealed_chunk (after_write (content_of keys bytes) at input) k ≡ None
    patched-damaged inside none (inl before) = kept_missing (32768 * k) (omega arith) (omega arith) inside (inl (omega arith)) none
    patched-damaged inside none (inr behind) =
        kept_missing (max (32768 * k) (at + length input)) (omega arith) (omega arith) (omega arith) (inr (omega arith)) none

  -- ---- a cut

  module _ (m : ℕ) (shorter : m ≤ n) (within : 0 < m % 32768) where
    by_front : (answer : Option (List ℕ)) → all_there (take (m % 32768) (drop (32768 * (m / 32768)) (joined (content_of keys bytes)))) ≡ answer
        → sealed_chunk (take m (joined (content_of keys bytes))) (m / 32768) ≡ option_map (λ clear. good clear) answer
    by_front answer is =
        let all : List (Option ℕ) = joined (content_of keys bytes) in
        let place : m / 32768 * 32768 ≡ 32768 * (m / 32768) = omega arith in
        let split : m ≡ 32768 * (m / 32768) + m % 32768 = omega arith in
        let front : drop (32768 * (m / 32768)) (take m all) ≡ take (m % 32768) (drop (32768 * (m / 32768)) all) =
        ap (λ (c : ℕ). drop (32768 * (m / 32768)) (take c all)) split ∙ drop-take (32768 * (m / 32768)) (m % 32768) all in
        let short : take 32768 (take (m % 32768) (drop (32768 * (m / 32768)) all)) ≡ take (m % 32768) (drop (32768 * (m / 32768)) all) =
        take_all 32768 (take (m % 32768) (drop (32768 * (m / 32768)) all)) (omega (arith, length-take (m % 32768) (drop (32768 * (m / 32768)) all))) in
        ap (λ (p : ℕ). option_map (λ clear. good clear) (all_there (take 32768 (drop p (take m all))))) place
        ∙ ap (λ (xs : List (Option ℕ)). option_map (λ clear. good clear) (all_there (take 32768 xs))) front
        ∙ ap (λ (xs : List (Option ℕ)). option_map (λ clear. good clear) (all_there xs)) short
        ∙ ap (option_map (λ clear. good clear)) is

    pub cut-opened : (plaintext : List ℕ) → chunk_opens head (m / 32768) (sealed_at bytes (m / 32768)) ≡ Some plaintext
        → sealed_chunk (take m (joined (content_of keys bytes))) (m / 32768) ≡ Some (good (take (m % 32768) plaintext))
    cut-opened plaintext opens =
        by_front (Some (take (m % 32768) plaintext)) (chunk_there (m / 32768) (m % 32768) plaintext (omega arith) (omega arith) opens)

    pub cut-damaged : chunk_opens head (m / 32768) (sealed_at bytes (m / 32768)) ≡ None
        → sealed_chunk (take m (joined (content_of keys bytes))) (m / 32768) ≡ None
    cut-damaged none =
        let place : m / 32768 ≡ 32768 * (m / 32768) / 32768 = omega arith in
        by_front None
        (slice_with_gap (joined (content_of keys bytes)) (32768 * (m / 32768)) (m % 32768) (32768 * (m / 32768)) (omega arith) (omega arith)
        (byte_missing (m / 32768) (32768 * (m / 32768)) (omega arith) place none))
