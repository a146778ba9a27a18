-- Another length of a host file's content: a cut at a chunk's border, a cut within a chunk, and growth.
use Rattle.std.proofs.Common.{◌≡◌, inr, ℕ, ◌+◌, ◌-◌, ◌*◌, ◌/◌, ◌%◌, ◌≤◌, ◌<◌, min, Bool, true, false, cond, eqb, leb, List, [], ◌∷◌, ◌++◌, length, take, map, replicate, Some, None, Option, refl, ap, sym, ◌∙◌, arith, length-take}
use Rattle.std.specs.Option.{option_map}
use Rattle.std.specs.List.{range_with_len}
use Rattle.std.proofs.lemmas.Bool.Decides.{nat_tests}
use Rattle.std.proofs.lemmas.List.{take-take}
use Rattle.std.proofs.lemmas.List.FromFn.{take-map-range_with_len, map-range_with_len_more}
use Rattle.vault_keys.specs.Keys.{KeyPair}
use Rattle.tree_model.specs.Rows.{Cell, good, Content, chunks, joined, joined_cells}
use Rattle.tree_model.specs.Contents.{sealed_chunk, cut_cells, written_cells, resized_cells, resized, written, with_chunks}
use Rattle.file_chunks.specs.Header.{Head, header_opens}
use Rattle.file_chunks.specs.File.{chunk_count, content_of}
use Rattle.content_laws.specs.Rewriting.{put_chunks, sealed_size, IsSealed, AreSealed, CanPutChunk, CanPutChunks}
use Rattle.content_laws.specs.Laws.{IsOpened, IsRewritten, cut_by}
use Rattle.content_laws.proofs.Cells.{cell_at, cells_of, cell_kept, same_cells}
use Rattle.content_laws.proofs.Putting.{in_front}
use Rattle.content_laws.proofs.Sizes.{IsGood, is_good, good_sealed_size}
use Rattle.content_laws.proofs.Splices.{length-chunk_of}
use Rattle.content_laws.proofs.Writing.{content_was, length-was, length-new, header_opens_new, cell_before, cell_new, content_now, written-is}

within_true : (m n : ℕ) → m ≤ n → leb m n ≡ true
within_true m n le = grind (arith, nat_tests)

within_false : (m n : ℕ) → n < m → leb m n ≡ false
within_false m n lt = grind (arith, nat_tests)

same_true : (m n : ℕ) → m ≡ n → eqb m n ≡ true
same_true m n e = grind (arith, nat_tests)

same_false : (m n : ℕ) → n < m → eqb m n ≡ false
same_false m n lt = grind (arith, nat_tests)

module _ (keys : KeyPair) (head : Head) (n : ℕ) (bytes : List ℕ) (file : IsOpened keys head n bytes) (m : ℕ) where
  -- a change of the length by cells
  resized-is : (answer : Option (List Cell)) → resized_cells (cells_of keys bytes) m ≡ answer
      → resized (content_of keys bytes) m ≡ option_map (λ cells. chunks true cells) answer
  unfolding resized
  resized-is answer is =
      ap (with_chunks (λ cells. resized_cells cells m)) (content_was keys head n bytes file)
      ∙ ap (option_map (λ cells. chunks true cells)) is

  abbrev cut_tail : Option (List Cell)
  cut_tail = option_map (λ last. take (m / 32768) (cells_of keys bytes) ++ last ∷ []) (sealed_chunk (take m (joined_cells (cells_of keys bytes))) (m / 32768))

  cut-is : m ≤ n → resized_cells (cells_of keys bytes) m ≡ cond (eqb (m % 32768) 0) (Some (take (m / 32768) (cells_of keys bytes))) cut_tail
  cut-is shorter =
      let len : ℕ = length (joined_cells (cells_of keys bytes)) in
      let long : length (joined_cells (cells_of keys bytes)) ≡ n = length-was keys head n bytes file in
      ap (λ (b : Bool). cond b (cut_cells (cells_of keys bytes) m) (written_cells (cells_of keys bytes) len (replicate (m - len) 0)))
      (within_true m (length (joined_cells (cells_of keys bytes))) (omega arith))

  -- a cut at a border
  pub cut-at_border : m ≤ n → m % 32768 ≡ 0 → IsRewritten keys bytes (cut_by m []) (resized (content_of keys bytes) m)
  cut-at_border shorter border =
      let size : ℕ = sealed_size m in
      let k : ℕ = m / 32768 in
      let count : ℕ = chunk_count (length bytes) in
      let was : IsGood (length bytes) n (chunk_count (length bytes)) = is_good (length bytes) n file.sized in
      let was_len : length bytes ≡ 68 + n + 28 * chunk_count (length bytes) = was.len in
      let was_count : chunk_count (length bytes) ≡ (length bytes - 68 + 32795) / 32796 = was.count in
      let good_now : IsGood (sealed_size m) m (m / 32768 + min 1 (m % 32768)) = good_sealed_size m in
      let full : m / 32768 + min 1 (m % 32768) ≡ m / 32768 = omega arith in
      let fewer : m / 32768 ≤ chunk_count (length bytes) = omega arith in
      let within : sealed_size m ≤ length bytes = omega arith in
      let new : List ℕ = take (sealed_size m) bytes in
      let long : length (take (sealed_size m) bytes) ≡ sealed_size m = length-take (sealed_size m) bytes ∙ omega arith in
      let header : take 68 (take (sealed_size m) bytes) ≡ take 68 bytes = take-take 68 (sealed_size m) bytes (omega arith) in
      let same : map (cell_at keys bytes) (range_with_len 0 (m / 32768)) ≡ map (cell_at keys new) (range_with_len 0 (m / 32768)) =
      same_cells (cell_at keys bytes) (cell_at keys new) (m / 32768) 0
      (λ i _ below. sym (cell_kept keys bytes new i header (in_front (sealed_size m) (68 + 32796 * i) 32796 bytes (omega arith)))) in
      record {
        can = within;
        long = long;
        content = resized-is (Some (take (m / 32768) (cells_of keys bytes)))
            (cut-is shorter ∙ ap (λ (b : Bool). cond b (Some (take (m / 32768) (cells_of keys bytes))) cut_tail) (same_true (m % 32768) 0 border))
            ∙ ap (λ (cells : List Cell). Some (chunks true cells)) (take-map-range_with_len (cell_at keys bytes) 0 (chunk_count (length bytes)) (m / 32768) fewer ∙ same)
            ∙ sym (ap (λ (content : Content). Some content)
            (content_now keys head n bytes file new (sealed_size m) m (m / 32768 + min 1 (m % 32768)) long (ap (header_opens keys) header ∙ file.header) good_now
            ∙ ap (λ (c : ℕ). chunks true (map (cell_at keys new) (range_with_len 0 c))) full));
      }

  joined-is : sealed_chunk (take m (joined (content_of keys bytes))) (m / 32768) ≡ sealed_chunk (take m (joined_cells (cells_of keys bytes))) (m / 32768)
  joined-is = ap (λ (content : Content). sealed_chunk (take m (joined content)) (m / 32768)) (content_was keys head n bytes file)

  -- a cut within a chunk, of which what is kept isn't all there
  pub cut-none : m ≤ n → 0 < m % 32768 → sealed_chunk (take m (joined (content_of keys bytes))) (m / 32768) ≡ None
      → resized (content_of keys bytes) m ≡ None
  cut-none shorter within none =
      resized-is None
      (cut-is shorter ∙ ap (λ (b : Bool). cond b (Some (take (m / 32768) (cells_of keys bytes))) cut_tail) (same_false (m % 32768) 0 within)
      ∙ ap (option_map (λ last. take (m / 32768) (cells_of keys bytes) ++ last ∷ [])) (sym joined-is ∙ none))

  -- growth is a write of zeros at the end
  pub grown-is : n < m → resized (content_of keys bytes) m ≡ written (content_of keys bytes) n (replicate (m - n) 0)
  grown-is longer =
      let len : ℕ = length (joined_cells (cells_of keys bytes)) in
      let long : length (joined_cells (cells_of keys bytes)) ≡ n = length-was keys head n bytes file in
      let grows : resized_cells (cells_of keys bytes) m ≡ written_cells (cells_of keys bytes) n (replicate (m - n) 0) =
      ap (λ (b : Bool). cond b (cut_cells (cells_of keys bytes) m) (written_cells (cells_of keys bytes) len (replicate (m - len) 0)))
      (within_false m (length (joined_cells (cells_of keys bytes))) (omega arith))
      ∙ ap (λ (l : ℕ). written_cells (cells_of keys bytes) l (replicate (m - l) 0)) long in
      resized-is (written_cells (cells_of keys bytes) n (replicate (m - n) 0)) grows
      ∙ sym (written-is keys head n bytes file n (replicate (m - n) 0) (written_cells (cells_of keys bytes) n (replicate (m - n) 0)) refl)

  -- a cut within a chunk, which is sealed anew
  pub cut-within : (sealed plaintext : List ℕ) → m ≤ n → 0 < m % 32768
      → sealed_chunk (take m (joined (content_of keys bytes))) (m / 32768) ≡ Some (good plaintext) → IsSealed head (m / 32768) sealed plaintext
      → IsRewritten keys bytes (cut_by m (sealed ∷ [])) (resized (content_of keys bytes) m)
  cut-within sealed plaintext shorter within clear is_sealed =
      let was : IsGood (length bytes) n (chunk_count (length bytes)) = is_good (length bytes) n file.sized in
      let was_len : length bytes ≡ 68 + n + 28 * chunk_count (length bytes) = was.len in
      let was_count : chunk_count (length bytes) ≡ (length bytes - 68 + 32795) / 32796 = was.count in
      let good_now : IsGood (sealed_size m) m (m / 32768 + min 1 (m % 32768)) = good_sealed_size m in
      let count : m / 32768 + min 1 (m % 32768) ≡ m / 32768 + 1 = omega arith in
      let fewer : m / 32768 ≤ chunk_count (length bytes) = omega arith in
      let joined_long : length (joined_cells (cells_of keys bytes)) ≡ n = length-was keys head n bytes file in
      let front : length (take m (joined_cells (cells_of keys bytes))) ≡ m = length-take m (joined_cells (cells_of keys bytes)) ∙ omega arith in
      let tail : sealed_chunk (take m (joined_cells (cells_of keys bytes))) (m / 32768) ≡ Some (good plaintext) = sym joined-is ∙ clear in
      let part : length plaintext ≡ min 32768 (length (take m (joined_cells (cells_of keys bytes))) - m / 32768 * 32768) =
      length-chunk_of (take m (joined_cells (cells_of keys bytes))) (m / 32768) plaintext tail in
      let sealed_long : length sealed ≡ length plaintext + 28 = is_sealed.long in
      let last : 68 + 32796 * (m / 32768) + length sealed ≡ sealed_size m = omega arith in
      let this : CanPutChunk (sealed_size m) (length bytes) (m / 32768) sealed = record { short = omega arith; whole = inr last; begins = omega arith; ends = omega arith } in
      let can : CanPutChunks (sealed_size m) (length bytes) (m / 32768) (sealed ∷ []) = (this, omega arith) in
      let are : AreSealed head (m / 32768) (sealed ∷ []) (plaintext ∷ []) = (is_sealed, tt) in
      let header_in : 68 ≤ sealed_size m = omega arith in
      let new : List ℕ = take (sealed_size m) (put_chunks bytes (m / 32768) (sealed ∷ [])) in
      let before : map (cell_at keys bytes) (range_with_len 0 (m / 32768)) ≡ map (cell_at keys new) (range_with_len 0 (m / 32768)) =
      same_cells (cell_at keys bytes) (cell_at keys new) (m / 32768) 0
      (λ i _ below. sym (cell_before keys head n bytes file (sealed_size m) (sealed ∷ []) (plaintext ∷ []) (m / 32768) can are header_in i (omega arith) (omega arith))) in
      let here : good plaintext ≡ cell_at keys new (m / 32768) =
      sym (cell_new keys head n bytes file (sealed_size m) (sealed ∷ []) (plaintext ∷ []) (m / 32768) can are header_in (m / 32768) 0 (omega arith) (omega arith)) in
      let long : length new ≡ sealed_size m = length-new keys head n bytes file (sealed_size m) (sealed ∷ []) (plaintext ∷ []) (m / 32768) can are header_in in
      let header_new : header_opens keys (take 68 new) ≡ Some head =
      header_opens_new keys head n bytes file (sealed_size m) (sealed ∷ []) (plaintext ∷ []) (m / 32768) can are header_in in
      record {
        can = can;
        long = long;
        content = resized-is (Some (take (m / 32768) (cells_of keys bytes) ++ good plaintext ∷ []))
            (cut-is shorter ∙ ap (λ (b : Bool). cond b (Some (take (m / 32768) (cells_of keys bytes))) cut_tail) (same_false (m % 32768) 0 within)
            ∙ ap (option_map (λ last. take (m / 32768) (cells_of keys bytes) ++ last ∷ [])) tail)
            ∙ ap (λ (cells : List Cell). Some (chunks true (cells ++ good plaintext ∷ [])))
            (take-map-range_with_len (cell_at keys bytes) 0 (chunk_count (length bytes)) (m / 32768) fewer ∙ before)
            ∙ ap (λ (c : Cell). Some (chunks true (map (cell_at keys new) (range_with_len 0 (m / 32768)) ++ c ∷ []))) here
            ∙ ap (λ (cells : List Cell). Some (chunks true cells)) (sym (map-range_with_len_more (cell_at keys new) 0 (m / 32768) (m / 32768) (omega arith)))
            ∙ sym (ap (λ (content : Content). Some content)
            (content_now keys head n bytes file new (sealed_size m) m (m / 32768 + min 1 (m % 32768)) long header_new good_now
            ∙ ap (λ (c : ℕ). chunks true (map (cell_at keys new) (range_with_len 0 c))) count));
      }
