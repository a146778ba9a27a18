-- A write into a host file: its chunks can be put, and the content is what the write makes of it.
use Rattle.std.proofs.Common.{◌≡◌, ◌⊎◌, inl, inr, ℕ, ◌+◌, ◌-◌, ◌*◌, ◌/◌, ◌%◌, ◌≤◌, ◌<◌, max, min, Bool, true, false, cond, ◌&&◌, ltb, List, [], ◌∷◌, length, take, drop, map, get_or, slice_get, Some, None, Option, refl, ap, sym, subst, ◌∙◌, arith, length-take}
use Rattle.std.specs.Option.{option_map}
use Rattle.std.specs.List.{range_with_len}
use Rattle.std.proofs.lemmas.Bool.{cases_lt}
use Rattle.std.proofs.lemmas.Bool.Decides.{nat_tests}
use Rattle.std.proofs.lemmas.List.{take_all}
use Rattle.std.proofs.lemmas.List.FromFn.{length-map-range_with_len}
use Rattle.vault_keys.specs.Keys.{KeyPair}
use Rattle.tree_model.specs.Rows.{Cell, good, Content, chunks, joined, joined_cells, content_length}
use Rattle.tree_model.specs.Contents.{spliced, is_met, sealed_chunk, written_cells, written, with_chunks}
use Rattle.file_chunks.specs.Header.{Head, header_opens}
use Rattle.file_chunks.specs.File.{is_bad_size, chunk_count, content_of}
use Rattle.file_chunks.proofs.Contents.{sized, length-content}
use Rattle.content_laws.specs.Rewriting.{Rewriting, put_chunks, AreSealed, CanPutChunks}
use Rattle.content_laws.specs.Laws.{IsOpened, AreChunksOf, after_write, IsMet, IsWrite, IsRewritten}
use Rattle.content_laws.proofs.Cells.{cell_at, cells_of, content_is, good_size, cell_opened, cell_kept, get_cell, all_there_each, all_there_missing}
use Rattle.content_laws.proofs.Putting.{in_front, long_enough, not_longer, before_put, behind_put, opened_put, counted}
use Rattle.content_laws.proofs.Sizes.{IsGood, is_good, IsGrown, grown, is_put}
use Rattle.content_laws.proofs.Splices.{length-spliced, length-chunk_of, chunk_of}

-- ---- the chunks can be put

module _ (old size n high m : ℕ) (facts : IsGrown old size n high m) (head : Head) (bytes : List (Option ℕ)) (len : length bytes ≡ max n high) where
  pub can_put_from : (sealed plaintexts : List (List ℕ)) (first now : ℕ) → AreChunksOf bytes first plaintexts → AreSealed head first sealed plaintexts
      → first + length plaintexts ≡ high / 32768 + min 1 (high % 32768) → old ≤ now
      → (first < high / 32768 + min 1 (high % 32768) → 68 + 32796 * first ≤ now) → (high / 32768 + min 1 (high % 32768) ≤ first → size ≤ now)
      → CanPutChunks size now first sealed
  can_put_from [] [] first now clear are count held begins done = done (omega arith)
  can_put_from [] (p ∷ ps) first now clear are count held begins done = absurd are
  can_put_from (s ∷ more) [] first now clear are count held begins done = absurd are
  can_put_from (s ∷ more) (p ∷ ps) first now clear are count held begins done =
      let long : length s ≡ length p + 28 = are.0.long in
      let part : length p ≡ min 32768 (length bytes - first * 32768) = length-chunk_of bytes first p clear.0 in
      let this = is_put old size n high m first (length s) now facts (omega arith) (omega arith) held in (
        record { short = this.short; whole = this.whole; begins = begins (omega arith); ends = this.ends },
        can_put_from more ps (first + 1) (max now (68 + 32796 * first + length s)) clear.1 are.1 (omega arith) (omega arith) this.more this.done,
      )

-- ---- which chunks are met

below_true : (a b : ℕ) → a < b → ltb a b ≡ true
below_true a b lt = grind (arith, nat_tests)

below_false : (a b : ℕ) → b ≤ a → ltb a b ≡ false
below_false a b le = grind (arith, nat_tests)

both_true : (a b : Bool) → a ≡ true → b ≡ true → (a && b) ≡ true
both_true a b p q = rw (p, q) refl

first_false : (a b : Bool) → a ≡ false → (a && b) ≡ false
first_false a b p = rw p refl

second_false : (a b : Bool) → b ≡ false → (a && b) ≡ false
second_false true b p = p
second_false false b p = refl

pub is_met-true : (low high i : ℕ) → low < (i + 1) * 32768 → i * 32768 < high → is_met low high i ≡ true
is_met-true low high i from below =
    both_true (ltb low ((i + 1) * 32768)) (ltb (i * 32768) high) (below_true low ((i + 1) * 32768) from) (below_true (i * 32768) high below)

-- the test, and what it says
data MetBy (low high i : ℕ) : Type 0 where
  test_met : is_met low high i ≡ true → low < (i + 1) * 32768 → i * 32768 < high → MetBy low high i
  lies_before : is_met low high i ≡ false → (i + 1) * 32768 ≤ low → MetBy low high i
  lies_behind : is_met low high i ≡ false → high ≤ i * 32768 → MetBy low high i

met_by : (low high i : ℕ) → MetBy low high i
met_by low high i = elim (cases_lt low ((i + 1) * 32768)) [
  | inl from ↦ elim (cases_lt (i * 32768) high) [
    | inl below ↦ test_met (is_met-true low high i from below) from below
    | inr past ↦ lies_behind (second_false (ltb low ((i + 1) * 32768)) (ltb (i * 32768) high) (below_false (i * 32768) high past)) past
  ]
  | inr past ↦ lies_before (first_false (ltb low ((i + 1) * 32768)) (ltb (i * 32768) high) (below_false low ((i + 1) * 32768) past)) past
]

-- ---- the content

module _ (keys : KeyPair) (head : Head) (n : ℕ) (bytes : List ℕ) (file : IsOpened keys head n bytes) where
  abbrev pub old_cells : List Cell
  old_cells = cells_of keys bytes

  pub content_was : content_of keys bytes ≡ chunks true old_cells
  content_was = content_is keys head bytes (sized (length bytes) n file.sized).test file.header

  pub length-was : length (joined_cells old_cells) ≡ n
  length-was = ap content_length (sym content_was) ∙ length-content keys bytes n file.key file.sized

  pub count-was : length old_cells ≡ chunk_count (length bytes)
  count-was = length-map-range_with_len (cell_at keys bytes) 0 (chunk_count (length bytes))

  -- what is in the host file afterwards
  module _ (size : ℕ) (sealed plaintexts : List (List ℕ)) (first : ℕ) (can : CanPutChunks size (length bytes) first sealed)
      (are : AreSealed head first sealed plaintexts) (header_in : 68 ≤ size) where
    abbrev pub new_bytes : List ℕ
    new_bytes = take size (put_chunks bytes first sealed)

    pub length-new : length new_bytes ≡ size
    length-new =
        let enough : size ≤ length (put_chunks bytes first sealed) = long_enough size sealed first bytes can in
        length-take size (put_chunks bytes first sealed) ∙ omega arith

    pub header_kept : take 68 new_bytes ≡ take 68 bytes
    header_kept =
        in_front size 0 68 (put_chunks bytes first sealed) (omega arith) ∙ before_put size sealed first bytes 0 68 can (omega arith)

    pub header_opens_new : header_opens keys (take 68 new_bytes) ≡ Some head
    header_opens_new = ap (header_opens keys) header_kept ∙ file.header

    pub cell_before : (i : ℕ) → i < first → 68 + 32796 * i + 32796 ≤ size → cell_at keys new_bytes i ≡ cell_at keys bytes i
    cell_before i before within =
        cell_kept keys bytes new_bytes i header_kept
        (in_front size (68 + 32796 * i) 32796 (put_chunks bytes first sealed) within
        ∙ before_put size sealed first bytes (68 + 32796 * i) 32796 can (omega arith))

    pub cell_behind : (i : ℕ) → length bytes ≤ size → first + length plaintexts ≤ i → cell_at keys new_bytes i ≡ cell_at keys bytes i
    cell_behind i grows past =
        let whole : new_bytes ≡ put_chunks bytes first sealed = take_all size (put_chunks bytes first sealed) (not_longer size sealed first bytes can grows) in
        let count : length sealed ≡ length plaintexts = counted head first sealed plaintexts are in
        cell_kept keys bytes new_bytes i header_kept
        (ap (λ (xs : List ℕ). take 32796 (drop (68 + 32796 * i) xs)) whole
        ∙ ap (take 32796) (behind_put size sealed first bytes (68 + 32796 * i) can (omega arith)))

    pub cell_new : (i j : ℕ) → i ≡ first + j → j < length plaintexts → cell_at keys new_bytes i ≡ good (get_or plaintexts j [])
    cell_new i j is inside =
        cell_opened keys head new_bytes i (get_or plaintexts j []) header_opens_new
        (opened_put head size sealed plaintexts bytes first i j is inside can are)

  -- the content, whose size is one that a content has
  pub content_now : (new : List ℕ) (size n' m : ℕ) → length new ≡ size → header_opens keys (take 68 new) ≡ Some head → IsGood size n' m
      → content_of keys new ≡ chunks true (map (cell_at keys new) (range_with_len 0 m))
  content_now new size n' m long header good_now =
      let test : is_bad_size size ≡ false = good_size size good_now.header good_now.whole in
      let count : chunk_count (length new) ≡ m = ap chunk_count long ∙ sym good_now.count in
      content_is keys head new (ap is_bad_size long ∙ test) header
      ∙ ap (λ (k : ℕ). chunks true (map (cell_at keys new) (range_with_len 0 k))) count

-- ---- a write

module _ (keys : KeyPair) (head : Head) (n : ℕ) (bytes : List ℕ) (file : IsOpened keys head n bytes) (at : ℕ) (input : List ℕ) where
  abbrev low : ℕ
  low = min at (length (joined_cells (cells_of keys bytes)))

  abbrev high : ℕ
  high = at + length input

  abbrev after : List (Option ℕ)
  after = spliced (joined_cells (cells_of keys bytes)) at input

  abbrev cell_after : ℕ → Option Cell
  cell_after i = cond (is_met low high i) (sealed_chunk after i) (slice_get (cells_of keys bytes) i)

  after-is : after_write (content_of keys bytes) at input ≡ after
  after-is = ap (λ (content : Content). spliced (joined content) at input) (content_was keys head n bytes file)

  -- a write by cells
  pub written-is : (answer : Option (List Cell)) → written_cells (cells_of keys bytes) at input ≡ answer
      → written (content_of keys bytes) at input ≡ option_map (λ cells. chunks true cells) answer
  unfolding written
  written-is answer is =
      ap (with_chunks (λ cells. written_cells cells at input)) (content_was keys head n bytes file)
      ∙ ap (option_map (λ cells. chunks true cells)) is

  pub written-none : (i : ℕ) → IsMet n at (length input) i → sealed_chunk (after_write (content_of keys bytes) at input) i ≡ None
      → written (content_of keys bytes) at input ≡ None
  written-none i met none =
      let long : length (joined_cells (cells_of keys bytes)) ≡ n = length-was keys head n bytes file in
      let from : min at n / 32768 ≤ i = met.from in
      let below : i < (at + length input) / 32768 + min 1 ((at + length input) % 32768) = met.below in
      let same : min at (length (joined_cells (cells_of keys bytes))) ≡ min at n = ap (min at) long in
      let is : is_met low high i ≡ true = is_met-true low high i (omega arith) (omega arith) in
      let here : cell_after i ≡ None =
      ap (λ (b : Bool). cond b (sealed_chunk after i) (slice_get (cells_of keys bytes) i)) is ∙ sym (ap (λ (xs : List (Option ℕ)). sealed_chunk xs i) after-is) ∙ none in
      written-is None
      (all_there_missing cell_after (max (length (cells_of keys bytes)) (high / 32768 + min 1 (high % 32768))) 0 i (omega arith) (omega arith) here)

  -- each cell of the host file afterwards is the one that the write makes
  cell_each : (size : ℕ) (sealed plaintexts : List (List ℕ)) (first : ℕ) (can : CanPutChunks size (length bytes) first sealed)
      (are : AreSealed head first sealed plaintexts) (header_in : 68 ≤ size) → length bytes ≤ size → AreChunksOf after first plaintexts
      → first ≡ min at n / 32768 → first + length plaintexts ≡ high / 32768 + min 1 (high % 32768)
      → (i : ℕ) → i < max (chunk_count (length bytes)) (high / 32768 + min 1 (high % 32768))
      → cell_after i ≡ Some (cell_at keys (take size (put_chunks bytes first sealed)) i)
  cell_each size sealed plaintexts first can are header_in grows clear is_first count i within =
      let was : IsGood (length bytes) n (chunk_count (length bytes)) = is_good (length bytes) n file.sized in
      let was_len : length bytes ≡ 68 + n + 28 * chunk_count (length bytes) = was.len in
      let was_count : chunk_count (length bytes) ≡ (length bytes - 68 + 32795) / 32796 = was.count in
      let is_low : min at (length (joined_cells (cells_of keys bytes))) ≡ min at n = ap (min at) (length-was keys head n bytes file) in
      let by_test : (b : Bool) → is_met low high i ≡ b → cell_after i ≡ cond b (sealed_chunk after i) (slice_get (cells_of keys bytes) i) =
      λ b is. ap (λ (t : Bool). cond t (sealed_chunk after i) (slice_get (cells_of keys bytes) i)) is in
      elim (met_by low high i) [
        | test_met is from below ↦
            by_test true is ∙ chunk_of after plaintexts first i (i - first) (omega arith) (omega arith) clear
            ∙ sym (ap (λ (c : Cell). Some c) (cell_new keys head n bytes file size sealed plaintexts first can are header_in i (i - first) (omega arith) (omega arith)))
        | lies_before is past ↦
            by_test false is ∙ get_cell (cell_at keys bytes) (chunk_count (length bytes)) 0 i i (omega arith) (omega arith)
            ∙ sym (ap (λ (c : Cell). Some c) (cell_before keys head n bytes file size sealed plaintexts first can are header_in i (omega arith) (omega arith)))
        | lies_behind is past ↦
            by_test false is ∙ get_cell (cell_at keys bytes) (chunk_count (length bytes)) 0 i i (omega arith) (omega arith)
            ∙ sym (ap (λ (c : Cell). Some c) (cell_behind keys head n bytes file size sealed plaintexts first can are header_in i grows (omega arith)))
      ]

  pub written-rewritten : (plaintexts : List (List ℕ)) (r : Rewriting) → 0 < length input
      → IsWrite head n (content_of keys bytes) (length bytes) at input plaintexts r
      → IsRewritten keys bytes r (written (content_of keys bytes) at input)
  written-rewritten plaintexts r some write =
      let old : ℕ = length bytes in
      let m : ℕ = chunk_count (length bytes) in
      let was : IsGood (length bytes) n (chunk_count (length bytes)) = is_good (length bytes) n file.sized in
      let was_len : length bytes ≡ 68 + n + 28 * chunk_count (length bytes) = was.len in
      let was_count : chunk_count (length bytes) ≡ (length bytes - 68 + 32795) / 32796 = was.count in
      let was_whole : ((length bytes - 68) % 32796 ≡ 0) ⊎ (28 ≤ (length bytes - 68) % 32796) = was.whole in
      let facts : IsGrown (length bytes) r.size n high (chunk_count (length bytes)) = grown (length bytes) r.size n high (chunk_count (length bytes)) was write.size in
      let header_in : 68 ≤ r.size = facts.good.header in
      let grows : length bytes ≤ r.size = facts.no_shorter in
      let long : length (joined_cells (cells_of keys bytes)) ≡ n = length-was keys head n bytes file in
      let is_low : min at (length (joined_cells (cells_of keys bytes))) ≡ min at n = ap (min at) long in
      let after_long : length after ≡ max n high = length-spliced (joined_cells (cells_of keys bytes)) at input ∙ ap (λ (l : ℕ). max l high) long in
      let clear : AreChunksOf after r.first plaintexts = subst (λ (xs : List (Option ℕ)). AreChunksOf xs r.first plaintexts) after-is write.clear in
      let first : r.first ≡ min at n / 32768 = write.first in
      let count : r.first + length plaintexts ≡ high / 32768 + min 1 (high % 32768) = write.count in
      let begins : 68 + 32796 * r.first ≤ length bytes = elim was_whole [ inl none ↦ omega arith | inr enough ↦ omega arith ] in
      let can : CanPutChunks r.size (length bytes) r.first r.sealed =
      can_put_from (length bytes) r.size n high (chunk_count (length bytes)) facts head after after_long r.sealed plaintexts r.first (length bytes) clear write.sealed count
      (omega arith) (λ _. begins) (λ none. absurd (omega arith)) in
      let new : List ℕ = take r.size (put_chunks bytes r.first r.sealed) in
      let new_long : length (take r.size (put_chunks bytes r.first r.sealed)) ≡ r.size = length-new keys head n bytes file r.size r.sealed plaintexts r.first can write.sealed header_in in
      let header_new : header_opens keys (take 68 (take r.size (put_chunks bytes r.first r.sealed))) ≡ Some head =
      header_opens_new keys head n bytes file r.size r.sealed plaintexts r.first can write.sealed header_in in
      let full : ℕ = max (chunk_count (length bytes)) (high / 32768 + min 1 (high % 32768)) in
      let new_content : content_of keys new ≡ chunks true (map (cell_at keys new) (range_with_len 0 full)) =
      content_now keys head n bytes file new r.size (max n high) full new_long header_new facts.good in
      let each : (i : ℕ) → 0 ≤ i → i < 0 + max (length (cells_of keys bytes)) (high / 32768 + min 1 (high % 32768)) → cell_after i ≡ Some (cell_at keys new i) =
      λ i _ within. cell_each r.size r.sealed plaintexts r.first can write.sealed header_in grows clear first count i (omega (arith, count-was keys head n bytes file)) in
      let cells : written_cells (cells_of keys bytes) at input ≡ Some (map (cell_at keys new) (range_with_len 0 (max (length (cells_of keys bytes)) (high / 32768 + min 1 (high % 32768))))) =
      all_there_each cell_after (cell_at keys new) (max (length (cells_of keys bytes)) (high / 32768 + min 1 (high % 32768))) 0 each in
      record {
        can = can;
        long = new_long;
        content = written-is (Some (map (cell_at keys new) (range_with_len 0 (max (length (cells_of keys bytes)) (high / 32768 + min 1 (high % 32768)))))) cells
            ∙ ap (λ (k : ℕ). Some (chunks true (map (cell_at keys new) (range_with_len 0 (max k (high / 32768 + min 1 (high % 32768))))))) (count-was keys head n bytes file)
            ∙ ap (λ (content : Content). Some content) (sym new_content);
      }
