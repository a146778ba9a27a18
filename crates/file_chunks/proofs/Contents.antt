-- What the content of a host file is, chunk by chunk.
use Rattle.std.proofs.Common.{◌≡◌, ℕ, ◌+◌, ◌-◌, ◌*◌, ◌/◌, ◌%◌, ◌≤◌, ◌<◌, min, Bool, true, false, cond, ◌||◌, ◌&&◌, ltb, List, [], ◌++◌, length, take, drop, map, Some, None, Option, refl, ap, sym, ◌∙◌, ◌⊎◌, inl, inr, arith, length-append, length-drop, length-take}
use Rattle.std.specs.Prelude.{◌↔◌}
use Rattle.std.specs.Option.{is_some, option_map, option_map_or, option_and_then}
use Rattle.std.specs.List.{range_with_len}
use Rattle.std.proofs.lemmas.Bool.{cases_lt}
use Rattle.std.proofs.lemmas.Bool.Decides.{nat_tests}
use Rattle.std.proofs.lemmas.List.{length-map, length-replicate}
use Rattle.vault_keys.specs.Keys.{KeyPair}
use Rattle.tree_model.specs.Rows.{Cell, good, damaged, cell_bytes, Content, bad_size, chunks, joined, content_length, slice_of, all_there}
use Rattle.file_chunks.specs.Header.{Head, head_of, header_opens}
use Rattle.file_chunks.specs.Envelope.{envelope_opens}
use Rattle.file_chunks.specs.Chunk.{associated_data, chunk_opens}
use Rattle.file_chunks.specs.File.{is_bad_size, chunk_count, sealed_at, cell_of, content_of, clear_length, IsKey}
use Rattle.file_chunks.proofs.KeptLengths.{length-envelope}
use Rattle.file_chunks.proofs.Chunks.{joined_from, HaveLengths, length-joined_from, from_chunk}
use Rattle.file_chunks.proofs.SliceLemmas.{slice_behind, slice_missing, slice_there, both, slice-add}

-- ---- sizes

same_badness : (b : Bool) (n : ℕ) (opens : Bool) (cells : List Cell)
    → (cond b None (Some n) ≡ None) ↔ (cond b bad_size (chunks opens cells) ≡ bad_size)
same_badness true n opens cells = (λ _. refl, λ _. refl)
same_badness false n opens cells = (λ e. absurd cc, λ e. absurd cc)

pub bad_content : (keys : KeyPair) (bytes : List ℕ) → (clear_length (length bytes) ≡ None) ↔ (content_of keys bytes ≡ bad_size)
unfolding content_of
bad_content keys bytes = same_badness (is_bad_size (length bytes)) _ _ _

is_good : (b : Bool) (m n : ℕ) → cond b None (Some m) ≡ Some n → (b ≡ false) × (n ≡ m)
is_good true m n e = absurd cc
is_good false m n e = (refl, cc)

-- a size that isn't bad, and the length of the content
pub record IsSized (size n : ℕ) : Type 0 where
  pub test : is_bad_size size ≡ false
  pub header : 68 ≤ size
  pub whole : ((size - 68) % 32796 ≡ 0) ⊎ (28 ≤ (size - 68) % 32796)
  pub len : n ≡ size - 68 - 28 * ((size - 68 + 32795) / 32796)

no_part : (a b c : Bool) → (a || (b && c)) ≡ false → (a ≡ false) × ((b ≡ false) ⊎ (c ≡ false))
no_part true b c e = absurd cc
no_part false false c e = (refl, inl refl)
no_part false true c e = (refl, inr e)

not_below : (m n : ℕ) → ltb m n ≡ false → n ≤ m
not_below m n e = grind (arith, nat_tests)

pub sized : (size n : ℕ) → clear_length size ≡ Some n → IsSized size n
sized size n e =
    let known = is_good (is_bad_size size) (size - 68 - 28 * ((size - 68 + 32795) / 32796)) n e in
    let parts = no_part (ltb size 68) (ltb 0 ((size - 68) % 32796)) (ltb ((size - 68) % 32796) 28) known.0 in
    record {
      test = known.0;
      header = not_below size 68 parts.0;
      whole = elim parts.1 [
        | inl none ↦ inl (let zero_at_most : (size - 68) % 32796 ≤ 0 = not_below 0 ((size - 68) % 32796) none in omega arith)
        | inr enough ↦ inr (not_below ((size - 68) % 32796) 28 enough)
      ];
      len = known.1;
    }

-- ---- lengths

mapped : {T U : Type 0} (f : T → U) (o : Option T) (y : U) → option_map f o ≡ Some y → (x : T) × (o ≡ Some x) × (f x ≡ y)
mapped f None y e = absurd cc
mapped f (Some x) y e = (x, refl, cc)

-- the content key of a header that opens
head_key : (keys : KeyPair) (bytes : List ℕ) (head : Head) → IsKey keys.enc → 68 ≤ length bytes
    → header_opens keys (take 68 bytes) ≡ Some head → IsKey head.key
unfolding header_opens
head_key keys bytes head key long opens =
    let header : List ℕ = take 68 bytes in
    let payload = mapped (head_of header) (envelope_opens keys.enc [] header) head opens in
    let same : length payload.0 ≡ length (take 68 bytes) - 28 = length-envelope keys.enc [] header payload.0 key payload.1 in
    let is : drop 8 payload.0 ≡ head.key = ap (λ (h : Head). h.key) payload.2 in
    ap length (sym is) ∙ omega (arith, length-drop 8 payload.0, length-take 68 bytes)

-- what a chunk opens to is as long as its ciphertext
length-chunk : (head : Head) (index : ℕ) (sealed plaintext : List ℕ) → IsKey head.key → chunk_opens head index sealed ≡ Some plaintext
    → length plaintext ≡ length sealed - 28
unfolding chunk_opens
length-chunk head index sealed plaintext key opens = length-envelope head.key (associated_data head index) sealed plaintext key opens

cell_length_of : (n : ℕ) (plaintext : Option (List ℕ)) → ((bytes : List ℕ) → plaintext ≡ Some bytes → length bytes ≡ n)
    → length (cell_bytes (option_map_or good plaintext (damaged n))) ≡ n
cell_length_of n None same = length-replicate n None
cell_length_of n (Some bytes) same = length-map bytes (λ (b : ℕ). Some b) ∙ same bytes refl

cell_length : (head : Option Head) (i : ℕ) (sealed : List ℕ) → ((h : Head) → head ≡ Some h → IsKey h.key)
    → length (cell_bytes (cell_of head i sealed)) ≡ length sealed - 28
cell_length None i sealed key = length-replicate (length sealed - 28) None
cell_length (Some h) i sealed key =
    cell_length_of (length sealed - 28) (chunk_opens h i sealed) (λ plaintext opens. length-chunk h i sealed plaintext (key h refl) opens)

length-sealed_at : (bytes : List ℕ) (i : ℕ) → length (sealed_at bytes i) ≡ min 32796 (length bytes - 68 - 32796 * i)
length-sealed_at bytes i =
    length-take 32796 (drop (68 + 32796 * i) bytes) ∙ ap (min 32796) (length-drop (68 + 32796 * i) bytes ∙ omega arith)

-- the chunk of each byte is there
pub length-sealed_chunk : (bytes : List ℕ) (n at : ℕ) → clear_length (length bytes) ≡ Some n → at < n
    → length (sealed_at bytes (at / 32768)) ≡ min 32768 (n - 32768 * (at / 32768)) + 28
length-sealed_chunk bytes n at e inside =
    let facts = sized (length bytes) n e in
    length-sealed_at bytes (at / 32768) ∙ omega arith

-- ---- the content of a file of this size

abbrev cell_at : KeyPair → List ℕ → ℕ → Cell
cell_at keys bytes i = cell_of (header_opens keys (take 68 bytes)) i (sealed_at bytes i)

joined_is : (keys : KeyPair) (bytes : List ℕ) → is_bad_size (length bytes) ≡ false
    → joined (content_of keys bytes) ≡ joined_from (cell_at keys bytes) 0 (chunk_count (length bytes))
unfolding content_of
joined_is keys bytes test = rw test refl

pub good_content : (keys : KeyPair) (bytes : List ℕ) (n : ℕ) → clear_length (length bytes) ≡ Some n
    → (cells : List Cell) × (content_of keys bytes ≡ chunks (is_some (header_opens keys (take 68 bytes))) cells)
unfolding content_of
good_content keys bytes n e =
    let facts = sized (length bytes) n e in
    (map (cell_at keys bytes) (range_with_len 0 (chunk_count (length bytes))), rw facts.test refl)

have_lengths : (keys : KeyPair) (bytes : List ℕ) → IsKey keys.enc → 68 ≤ length bytes
    → HaveLengths (cell_at keys bytes) (length bytes - 68)
have_lengths keys bytes key long i =
    cell_length (header_opens keys (take 68 bytes)) i (sealed_at bytes i) (λ head opens. head_key keys bytes head key long opens)
    ∙ ap (λ (m : ℕ). m - 28) (length-sealed_at bytes i)

pub length-content : (keys : KeyPair) (bytes : List ℕ) (n : ℕ) → IsKey keys.enc → clear_length (length bytes) ≡ Some n
    → content_length (content_of keys bytes) ≡ n
length-content keys bytes n key e =
    let facts = sized (length bytes) n e in
    let total : ℕ = length bytes - 68 in
    let len : n ≡ length bytes - 68 - 28 * ((length bytes - 68 + 32795) / 32796) = facts.len in
    let all = length-joined_from (cell_at keys bytes) total (chunk_count (length bytes)) 0 (have_lengths keys bytes key facts.header) (omega arith) facts.whole in
    ap length (joined_is keys bytes facts.test) ∙ all ∙ omega arith

pub slice_empty : (keys : KeyPair) (bytes : List ℕ) (n at count : ℕ) → IsKey keys.enc → clear_length (length bytes) ≡ Some n
    → (n ≤ at) ⊎ (count ≡ 0) → slice_of (content_of keys bytes) at count ≡ Some []
slice_empty keys bytes n at count key e none =
    let len : length (joined (content_of keys bytes)) ≡ n = length-content keys bytes n key e in
    slice_behind (joined (content_of keys bytes)) at count (elim none [ inl behind ↦ inl (omega arith) | inr nothing ↦ inr nothing ])

-- from a byte on: the rest of its chunk, and what follows
record IsFrom (keys : KeyPair) (bytes : List ℕ) (n at : ℕ) (rest : List (Option ℕ)) : Type 0 where
  is : drop at (joined (content_of keys bytes)) ≡ drop (at % 32768) (cell_bytes (cell_at keys bytes (at / 32768)) ++ rest)
  this : length (cell_bytes (cell_at keys bytes (at / 32768))) ≡ min 32768 (n - 32768 * (at / 32768))
  behind : length rest ≡ n - 32768 * (at / 32768) - length (cell_bytes (cell_at keys bytes (at / 32768)))

from_byte : (keys : KeyPair) (bytes : List ℕ) (n at : ℕ) → IsKey keys.enc → clear_length (length bytes) ≡ Some n → at < n
    → (rest : List (Option ℕ)) × IsFrom keys bytes n at rest
from_byte keys bytes n at key e inside =
    let facts = sized (length bytes) n e in
    let header : 68 ≤ length bytes = facts.header in
    let whole : ((length bytes - 68) % 32796 ≡ 0) ⊎ (28 ≤ (length bytes - 68) % 32796) = facts.whole in
    let len : n ≡ length bytes - 68 - 28 * ((length bytes - 68 + 32795) / 32796) = facts.len in
    let k : ℕ = at / 32768 in
    let cell : ℕ → Cell = cell_at keys bytes in
    let lengths : HaveLengths (cell_at keys bytes) (length bytes - 68) = have_lengths keys bytes key header in
    let m : ℕ = (length bytes - 68 + 32795) / 32796 in
    let met : at / 32768 < (length bytes - 68 + 32795) / 32796 = omega arith in
    let full : (i : ℕ) → i < at / 32768 → length (cell_bytes (cell_at keys bytes i)) ≡ 32768 = λ i below. lengths i ∙ omega arith in
    let found = from_chunk cell k m 0 k (at % 32768) (omega arith) met full in
    let place : at ≡ 32768 * (at / 32768) + at % 32768 = omega arith in
    let is : drop at (joined (content_of keys bytes)) ≡ drop (at % 32768) (cell_bytes (cell_at keys bytes (at / 32768)) ++ found.0) =
    ap (drop at) (joined_is keys bytes facts.test) ∙ ap (λ (a : ℕ). drop a (joined_from (cell_at keys bytes) 0 m)) place ∙ found.1 in
    let this : length (cell_bytes (cell_at keys bytes (at / 32768))) ≡ min 32768 (n - 32768 * (at / 32768)) = lengths k ∙ omega arith in
    let all : length (joined (content_of keys bytes)) ≡ n = length-content keys bytes n key e in
    let left : n - at ≡ length (cell_bytes (cell_at keys bytes (at / 32768)) ++ found.0) - at % 32768 =
    ap (λ (l : ℕ). l - at) (sym all) ∙ sym (length-drop at (joined (content_of keys bytes))) ∙ ap length is
    ∙ length-drop (at % 32768) (cell_bytes (cell_at keys bytes (at / 32768)) ++ found.0) in
    let sum : length (cell_bytes (cell_at keys bytes (at / 32768)) ++ found.0) ≡ length (cell_bytes (cell_at keys bytes (at / 32768))) + length found.0 =
    length-append (cell_bytes (cell_at keys bytes (at / 32768))) found.0 in
    (found.0, record { is = is; this = this; behind = omega arith })

-- ---- slices

cell_unopened : (head : Option Head) (i : ℕ) (sealed : List ℕ) → option_and_then (λ h. chunk_opens h i sealed) head ≡ None
    → cell_of head i sealed ≡ damaged (length sealed - 28)
cell_unopened head i sealed none = ap (λ (o : Option (List ℕ)). option_map_or good o (damaged (length sealed - 28))) none

cell_opened : (head : Option Head) (i : ℕ) (sealed plaintext : List ℕ) → option_and_then (λ h. chunk_opens h i sealed) head ≡ Some plaintext
    → cell_of head i sealed ≡ good plaintext
cell_opened head i sealed plaintext some = ap (λ (o : Option (List ℕ)). option_map_or good o (damaged (length sealed - 28))) some

slice_unopened : (keys : KeyPair) (bytes : List ℕ) (n at count : ℕ) → IsKey keys.enc → clear_length (length bytes) ≡ Some n
    → at < n → 0 < count
    → option_and_then (λ h. chunk_opens h (at / 32768) (sealed_at bytes (at / 32768))) (header_opens keys (take 68 bytes)) ≡ None
    → slice_of (content_of keys bytes) at count ≡ None
slice_unopened keys bytes n at count key e inside some none =
    let from = from_byte keys bytes n at key e inside in
    let rest : List (Option ℕ) = from.0 in
    let q : ℕ = length (sealed_at bytes (at / 32768)) - 28 in
    let cell : cell_at keys bytes (at / 32768) ≡ damaged q = cell_unopened (header_opens keys (take 68 bytes)) (at / 32768) (sealed_at bytes (at / 32768)) none in
    let this : length (cell_bytes (cell_at keys bytes (at / 32768))) ≡ min 32768 (n - 32768 * (at / 32768)) = from.1.this in
    let size : length (cell_bytes (cell_at keys bytes (at / 32768))) ≡ q = ap (λ (c : Cell). length (cell_bytes c)) cell ∙ length-replicate q None in
    ap (λ (xs : List (Option ℕ)). all_there (take count xs))
    (from.1.is ∙ ap (λ (c : Cell). drop (at % 32768) (cell_bytes c ++ rest)) cell)
    ∙ slice_missing q (at % 32768) count rest (omega arith) some

pub slice_closed : (keys : KeyPair) (bytes : List ℕ) (n at count : ℕ) → IsKey keys.enc → clear_length (length bytes) ≡ Some n
    → at < n → 0 < count → header_opens keys (take 68 bytes) ≡ None → slice_of (content_of keys bytes) at count ≡ None
slice_closed keys bytes n at count key e inside some none =
    slice_unopened keys bytes n at count key e inside some
    (ap (option_and_then (λ h. chunk_opens h (at / 32768) (sealed_at bytes (at / 32768)))) none)

pub slice_damaged : (keys : KeyPair) (bytes : List ℕ) (n at count : ℕ) (head : Head) → IsKey keys.enc → clear_length (length bytes) ≡ Some n
    → at < n → 0 < count → header_opens keys (take 68 bytes) ≡ Some head → chunk_opens head (at / 32768) (sealed_at bytes (at / 32768)) ≡ None
    → slice_of (content_of keys bytes) at count ≡ None
slice_damaged keys bytes n at count head key e inside some opens none =
    slice_unopened keys bytes n at count key e inside some
    (ap (option_and_then (λ h. chunk_opens h (at / 32768) (sealed_at bytes (at / 32768)))) opens ∙ none)

pub slice_opened : (keys : KeyPair) (bytes : List ℕ) (n at count : ℕ) (head : Head) (plaintext : List ℕ) → IsKey keys.enc
    → clear_length (length bytes) ≡ Some n → at < n → header_opens keys (take 68 bytes) ≡ Some head
    → chunk_opens head (at / 32768) (sealed_at bytes (at / 32768)) ≡ Some plaintext
    → (at % 32768 + count ≤ 32768) ⊎ (n ≤ 32768 * (at / 32768 + 1))
    → slice_of (content_of keys bytes) at count ≡ Some (take count (drop (at % 32768) plaintext))
slice_opened keys bytes n at count head plaintext key e inside header chunk no_further =
    let from = from_byte keys bytes n at key e inside in
    let rest : List (Option ℕ) = from.0 in
    let both_open : option_and_then (λ h. chunk_opens h (at / 32768) (sealed_at bytes (at / 32768))) (header_opens keys (take 68 bytes)) ≡ Some plaintext =
    ap (option_and_then (λ h. chunk_opens h (at / 32768) (sealed_at bytes (at / 32768)))) header ∙ chunk in
    let cell : cell_at keys bytes (at / 32768) ≡ good plaintext =
    cell_opened (header_opens keys (take 68 bytes)) (at / 32768) (sealed_at bytes (at / 32768)) plaintext both_open in
    let size : length (cell_bytes (cell_at keys bytes (at / 32768))) ≡ length plaintext =
    ap (λ (c : Cell). length (cell_bytes c)) cell ∙ length-map plaintext (λ (b : ℕ). Some b) in
    let this : length (cell_bytes (cell_at keys bytes (at / 32768))) ≡ min 32768 (n - 32768 * (at / 32768)) = from.1.this in
    let behind : length rest ≡ n - 32768 * (at / 32768) - length (cell_bytes (cell_at keys bytes (at / 32768))) = from.1.behind in
    let end : (at % 32768 + count ≤ length plaintext) ⊎ (length rest ≡ 0) =
    elim (cases_lt (length plaintext) (at % 32768 + count)) [
      | inl past ↦ inr (elim no_further [ inl short ↦ omega arith | inr last ↦ omega arith ])
      | inr within ↦ inl within
    ] in
    ap (λ (xs : List (Option ℕ)). all_there (take count xs))
    (from.1.is ∙ ap (λ (c : Cell). drop (at % 32768) (cell_bytes c ++ rest)) cell)
    ∙ slice_there plaintext (at % 32768) count rest (omega arith) end

pub slices_joined : (content : Content) (at first second : ℕ)
    → slice_of content (at) (first + second) ≡ both (slice_of content at first) (slice_of content (at + first) second)
slices_joined content at first second = slice-add (joined content) at first second
