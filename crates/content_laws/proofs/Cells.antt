-- The content of a host file as cells, and what changes make of them.
use Rattle.std.proofs.Common.{◌≡◌, ◌⊎◌, inl, inr, ℕ, zero, suc, ◌+◌, ◌-◌, ◌%◌, ◌≤◌, ◌<◌, Bool, true, false, cond, ◌||◌, ◌&&◌, ltb, List, ◌∷◌, length, take, map, slice_get, Some, None, Option, refl, ap, sym, ◌∙◌, arith}
use Rattle.std.specs.Option.{is_some, option_map, option_map_or, option_and_then}
use Rattle.std.specs.List.{range_with_len}
use Rattle.std.proofs.lemmas.Bool.{cases_lt}
use Rattle.std.proofs.lemmas.Bool.Decides.{nat_tests}
use Rattle.vault_keys.specs.Keys.{KeyPair}
use Rattle.tree_model.specs.Rows.{Cell, good, damaged, bad_size, chunks, all_there}
use Rattle.tree_model.specs.Contents.{with_chunks}
use Rattle.file_chunks.specs.Header.{Head, header_opens}
use Rattle.file_chunks.specs.Chunk.{chunk_opens}
use Rattle.file_chunks.specs.File.{is_bad_size, chunk_count, sealed_at, cell_of, content_of}
use Rattle.content_laws.specs.Laws.{IsUnopened}

-- ---- a file that doesn't open

changed_unopened : (change : List Cell → Option (List Cell)) (bad : Bool) (size : ℕ) (head : Option Head) (cells : List Cell)
    → (cond bad None (Some size) ≡ None) ⊎ (head ≡ None) → with_chunks change (cond bad bad_size (chunks (is_some head) cells)) ≡ None
changed_unopened change true size head cells either = refl
changed_unopened change false size None cells either = refl
changed_unopened change false size (Some head) cells (inl bad) = absurd cc
changed_unopened change false size (Some head) cells (inr none) = absurd cc

pub unopened : (change : List Cell → Option (List Cell)) (keys : KeyPair) (bytes : List ℕ) → IsUnopened keys bytes
    → with_chunks change (content_of keys bytes) ≡ None
unfolding content_of
unopened change keys bytes either =
    changed_unopened change (is_bad_size (length bytes)) _ (header_opens keys (take 68 bytes)) _ either

-- ---- a file that opens

-- the cell of an index of a host file
abbrev pub cell_at : KeyPair → List ℕ → ℕ → Cell
cell_at keys bytes i = cell_of (header_opens keys (take 68 bytes)) i (sealed_at bytes i)

-- the cells of a host file
abbrev pub cells_of : KeyPair → List ℕ → List Cell
cells_of keys bytes = map (cell_at keys bytes) (range_with_len 0 (chunk_count (length bytes)))

pub content_is : (keys : KeyPair) (head : Head) (bytes : List ℕ) → is_bad_size (length bytes) ≡ false → header_opens keys (take 68 bytes) ≡ Some head
    → content_of keys bytes ≡ chunks true (cells_of keys bytes)
unfolding content_of
content_is keys head bytes test header =
    ap (λ (b : Bool). cond b bad_size (chunks (is_some (header_opens keys (take 68 bytes))) (cells_of keys bytes))) test
    ∙ ap (λ (o : Option Head). chunks (is_some o) (cells_of keys bytes)) header

no_part : (a b c : Bool) → a ≡ false → (b ≡ false) ⊎ (c ≡ false) → (a || (b && c)) ≡ false
no_part true b c below either = absurd cc
no_part false false c below either = refl
no_part false true false below either = refl
no_part false true true below (inl none) = absurd cc
no_part false true true below (inr none) = absurd cc

not_below : (m n : ℕ) → n ≤ m → ltb m n ≡ false
not_below m n e = grind (arith, nat_tests)

-- a size that a content has
pub good_size : (size : ℕ) → 68 ≤ size → ((size - 68) % 32796 ≡ 0) ⊎ (28 ≤ (size - 68) % 32796) → is_bad_size size ≡ false
good_size size header whole =
    no_part (ltb size 68) (ltb 0 ((size - 68) % 32796)) (ltb ((size - 68) % 32796) 28) (not_below size 68 header)
    (elim whole [
      | inl none ↦ inl (let zero_at_most : (size - 68) % 32796 ≤ 0 = omega arith in not_below 0 ((size - 68) % 32796) zero_at_most)
      | inr enough ↦ inr (not_below ((size - 68) % 32796) 28 enough)
    ])

-- ---- cells one by one

cell_of-opened : (head : Head) (found : Option Head) (i : ℕ) (sealed plaintext : List ℕ) → found ≡ Some head → chunk_opens head i sealed ≡ Some plaintext
    → cell_of found i sealed ≡ good plaintext
cell_of-opened head found i sealed plaintext header opens =
    ap (λ (o : Option Head). option_map_or good (option_and_then (λ h. chunk_opens h i sealed) o) (damaged (length sealed - 28))) header
    ∙ ap (λ (o : Option (List ℕ)). option_map_or good o (damaged (length sealed - 28))) opens

-- a chunk that opens
pub cell_opened : (keys : KeyPair) (head : Head) (bytes : List ℕ) (i : ℕ) (plaintext : List ℕ) → header_opens keys (take 68 bytes) ≡ Some head
    → chunk_opens head i (sealed_at bytes i) ≡ Some plaintext → cell_at keys bytes i ≡ good plaintext
cell_opened keys head bytes i plaintext header opens = cell_of-opened head (header_opens keys (take 68 bytes)) i (sealed_at bytes i) plaintext header opens

-- a chunk that stays as it was
pub cell_kept : (keys : KeyPair) (old new : List ℕ) (i : ℕ) → take 68 new ≡ take 68 old → sealed_at new i ≡ sealed_at old i
    → cell_at keys new i ≡ cell_at keys old i
cell_kept keys old new i header same =
    ap (λ (h : List ℕ). cell_of (header_opens keys h) i (sealed_at new i)) header
    ∙ ap (cell_of (header_opens keys (take 68 old)) i) same

-- ---- lists of cells

pub get_cell : (f : ℕ → Cell) (m a i j : ℕ) → j ≡ a + i → i < m → slice_get (map f (range_with_len a m)) i ≡ Some (f j)
get_cell f zero a i j is inside = absurd (omega arith)
get_cell f (suc m) a zero j is inside = let same : a ≡ j = omega arith in ap (λ (k : ℕ). Some (f k)) same
get_cell f (suc m) a (suc i) j is inside = get_cell f m (a + 1) i j (omega arith) (omega arith)

-- all are there if each is
pub all_there_each : (f : ℕ → Option Cell) (g : ℕ → Cell) (m a : ℕ) → ((i : ℕ) → a ≤ i → i < a + m → f i ≡ Some (g i))
    → all_there (map f (range_with_len a m)) ≡ Some (map g (range_with_len a m))
all_there_each f g zero a each = refl
all_there_each f g (suc m) a each =
    ap (λ (o : Option Cell). all_there (o ∷ map f (range_with_len (a + 1) m))) (each a (omega arith) (omega arith))
    ∙ ap (option_map (λ rest. g a ∷ rest)) (all_there_each f g m (a + 1) (λ i from below. each i (omega arith) (omega arith)))

behind_missing : (o : Option Cell) (rest : Option (List Cell)) (xs : List (Option Cell)) → all_there xs ≡ None → all_there (o ∷ xs) ≡ None
behind_missing None rest xs none = refl
behind_missing (Some c) rest xs none = ap (option_map (λ more. c ∷ more)) none

-- and none if one is missing
pub all_there_missing : (f : ℕ → Option Cell) (m a i : ℕ) → a ≤ i → i < a + m → f i ≡ None → all_there (map f (range_with_len a m)) ≡ None
all_there_missing f zero a i from below none = absurd (omega arith)
all_there_missing f (suc m) a i from below none =
    elim (cases_lt a i) [
      | inl above ↦ behind_missing (f a) None (map f (range_with_len (a + 1) m)) (all_there_missing f m (a + 1) i (omega arith) (omega arith) none)
      | inr same ↦
          let here : i ≡ a = omega arith in
          ap (λ (o : Option Cell). all_there (o ∷ map f (range_with_len (a + 1) m))) (ap f (sym here) ∙ none)
    ]

-- cells that are the same one by one
pub same_cells : (f g : ℕ → Cell) (m a : ℕ) → ((i : ℕ) → a ≤ i → i < a + m → f i ≡ g i) → map f (range_with_len a m) ≡ map g (range_with_len a m)
same_cells f g zero a each = refl
same_cells f g (suc m) a each =
    ap (λ (c : Cell). c ∷ map f (range_with_len (a + 1) m)) (each a (omega arith) (omega arith))
    ∙ ap (λ (cs : List Cell). g a ∷ cs) (same_cells f g m (a + 1) (λ i from below. each i (omega arith) (omega arith)))
