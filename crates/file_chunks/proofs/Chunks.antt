-- The joined chunks of a file: all are full but for the last.
use Rattle.std.proofs.Common.{◌≡◌, ℕ, zero, suc, ◌+◌, ◌-◌, ◌*◌, ◌/◌, ◌%◌, ◌≤◌, ◌<◌, min, List, ◌++◌, length, drop, map, Option, ap, sym, ◌∙◌, ◌⊎◌, arith, length-append}
use Rattle.std.specs.List.{flat_map, range_with_len}
use Rattle.std.proofs.lemmas.List.{drop_at, drop-drop}
use Rattle.tree_model.specs.Rows.{Cell, cell_bytes}

-- the joined cells of the chunks from a on, m of them
abbrev pub joined_from : (ℕ → Cell) → ℕ → ℕ → List (Option ℕ)
joined_from cell a m = flat_map cell_bytes (map cell (range_with_len a m))

-- each chunk is as long as its part of a file with `total` bytes after the header
abbrev pub HaveLengths : (ℕ → Cell) → ℕ → Type 0
HaveLengths cell total = (i : ℕ) → length (cell_bytes (cell i)) ≡ min 32796 (total - 32796 * i) - 28

pub length-joined_from : (cell : ℕ → Cell) (total m a : ℕ) → HaveLengths cell total → m ≡ (total - 32796 * a + 32795) / 32796
    → (total % 32796 ≡ 0) ⊎ (28 ≤ total % 32796) → length (joined_from cell a m) ≡ total - 32796 * a - 28 * m
length-joined_from cell total zero a lengths count whole = omega arith
length-joined_from cell total (suc m) a lengths count whole =
    let this : length (cell_bytes (cell a)) ≡ min 32796 (total - 32796 * a) - 28 = lengths a in
    let rest : length (joined_from cell (a + 1) m) ≡ total - 32796 * (a + 1) - 28 * m =
    length-joined_from cell total m (a + 1) lengths (omega arith) whole in
    length-append (cell_bytes (cell a)) (joined_from cell (a + 1) m) ∙ omega arith

-- what is there from a place in chunk j on, after full chunks
pub from_chunk : (cell : ℕ → Cell) (k m a j r : ℕ) → j ≡ a + k → k < m → ((i : ℕ) → i < j → length (cell_bytes (cell i)) ≡ 32768)
    → (rest : List (Option ℕ)) × (drop (32768 * k + r) (joined_from cell a m) ≡ drop r (cell_bytes (cell j) ++ rest))
from_chunk cell k zero a j r is inside full = absurd (omega arith)
from_chunk cell zero (suc m) a j r is inside full =
    let same : a ≡ j = omega arith in (
      joined_from cell (a + 1) m,
      ap (λ (n : ℕ). drop n (joined_from cell a (suc m))) (omega arith) ∙ ap (λ (n : ℕ). drop r (cell_bytes (cell n) ++ joined_from cell (a + 1) m)) same,
    )
from_chunk cell (suc k) (suc m) a j r is inside full =
    let later : (rest : List (Option ℕ)) × (drop (32768 * k + r) (joined_from cell (a + 1) m) ≡ drop r (cell_bytes (cell j) ++ rest)) =
    from_chunk cell k m (a + 1) j r (omega arith) (omega arith) full in
    let split : 32768 * suc k + r ≡ 32768 + (32768 * k + r) = omega arith in (
      later.0,
      ap (λ (n : ℕ). drop n (joined_from cell a (suc m))) split
          ∙ sym (drop-drop (32768 * k + r) 32768 (joined_from cell a (suc m)))
          ∙ ap (drop (32768 * k + r)) (drop_at (cell_bytes (cell a)) (joined_from cell (a + 1) m) 32768 (full a (omega arith)))
          ∙ later.1,
    )
