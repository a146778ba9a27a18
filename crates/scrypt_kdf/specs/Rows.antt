-- The rows of ROMix's table on words, of which private functions speak.
use Rattle.std.specs.Prelude.{◌≡◌, ℕ, ◌*◌, ◌%◌, ◌^◌, ◌<◌, List, take, drop}
use Rattle.scrypt_kdf.specs.Salsa.{bytes_of_words}
use Rattle.scrypt_kdf.specs.Scrypt.{integerify, v_at}

-- row i of a table whose rows have 32 r words
abbrev pub row_at : ℕ → List ℕ → ℕ → List ℕ
row_at r table i = take (32 * r) (drop (32 * r * i) table)

-- the first n rows are V 0 to V (n - 1) of ROMix of these bytes
abbrev pub HoldsRows : ℕ → List ℕ → List ℕ → ℕ → Type 0
HoldsRows r bytes table n = (k : ℕ) → k < n → bytes_of_words (row_at r table k) ≡ v_at r bytes k

-- the row that X chooses, j of ROMix (section 5, step 3)
unfoldable pub chosen_row : ℕ → ℕ → List ℕ → ℕ
chosen_row cost r bytes = integerify r bytes % cost

-- a cost that is even, divides 2 ^ 32 and is below it, and a block size
pub record AreSizes (cost r : ℕ) : Type 0 where
  pub rows : 0 < cost
  pub even : cost % 2 ≡ 0
  pub divides : 2 ^ 32 % cost ≡ 0
  pub fits : cost < 2 ^ 32
  pub block : 0 < r
