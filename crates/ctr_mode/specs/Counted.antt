-- A text of which some blocks are xored with the encrypted counter blocks.
use Rattle.std.specs.Prelude.{◌≡◌, ℕ, ◌*◌, List, ◌++◌, length, take, drop}
use Rattle.aes_block.specs.Bytes.{xor_bytes}
use Rattle.ctr_mode.specs.Counter.{keystream}

-- the first i blocks of old are xored in new, and what is after them is as it was
pub record IsCountedTo (cipher : List ℕ → List ℕ) (first : ℕ) (old new : List ℕ) (i : ℕ) : Type 0 where
  pub long : length (keystream cipher first i) ≡ 16 * i
  pub done : new ≡ xor_bytes (take (16 * i) old) (keystream cipher first i) ++ drop (16 * i) old
