-- A text of which some blocks are xored with the encrypted counter blocks.
use Rattle.std.specs.Prelude.{◌≡◌, ℕ, ◌*◌, List, ◌++◌, length, take, drop}
use Rattle.aes_block.specs.Bytes.{xor_bytes}
use Rattle.gcm_mode.specs.Gcm.{keystream}

-- the first n blocks of old are xored in now, and what is after them is as it was
pub record Counted (cipher : List ℕ → List ℕ) (nonce old : List ℕ) (n : ℕ) (now : List ℕ) : Type 0 where
  pub blocks : length (keystream cipher nonce n) ≡ 16 * n
  pub done : now ≡ xor_bytes (take (16 * n) old) (keystream cipher nonce n) ++ drop (16 * n) old
