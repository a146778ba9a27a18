-- A text of which some blocks are xored with the encrypted counters.
use Rattle.std.specs.Prelude.{◌≡◌, ℕ, ◌+◌, ◌*◌, ◌%◌, ◌^◌, List, ◌++◌, length, take, drop}
use Rattle.aes_block.specs.Bytes.{xor_bytes, bytes_of}
use Rattle.siv_mode.specs.Siv.{keystream}

-- the counter i places on from the first, encrypted
abbrev pub encrypted_counter : (List ℕ → List ℕ) → ℕ → ℕ → List ℕ
encrypted_counter ctr first i = ctr (bytes_of 16 ((first + i) % 2 ^ 128))

-- the first i blocks of old are xored in new, and what is after them is as it was
pub record IsCountedTo (ctr : List ℕ → List ℕ) (first : ℕ) (old new : List ℕ) (i : ℕ) : Type 0 where
  pub long : length (keystream ctr first i) ≡ 16 * i
  pub done : new ≡ xor_bytes (take (16 * i) old) (keystream ctr first i) ++ drop (16 * i) old
