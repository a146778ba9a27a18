-- What a CMAC whose text comes in pieces has taken of it.
use Rattle.std.specs.Prelude.{◌≡◌, ℕ, List, length, take}
use Rattle.siv_mode.specs.Cmac.{chained, block_at, blocks_before_last}

-- the cipher is chained over the blocks of a text before the last one, and the last one's bytes are kept
pub record HasAbsorbed (cipher : List ℕ → List ℕ) (chain block : List ℕ) (filled : ℕ) (text : List ℕ) : Type 0 where
  pub chained_before : chain ≡ chained cipher text (blocks_before_last (length text))
  pub last : take filled block ≡ block_at text (blocks_before_last (length text))
