-- Bytes drawn from a generator.
use Rattle.std.specs.Prelude.{ℕ, zero, suc, ◌+◌, List, [], ◌++◌}
use Rattle.std.specs.Int.{w32, to_le_bytes}
use Rattle.rand_chacha.specs.ChaCha.{word_at}
use Rattle.outside_mem.specs.Plan.{Plan}

-- a generator's key, and how many words were drawn
pub record Drawing : Type 0 where
  pub key : List ℕ
  pub words : ℕ
  pub plan : Plan

-- n words of ChaCha20's stream 0 from a place on, each as four bytes, the least significant first
abbrev pub words_from : List ℕ → ℕ → ℕ → List ℕ
words_from key place zero = []
words_from key place (suc n) = words_from key place n ++ to_le_bytes w32 (word_at 10 key 0 (place + n))

-- all bytes that were drawn
abbrev pub drawn_bytes : Drawing → List ℕ
drawn_bytes drawing = words_from drawing.key 0 drawing.words
