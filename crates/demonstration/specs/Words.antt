-- The random words of a demonstration.
use Rattle.std.specs.Prelude.{ℕ, List, ◌++◌, replicate}
use Rattle.std.specs.Int.{w64, to_be_bytes}
use Rattle.rand_chacha.specs.ChaCha.{word_at, key_of}

-- what a stream of a seed begins from: both numbers as eight bytes, the most significant first, and 16 zeros
unfoldable pub stream_seed : ℕ → ℕ → List ℕ
stream_seed seed stream = to_be_bytes w64 seed ++ to_be_bytes w64 stream ++ replicate 16 0

-- word k of a stream, counted from 0: that of ChaCha20 from there
unfoldable pub stream_word : ℕ → ℕ → ℕ → ℕ
stream_word seed stream k = word_at 10 (key_of (stream_seed seed stream)) 0 k
