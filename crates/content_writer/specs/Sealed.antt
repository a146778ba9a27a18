-- The sealed chunks of a change: how they lie in memory, what is drawn for them, and what they can be put into.
use Rattle.std.specs.Prelude.{◌≡◌, ◌≤◌, ◌<◌, ◌^◌, ℕ, List, length, take, map, All}
use Rattle.std.specs.Int.{div_ceil}
use Rattle.std.specs.List.{range_with_len, flat_map}
use Rattle.std.specs.Fork.{slice_chunk}
use Rattle.file_chunks.specs.Sizes.{nonce_length, sealed_length}
use Rattle.content_laws.specs.Rewriting.{Rewriting, CanPutChunks}
use Rattle.content_writer.specs.declared.sealed.TheConstants.{CHUNK_LIMIT}

-- bytes cut into pieces of a size, the last of which may be shorter
abbrev pub chunks_of : ℕ → List ℕ → List (List ℕ)
chunks_of size bytes = map (slice_chunk bytes size) (range_with_len 0 (div_ceil (length bytes) size))

-- each of these sealed chunks is full
abbrev pub AreFull : List (List ℕ) → Type 0
AreFull sealed = All (λ chunk. length chunk ≡ sealed_length) sealed

-- the nonces of sealed chunks, one after the other
abbrev pub nonces_of : List (List ℕ) → List ℕ
nonces_of sealed = flat_map (take nonce_length) sealed

-- a host file of `old_size` bytes can be changed so, whatever it holds: the chunks can be put one after the other, and they are few
pub record IsPuttable (old_size : ℕ) (r : Rewriting) : Type 0 where
  pub can : CanPutChunks r.size old_size r.first r.sealed
  pub few : length r.sealed ≤ CHUNK_LIMIT
  pub short : All (λ chunk. length chunk ≤ sealed_length) r.sealed
  pub fits : r.size < 2 ^ 64
