-- Sealed chunks that lie one after the other, as the change that they make.
use Rattle.std.specs.Prelude.{◌≡◌, ◌<◌, ℕ, List, length, map}
use Rattle.std.specs.Int.{div_ceil}
use Rattle.std.specs.List.{range_with_len, AllByRecursion, concat}
use Rattle.std.specs.Fork.{slice_chunk}
use Rattle.file_chunks.specs.Sizes.{sealed_length}
use Rattle.content_laws.specs.Rewriting.{Rewriting, CanPut}
use Rattle.write_back.specs.declared.putting.SealedChunks.{SealedChunks}

-- bytes cut into pieces of a size, the last of which may be shorter
abbrev pub chunks_of : ℕ → List ℕ → List (List ℕ)
chunks_of size bytes = map (slice_chunk bytes size) (range_with_len 0 (div_ceil (length bytes) size))

-- the change that these chunks make
abbrev pub rewriting_of : SealedChunks → Rewriting
rewriting_of change = record { first = change.first; sealed = chunks_of sealed_length change.sealed.now; size = change.size }

abbrev pub HasBytes : List ℕ → Type 0
HasBytes chunk = 0 < length chunk

-- the chunks of a change, one after the other, are cut at their borders
abbrev pub CutAgain : Type 0
CutAgain = (bytes : List ℕ) (r : Rewriting) → CanPut bytes r → AllByRecursion HasBytes r.sealed → chunks_of sealed_length (concat r.sealed) ≡ r.sealed
