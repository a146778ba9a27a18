-- A content file in which some chunks are sealed anew: what is put into its host file, and what that leaves.
use Rattle.std.specs.Prelude.{◌≡◌, ◌⊎◌, ⊤, ℕ, ◌+◌, ◌*◌, ◌≤◌, max, List, [], ◌∷◌, length, take, Some}
use Rattle.std.specs.Int.{div_ceil}
use Rattle.outside.specs.Changes.{overwritten}
use Rattle.file_chunks.specs.Header.{Head}
use Rattle.file_chunks.specs.Chunk.{chunk_opens}
use Rattle.file_chunks.specs.Sizes.{chunk_length, header_length, sealed_length, sealing_length}

-- the index of the first chunk that is sealed anew, those chunks as they are sealed, one index after the other, and how many
-- bytes the host file has afterwards
pub record Rewriting : Type 0 where
  pub first : ℕ
  pub sealed : List (List ℕ)
  pub size : ℕ

-- where the chunk of an index is in its host file
abbrev pub place_of_chunk : ℕ → ℕ
place_of_chunk index = header_length + sealed_length * index

-- the host file with the chunks from an index on put at their places, one after the other
abbrev pub put_chunks : List ℕ → ℕ → List (List ℕ) → List ℕ
put_chunks bytes first [] = bytes
put_chunks bytes first (sealed ∷ more) = put_chunks (overwritten bytes (place_of_chunk first) sealed) (first + 1) more

-- the host file afterwards
abbrev pub rewritten : List ℕ → Rewriting → List ℕ
rewritten bytes r = take r.size (put_chunks bytes r.first r.sealed)

-- how many bytes the host file of a content of this length has, whose last chunk isn't empty
abbrev pub sealed_size : ℕ → ℕ
sealed_size n = header_length + n + sealing_length * div_ceil n chunk_length

-- the chunk of this index, sealed
pub record IsSealed (head : Head) (index : ℕ) (sealed plaintext : List ℕ) : Type 0 where
  pub opens : chunk_opens head index sealed ≡ Some plaintext
  pub long : length sealed ≡ length plaintext + sealing_length

-- these chunks from an index on, sealed
abbrev pub AreSealed : Head → ℕ → List (List ℕ) → List (List ℕ) → Type 0
AreSealed head first [] [] = ⊤
AreSealed head first [] (plaintext ∷ plaintexts) = ⊥
AreSealed head first (sealed ∷ more) [] = ⊥
AreSealed head first (sealed ∷ more) (plaintext ∷ plaintexts) = IsSealed head first sealed plaintext × AreSealed head (first + 1) more plaintexts

-- a sealed chunk can be put into a file of `len` bytes that has `size` afterwards: it is full or the last of the file, begins no
-- further than the file's end, and ends within the size
pub record CanPutChunk (size len index : ℕ) (sealed : List ℕ) : Type 0 where
  pub short : length sealed ≤ sealed_length
  pub whole : (length sealed ≡ sealed_length) ⊎ (place_of_chunk index + length sealed ≡ size)
  pub begins : place_of_chunk index ≤ len
  pub ends : place_of_chunk index + length sealed ≤ size

-- each of the chunks from an index on can be put, one after the other, and no byte of the file is missing afterwards
abbrev pub CanPutChunks : ℕ → ℕ → ℕ → List (List ℕ) → Type 0
CanPutChunks size len first [] = size ≤ len
CanPutChunks size len first (sealed ∷ more) =
    CanPutChunk size len first sealed × CanPutChunks size (max len (place_of_chunk first + length sealed)) (first + 1) more

-- the rewriting can be done to a host file of these bytes
abbrev pub CanPut : List ℕ → Rewriting → Type 0
CanPut bytes r = CanPutChunks r.size (length bytes) r.first r.sealed
