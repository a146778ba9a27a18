-- What a write and a change of length make of a file's content: the chunks that they meet are sealed anew, for which each byte of
-- such a chunk has to be there, and the others stay as they are.
use Rattle.std.specs.Prelude.{ℕ, ◌+◌, ◌*◌, ◌-◌, ◌/◌, ◌%◌, min, max, List, [], ◌∷◌, ◌++◌, length, take, drop, replicate, map, Bool, true, ◌&&◌, Option, Some, None, nat_lt, nat_le, ◌==◌, slice_get, if◌then◌else◌}
use Rattle.std.specs.Int.{div_ceil}
use Rattle.std.specs.List.{range_with_len}
use Rattle.std.specs.Option.{option_map}
use Rattle.tree_model.specs.Rows.{Cell, good, Content, bad_size, chunks, joined_cells, all_there}

-- the clear bytes of a full chunk
abbrev pub chunk_length : ℕ
chunk_length = 32768

-- the bytes of a file after others are written over them from an offset on; a gap past the end is filled with zeros
abbrev pub spliced : List (Option ℕ) → ℕ → List ℕ → List (Option ℕ)
spliced old at bytes =
    take at (old ++ replicate (at - length old) (Some 0)) ++ map (λ b. Some b) bytes ++ drop (at + length bytes) old

-- chunk i has a byte from `low` on and before `high`
abbrev pub is_met : ℕ → ℕ → ℕ → Bool
is_met low high i = nat_lt low ((i + 1) * chunk_length) && nat_lt (i * chunk_length) high

-- chunk i of these bytes, if each of its bytes is there
abbrev pub sealed_chunk : List (Option ℕ) → ℕ → Option Cell
sealed_chunk bytes i = option_map (λ clear. good clear) (all_there (take chunk_length (drop (i * chunk_length) bytes)))

-- the first n chunks after the bytes from `low` on and before `high` were changed to these
abbrev pub chunks_after : List Cell → List (Option ℕ) → ℕ → ℕ → ℕ → Option (List Cell)
chunks_after old bytes low high n =
    all_there (map (λ i. if is_met low high i then sealed_chunk bytes i else slice_get old i) (range_with_len 0 n))

-- the chunks after a write: it meets those of its range, and of the gap before it
abbrev pub written_cells : List Cell → ℕ → List ℕ → Option (List Cell)
written_cells old at bytes =
    let end = at + length bytes in
    chunks_after old (spliced (joined_cells old) at bytes) (min at (length (joined_cells old))) end (max (length old) (div_ceil end chunk_length))

-- the chunks after a cut to n bytes: the one that the cut goes through is sealed anew
abbrev pub cut_cells : List Cell → ℕ → Option (List Cell)
cut_cells old n =
    if n % chunk_length == 0 then Some (take (n / chunk_length) old)
    else option_map (λ last. take (n / chunk_length) old ++ last ∷ []) (sealed_chunk (take n (joined_cells old)) (n / chunk_length))

-- the chunks after a change of the length to n bytes: a cut, or zeros after the end
abbrev pub resized_cells : List Cell → ℕ → Option (List Cell)
resized_cells old n =
    let len = length (joined_cells old) in
    if nat_le n len then cut_cells old n else written_cells old len (replicate (n - len) 0)

-- a content whose chunks are changed, which is done only if its header opens
abbrev pub with_chunks : (List Cell → Option (List Cell)) → Content → Option Content
with_chunks change bad_size = None
with_chunks change (chunks opens cells) = if opens then option_map (λ cells. chunks true cells) (change cells) else None

-- the content after at least one byte is written from an offset on, and None if what would be kept of a chunk doesn't open
unfoldable pub written : Content → ℕ → List ℕ → Option Content
written content at bytes = with_chunks (λ cells. written_cells cells at bytes) content

-- the content after its length is changed, and None if what would be kept of a chunk doesn't open
unfoldable pub resized : Content → ℕ → Option Content
resized content n = with_chunks (λ cells. resized_cells cells n) content
