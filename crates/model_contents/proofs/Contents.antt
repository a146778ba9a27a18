-- The content of a file, from its chunks.
use Rattle.std.proofs.Common.{◌≡◌, ℕ, List, length, take, map, false, Option, Some, None, refl}
use Rattle.std.specs.List.{range_with_len}
use Rattle.std.specs.Option.{is_some, option_map}
use Rattle.vault_keys.specs.Keys.{KeyPair}
use Rattle.tree_model.specs.Rows.{Cell, chunks}
use Rattle.file_chunks.specs.Header.{Head, header_opens}
use Rattle.file_chunks.specs.File.{cell_of, chunk_count, content_of, is_bad_size, sealed_at}
use Rattle.model_contents.specs.declared.header.Head.{Head as PlainHead}
use Rattle.model_contents.specs.Seen.{head_seen}

-- whether there is a header
pub is_some-head_seen : (head : Option PlainHead) → is_some (option_map head_seen head) ≡ is_some head
is_some-head_seen None = refl
is_some-head_seen (Some head) = refl

-- a content of chunks, by what its header opens to
pub content_read : (keys : KeyPair) (bytes : List ℕ) (head : Option Head) (cells : List Cell) → is_bad_size (length bytes) ≡ false
    → head ≡ header_opens keys (take 68 bytes)
    → cells ≡ map (λ i. cell_of head i (sealed_at bytes i)) (range_with_len 0 (chunk_count (length bytes)))
    → chunks (is_some head) cells ≡ content_of keys bytes
unfolding content_of
content_read keys bytes head cells good head_is cells_are = rw (good, ← head_is, cells_are) refl
