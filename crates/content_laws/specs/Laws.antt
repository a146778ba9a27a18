-- What writing and resizing make of a host file's content, in the words of the laws.
use Rattle.std.specs.Prelude.{◌≡◌, ◌⊎◌, ⊤, ℕ, ◌+◌, ◌-◌, ◌*◌, ◌/◌, ◌≤◌, ◌<◌, min, max, List, [], ◌∷◌, ◌++◌, length, take, drop, replicate, Option, Some, None}
use Rattle.std.specs.Int.{div_ceil}
use Rattle.vault_keys.specs.Keys.{KeyPair}
use Rattle.tree_model.specs.Rows.{good, Content, joined}
use Rattle.tree_model.specs.Contents.{spliced, sealed_chunk}
use Rattle.file_chunks.specs.Header.{Head, header_opens}
use Rattle.file_chunks.specs.File.{IsKey, clear_length, content_of}
use Rattle.file_chunks.specs.Sizes.{chunk_length, header_length}
use Rattle.content_laws.specs.Rewriting.{Rewriting, sealed_size, AreSealed, CanPut, rewritten}

-- a host file of these bytes has a content of n bytes, and its header opens
pub record IsOpened (keys : KeyPair) (head : Head) (n : ℕ) (bytes : List ℕ) : Type 0 where
  pub key : IsKey keys.enc
  pub sized : clear_length (length bytes) ≡ Some n
  pub header : header_opens keys (take header_length bytes) ≡ Some head

-- no content has the host file's size, or its header doesn't open
abbrev pub IsUnopened : KeyPair → List ℕ → Type 0
IsUnopened keys bytes = (clear_length (length bytes) ≡ None) ⊎ (header_opens keys (take header_length bytes) ≡ None)

-- the chunks of these bytes from an index on, if each byte is there
abbrev pub AreChunksOf : List (Option ℕ) → ℕ → List (List ℕ) → Type 0
AreChunksOf bytes first [] = ⊤
AreChunksOf bytes first (plaintext ∷ more) = (sealed_chunk bytes first ≡ Some (good plaintext)) × AreChunksOf bytes (first + 1) more

-- the bytes of a content after others are written over them from an offset on
abbrev pub after_write : Content → ℕ → List ℕ → List (Option ℕ)
after_write content at input = spliced (joined content) at input

-- the chunk of an index is met by a write into a content of n bytes: by its bytes, or by the gap before them
pub record IsMet (n at count index : ℕ) : Type 0 where
  pub from : min at n / chunk_length ≤ index
  pub below : index < div_ceil (at + count) chunk_length

-- a write into a content of n bytes seals the chunks that it meets anew, and the host file never shrinks
pub record IsWrite (head : Head) (n : ℕ) (content : Content) (old_size at : ℕ) (input : List ℕ) (plaintexts : List (List ℕ)) (r : Rewriting) : Type 0 where
  pub first : r.first ≡ min at n / chunk_length
  pub count : r.first + length plaintexts ≡ div_ceil (at + length input) chunk_length
  pub clear : AreChunksOf (after_write content at input) r.first plaintexts
  pub sealed : AreSealed head r.first r.sealed plaintexts
  pub size : r.size ≡ max old_size (sealed_size (at + length input))

-- the host file can be rewritten, and has this content then
pub record IsRewritten (keys : KeyPair) (bytes : List ℕ) (r : Rewriting) (changed : Option Content) : Type 0 where
  pub can : CanPut bytes r
  pub long : length (rewritten bytes r) ≡ r.size
  pub content : changed ≡ Some (content_of keys (rewritten bytes r))

-- a cut to n bytes: at a border of chunks none is sealed anew, else the one that it goes through
abbrev pub cut_by : ℕ → List (List ℕ) → Rewriting
cut_by n sealed = record { first = n / chunk_length; sealed = sealed; size = sealed_size n }

-- what a chunk holds after bytes are written over its old ones from an offset on, a gap being filled with zeros; no more than a chunk
abbrev pub patched : List ℕ → ℕ → List ℕ → List ℕ
patched old at input = take chunk_length (take at (old ++ replicate (at - length old) 0) ++ input ++ drop (at + length input) old)

-- what a write makes of the chunk of an index, by its old plaintext: where in the chunk it begins, and what of its bytes goes there
abbrev pub patched_at : ℕ → List ℕ → ℕ → List ℕ → List ℕ
patched_at index old at input = patched old (at - chunk_length * index) (drop (chunk_length * index - at) input)

-- a write keeps a byte of the chunk of an index of a content of n bytes: one before its own, or one after
abbrev pub IsPartlyKept : ℕ → ℕ → ℕ → ℕ → Type 0
IsPartlyKept n at count index =
    (chunk_length * index < min at n) ⊎ (at + count < min n (chunk_length * (index + 1)))
