-- What a read of a content file's slice gives, and how it ends.
use Rattle.std.specs.Prelude.{◌≡◌, ◌↔◌, ℕ, ◌+◌, ◌-◌, ◌*◌, ◌/◌, ◌<◌, ◌≤◌, List, length, take, drop, Option, Some, None, Result, Ok, Err, ⊤}
use Rattle.outside.specs.Disk.{Disk, Path, node_at, file}
use Rattle.outside.specs.Calls.{Rose}
use Rattle.vault_keys.specs.Keys.{KeyPair}
use Rattle.tree_model.specs.Rows.{Content, bad_size, chunks, slice_of}
use Rattle.file_chunks.specs.Header.{Head, header_opens}
use Rattle.file_chunks.specs.Sizes.{chunk_length, header_length, sealed_length}
use Rattle.file_chunks.specs.File.{IsKey, clear_length, sealed_at}
use Rattle.content_reader.specs.declared.error.ReadErr.{ReadErr}
use Rattle.content_reader.specs.declared.error.ReadErr.TheVariants.{Device, Damaged}

-- the bytes from a place on, at most so many, if the size is good and each of them opens
abbrev pub read_of : Content → ℕ → ℕ → Option (List ℕ)
read_of bad_size at most = None
read_of (chunks opens cells) at most = slice_of (chunks opens cells) at most

-- a host file of these bytes and of this size
pub record IsFileOf (disk : Disk) (path : Path) (size : ℕ) (bytes : List ℕ) : Type 0 where
  pub there : node_at disk path ≡ Some (file bytes)
  pub long : length bytes ≡ size

-- A step that looks for something ends with it, or with damage if there is none, or with the folder's fault.
abbrev pub Ends : {A : Type 0} → Option A → ℕ → ℕ → Result A ReadErr → Type 0
Ends found before now (Ok a) = found ≡ Some a
Ends found before now (Err Damaged) = found ≡ None
Ends found before now (Err Device) = Rose before now

-- if nothing is told, a fault is answered only if the count rose
abbrev pub RoseUntold : Option Disk → ℕ → ℕ → Type 0
RoseUntold None before now = Rose before now
RoseUntold (Some disk) before now = ⊤

-- a host file that has room for a header
pub record HasHeader (disk : Disk) (path : Path) (bytes : List ℕ) : Type 0 where
  pub there : node_at disk path ≡ Some (file bytes)
  pub long : header_length ≤ length bytes

-- sealed bytes are those of the chunks that a slice meets
abbrev pub AreChunksOf : ℕ → ℕ → List ℕ → List ℕ → Type 0
AreChunksOf at count bytes sealed = (index : ℕ) → at / chunk_length ≤ index → chunk_length * index < at + count
    → take sealed_length (drop (sealed_length * (index - at / chunk_length)) sealed) ≡ sealed_at bytes index

-- a slice within the content of a host file whose header opens, and the sealed bytes of its chunks
pub record IsSpan (keys : KeyPair) (head : Head) (at count : ℕ) (sealed bytes : List ℕ) : Type 0 where
  pub key : IsKey keys.enc
  pub size : ℕ
  pub sized : clear_length (length bytes) ≡ Some size
  pub inside : at + count ≤ size
  pub header : header_opens keys (take header_length bytes) ≡ Some head
  pub chunks : AreChunksOf at count bytes sealed

-- a slice of so many bytes from a place on meets these chunks
abbrev pub Meets : ℕ → ℕ → ℕ → ℕ → Type 0
Meets at count first many = (k : ℕ) → ((first ≤ k) × (k < first + many)) ↔ ((p : ℕ) × (at ≤ p) × (p < at + count) × (p / chunk_length ≡ k))

-- a slice within the content of a host file
pub record IsWithin (disk : Disk) (path : Path) (at count : ℕ) (bytes : List ℕ) : Type 0 where
  pub there : node_at disk path ≡ Some (file bytes)
  pub size : ℕ
  pub sized : clear_length (length bytes) ≡ Some size
  pub inside : at + count ≤ size
