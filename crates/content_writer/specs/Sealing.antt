-- How the chunks of a change come about: what is opened, what is sealed, and when that fails.
use Rattle.std.specs.Prelude.{◌≡◌, ℕ, ◌+◌, ◌-◌, ◌*◌, ◌/◌, ◌<◌, min, max, List, [], ◌∷◌, ◌++◌, length, take, Option, Some, None, ⊤}
use Rattle.outside.specs.Disk.{Disk, Path, node_at, file, IsFile}
use Rattle.outside.specs.Calls.{Rose, Told, Extends}
use Rattle.vault_keys.specs.Keys.{KeyPair}
use Rattle.tree_model.specs.Rows.{good}
use Rattle.tree_model.specs.Contents.{sealed_chunk}
use Rattle.file_chunks.specs.Header.{Head}
use Rattle.file_chunks.specs.Chunk.{chunk_opens}
use Rattle.file_chunks.specs.File.{content_of, sealed_at}
use Rattle.file_chunks.specs.Sizes.{chunk_length, nonce_length, sealing_length}
use Rattle.content_laws.specs.Rewriting.{IsSealed, AreSealed}
use Rattle.content_laws.specs.Laws.{IsOpened, IsMet, AreChunksOf, after_write}
use Rattle.content_writer.specs.declared.opening.OpenFile.{OpenFile}
use Rattle.content_writer.specs.declared.writing.Write.{Write}

-- The folder failed in a read of a file: its count of faults rose, or, if it tells, no file is at the path.
abbrev pub HasFaulted : Option Disk → Path → ℕ → ℕ → Type 0
HasFaulted None path before now = Rose before now
HasFaulted (Some disk) path before now = IsFile disk path → Rose before now

-- what was drawn goes on
abbrev pub GoesOn : List ℕ → List ℕ → Type 0
GoesOn old new = (more : List ℕ) × (new ≡ old ++ more)

-- ---- an open file

-- a host file at a path, whose header opens and which has a content of n bytes
pub record IsOpenFile (disk : Disk) (path : Path) (keys : KeyPair) (head : Head) (n : ℕ) (bytes : List ℕ) : Type 0 where
  pub there : node_at disk path ≡ Some (file bytes)
  pub opened : IsOpened keys head n bytes

-- P of the bytes of a file that is open, whatever its keys
abbrev pub OfOpen : Option Disk → Path → Head → ℕ → (KeyPair → List ℕ → Type 0) → Type 0
OfOpen contents path head n P = Told contents (λ disk. (keys : KeyPair) (bytes : List ℕ) → IsOpenFile disk path keys head n bytes → P keys bytes)

-- the chunk of an index of a host file opens to this plaintext
pub record IsOpenedChunk (head : Head) (index : ℕ) (bytes plaintext : List ℕ) : Type 0 where
  pub opens : chunk_opens head index (sealed_at bytes index) ≡ Some plaintext
  pub long : length plaintext + sealing_length ≡ length (sealed_at bytes index)

-- the plaintext of the chunk of an index of an open file; past the end of the content it is empty
pub record IsOldPlaintext (contents : Option Disk) (path : Path) (head : Head) (n index : ℕ) (plaintext : List ℕ) : Type 0 where
  pub long : length plaintext ≡ min chunk_length (n - chunk_length * index)
  pub opens : chunk_length * index < n → OfOpen contents path head n (λ _ bytes. chunk_opens head index (sealed_at bytes index) ≡ Some plaintext)

-- the chunk of an index is one of an open file, and doesn't open
pub record IsDamagedChunk (contents : Option Disk) (path : Path) (head : Head) (n index : ℕ) : Type 0 where
  pub inside : chunk_length * index < n
  pub closed : OfOpen contents path head n (λ _ bytes. chunk_opens head index (sealed_at bytes index) ≡ None)

-- a plaintext was sealed as the chunk of an index after the others, under a nonce that was drawn
pub record IsPushed (head : Head) (index : ℕ) (plaintext : List ℕ) (old new : List (List ℕ)) (drawn drawn' : Option (List ℕ)) : Type 0 where
  pub sealed : List ℕ
  pub pushed : new ≡ old ++ sealed ∷ []
  pub is : IsSealed head index sealed plaintext
  pub nonce : Extends drawn drawn' (take nonce_length sealed)

-- ---- a write into an open file

-- what the folder tells, where the file is, its header, the length of its content, and the bytes that are written at an offset
pub record Writing : Type 0 where
  pub contents : Option Disk
  pub path : Path
  pub head : Head
  pub length : ℕ
  pub at : ℕ
  pub input : List ℕ

abbrev pub writing_of : Option Disk → Path → OpenFile → Write → Writing
writing_of contents path content write = record {
  contents = contents;
  path = path;
  head = content.header;
  length = content.length;
  at = write.at;
  input = write.input.now;
}

-- how long the content is afterwards
abbrev pub length_after : Writing → ℕ
length_after w = max w.length (w.at + length w.input)

-- the chunk of an index holds this plaintext afterwards
abbrev pub IsWrittenChunk : Writing → ℕ → List ℕ → Type 0
IsWrittenChunk w index plaintext =
    OfOpen w.contents w.path w.head w.length (λ keys bytes. sealed_chunk (after_write (content_of keys bytes) w.at w.input) index ≡ Some (good plaintext))

-- what the write would keep of the chunk of an index doesn't open
abbrev pub IsLostChunk : Writing → ℕ → Type 0
IsLostChunk w index = OfOpen w.contents w.path w.head w.length (λ keys bytes. sealed_chunk (after_write (content_of keys bytes) w.at w.input) index ≡ None)

-- the chunk of an index was sealed, as it is afterwards, after the others
pub record HasSealed (w : Writing) (index : ℕ) (old new : List (List ℕ)) (drawn drawn' : Option (List ℕ)) : Type 0 where
  pub plaintext : List ℕ
  pub long : length plaintext ≡ min chunk_length (length_after w - chunk_length * index)
  pub clear : IsWrittenChunk w index plaintext
  pub pushed : IsPushed w.head index plaintext old new drawn drawn'

-- so long are the chunks of m bytes from an index on
abbrev pub AreLong : ℕ → ℕ → List (List ℕ) → Type 0
AreLong m first [] = ⊤
AreLong m first (plaintext ∷ more) = (length plaintext ≡ min chunk_length (m - chunk_length * first)) × AreLong m (first + 1) more

-- the chunks from the first that the write meets up to an index are sealed, as they are afterwards
pub record AreSealedTo (w : Writing) (index : ℕ) (sealed : List (List ℕ)) : Type 0 where
  pub plaintexts : List (List ℕ)
  pub count : min w.at w.length / chunk_length + length plaintexts ≡ index
  pub long : AreLong (length_after w) (min w.at w.length / chunk_length) plaintexts
  pub clear : OfOpen w.contents w.path w.head w.length (λ keys bytes. AreChunksOf (after_write (content_of keys bytes) w.at w.input) (min w.at w.length / chunk_length) plaintexts)
  pub are : AreSealed w.head (min w.at w.length / chunk_length) sealed plaintexts

-- of some chunk that the write meets
pub record IsLost (w : Writing) : Type 0 where
  pub index : ℕ
  pub met : IsMet w.length w.at (length w.input) index
  pub lost : IsLostChunk w index
