-- A content file that is read piece by piece.
use Rattle.std.specs.Prelude.{◌≡◌, ℕ, ◌≤◌, List, ◌++◌, length, Option, Some}
use Rattle.outside.specs.Calls.{Told}
use Rattle.outside.specs.Disk.{Disk}
use Rattle.vault_keys.specs.Keys.{KeyPair}
use Rattle.file_chunks.specs.File.{content_of}
use Rattle.content_reader.specs.Reading.{IsFileOf, read_of}
use Rattle.content_reader.specs.declared.reader.SealedFile.{SealedFile}
use Rattle.demonstration.specs.declared.contents.TheConstants.{PIECE}
use Rattle.demonstration.specs.Left.{IsDamaged}

-- a piece of so many bytes was put after others: those of the content from a place on
pub record HasRead (disk : Option Disk) (keys : KeyPair) (file : SealedFile) (at : ℕ) (before after : List ℕ) (count : ℕ) : Type 0 where
  pub more : List ℕ
  pub long : length more ≡ count
  pub few : count ≤ PIECE
  pub joins : after ≡ before ++ more
  pub bytes : Told disk (λ d. (sealed : List ℕ) → IsFileOf d file.path file.size sealed → read_of (content_of keys sealed) at PIECE ≡ Some more)

-- the content of a host file, if it has this size on a disk that is told, can't be read whole
abbrev pub IsUnread : Option Disk → KeyPair → SealedFile → Type 0
IsUnread disk keys file = Told disk (λ d. (sealed : List ℕ) → IsFileOf d file.path file.size sealed → IsDamaged (content_of keys sealed))
