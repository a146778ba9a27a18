-- What a power cut leaves of a host.
use Rattle.std.specs.Prelude.{◌≡◌, ◌⊎◌, ℕ, List, [], Some, option_map}
use Rattle.std.specs.FinMap as map
use Rattle.host_calls.specs.declared.found.Inode.{Inode}
use Rattle.host_calls.specs.Bytes.{Filed, FileStep, IsLeftBy}
use Rattle.host_calls.specs.Story.{Files, MayBe, bytes_of}

-- the bytes after a step that was taken whole, in part or not at all
abbrev pub IsLeftOrNot : FileStep → List ℕ → List ℕ → Type 0
IsLeftOrNot step old new = (new ≡ old) ⊎ IsLeftBy step old new

-- each file has bytes that a power cut may leave of it
abbrev pub AreLeft : Files → Files → Type 0
AreLeft old new = (inode : Inode) → MayBe (map.get old inode) (option_map bytes_of (map.get new inode))

-- each file's bytes are on the disk
abbrev pub AreSettled : Files → Type 0
AreSettled files = (inode : Inode) (filed : Filed) → map.get files inode ≡ Some filed → filed.steps ≡ []
