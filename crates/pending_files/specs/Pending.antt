-- What waits to be committed, as the deeds that will commit it: for each file one reshaping, which writes the file's sealed
-- chunks and then cuts it to its length.
use Rattle.std.specs.Prelude.{◌≡◌, ⊤, ℕ, ◌+◌, ◌*◌, ◌-◌, ◌≤◌, ◌<◌, ◌^◌, List, [], ◌∷◌, ◌++◌, length, take, Option, Some, None, Bool, false, IsTrue, nat_lt, ◌==◌, if◌then◌else◌}
use Rattle.std.specs.List.{AllByRecursion}
use Rattle.std.specs.Cmp.Lexicographic.{pointwise}
use Rattle.std.specs.Str.{bytes_eq}
use Rattle.vault_path.specs.Parts.{is_path}
use Rattle.outside.specs.Disk.{Path}
use Rattle.deeds.specs.Reshape.{Ranges}
use Rattle.deeds.specs.Deeds.{PlainDeed, MakesDir, Puts, Renames, Removes, RemovesDir, Reshapes, AreApart}

-- the deed reshapes this file
abbrev pub is_at : Path → PlainDeed → Bool
is_at path (Reshapes named len ranges) = pointwise bytes_eq named path
is_at path (MakesDir named) = false
is_at path (Puts named bytes) = false
is_at path (Renames from to) = false
is_at path (Removes named) = false
is_at path (RemovesDir named) = false

abbrev pub its_ranges : PlainDeed → Ranges
its_ranges (Reshapes named len ranges) = ranges
its_ranges (MakesDir named) = []
its_ranges (Puts named bytes) = []
its_ranges (Renames from to) = []
its_ranges (Removes named) = []
its_ranges (RemovesDir named) = []

abbrev pub its_len : PlainDeed → ℕ
its_len (Reshapes named len ranges) = len
its_len (MakesDir named) = 0
its_len (Puts named bytes) = 0
its_len (Renames from to) = 0
its_len (Removes named) = 0
its_len (RemovesDir named) = 0

-- what waits for a file: its length and the ranges that are written
abbrev pub file_of : Path → List PlainDeed → Option (ℕ × Ranges)
file_of path [] = None
file_of path (deed ∷ deeds) = if is_at path deed then Some (its_len deed, its_ranges deed) else file_of path deeds

-- what waits for the other files
abbrev pub without : Path → List PlainDeed → List PlainDeed
without path [] = []
without path (deed ∷ deeds) = if is_at path deed then deeds else deed ∷ without path deeds

abbrev pub ranges_or_none : Option (ℕ × Ranges) → Ranges
ranges_or_none None = []
ranges_or_none (Some file) = file.1

-- the ranges that wait for a file, if any
abbrev pub ranges_of : Path → List PlainDeed → Ranges
ranges_of path deeds = ranges_or_none (file_of path deeds)

-- ranges that rise, up to a length
abbrev pub cut_to : ℕ → Ranges → Ranges
cut_to len [] = []
cut_to len (range ∷ ranges) = if nat_lt range.0 len then (range.0, take (len - range.0) range.1) ∷ cut_to len ranges else []

-- ranges that rise, and bytes at a place among them, in place of those that began there
abbrev pub with_chunk : ℕ → List ℕ → Ranges → Ranges
with_chunk at bytes [] = (at, bytes) ∷ []
with_chunk at bytes (range ∷ ranges) =
    if nat_lt range.0 at then range ∷ with_chunk at bytes ranges
    else if range.0 == at then (at, bytes) ∷ ranges else (at, bytes) ∷ range ∷ ranges

-- a file is cut to a length
abbrev pub cut_in : Path → ℕ → List PlainDeed → List PlainDeed
cut_in path len deeds = without path deeds ++ Reshapes path len (cut_to len (ranges_of path deeds)) ∷ []

-- a file is cut to a length, and a sealed chunk put at a place of it
abbrev pub put_in : Path → ℕ → ℕ → List ℕ → List PlainDeed → List PlainDeed
put_in path len at sealed deeds = without path deeds ++ Reshapes path len (with_chunk at sealed (cut_to len (ranges_of path deeds))) ∷ []

-- ---- what can wait

-- the bytes of a content file's header, and of a full sealed chunk (Cryptomator's vault format 8)
abbrev pub header_length : ℕ
header_length = 68

abbrev pub sealed_length : ℕ
sealed_length = 32796

-- where a chunk begins: after the header and as many full sealed chunks
abbrev pub IsPlace : ℕ → Type 0
IsPlace at = (index : ℕ) × (at ≡ header_length + sealed_length * index)

-- each range is within the room of one chunk, they rise from a place on, and end within the length
abbrev pub AreChunks : ℕ → ℕ → Ranges → Type 0
AreChunks from len [] = ⊤
AreChunks from len (range ∷ ranges) =
    (from ≤ range.0) × IsPlace range.0 × (length range.1 ≤ sealed_length) × (range.0 + length range.1 ≤ len) × AreChunks (range.0 + sealed_length) len ranges

-- a file that isn't in the folder itself, where the journal is
pub record IsInside (path : Path) : Type 0 where
  pub good : IsTrue (is_path path)
  pub deep : 1 < length path

pub record IsContent (path : Path) (len : ℕ) (ranges : Ranges) : Type 0 where
  pub inside : IsInside path
  pub fits : len < 2 ^ 64
  pub chunks : AreChunks 0 len ranges

abbrev pub IsWaiting : PlainDeed → Type 0
IsWaiting (Reshapes path len ranges) = IsContent path len ranges
IsWaiting (MakesDir named) = ⊥
IsWaiting (Puts named bytes) = ⊥
IsWaiting (Renames from to) = ⊥
IsWaiting (Removes named) = ⊥
IsWaiting (RemovesDir named) = ⊥

-- how many chunks wait
abbrev pub chunk_count : List PlainDeed → ℕ
chunk_count [] = 0
chunk_count (deed ∷ deeds) = length (its_ranges deed) + chunk_count deeds

-- files of which each waits once, and not more of them or of their chunks than there is room for
pub record ArePending (deeds : List PlainDeed) : Type 0 where
  pub each : AllByRecursion IsWaiting deeds
  pub apart : AreApart deeds
  pub few_files : length deeds ≤ 64
  pub few_chunks : chunk_count deeds ≤ 64

-- there is room for a change of the file, with this many chunks more
pub record HasRoom (deeds : List PlainDeed) (path : Path) (chunks : ℕ) : Type 0 where
  pub inside : IsInside path
  pub fits : chunk_count deeds + chunks ≤ 64
  pub files : file_of path deeds ≡ None → length deeds < 64
