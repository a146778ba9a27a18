-- What is done of deeds that can't all be done: those in order up to the first call whose condition fails.
use Rattle.std.specs.Prelude.{◌≡◌, ◌⊎◌, ℕ, ◌≤◌, ◌<◌, List, [], ◌∷◌, length, Some}
use Rattle.outside.specs.Disk.{Disk, Path, file, node_at, IsFile}
use Rattle.outside.specs.Images.{Log, now}
use Rattle.outside.specs.Changes.{overwritten}
use Rattle.deeds.specs.Reshape.{Ranges, written}
use Rattle.deeds.specs.Deeds.{PlainDeed, MakesDir, Puts, Renames, Removes, RemovesDir, Reshapes, Does, DoesAll, StaysAmid}

-- ---- of a reshaping

-- These ranges are written in order, and the call after them can't be made: a write that begins past the file's end, or after all of them the cut
-- to a length that the file doesn't have.
abbrev pub StopsBehind : ℕ → Ranges → List ℕ → Ranges → Type 0
StopsBehind len [] bytes made = (length bytes < len) × (made ≡ [])
StopsBehind len (r ∷ rs) bytes made =
    ((length bytes < r.0) × (made ≡ []))
    ⊎ ((r.0 ≤ length bytes) × (rest : Ranges) × StopsBehind len rs (overwritten bytes r.0 r.1) rest × (made ≡ r ∷ rest))

-- the writes before that call, as a deed: a reshaping by their ranges, to the length that the file then has
pub record IsCutShort (path : Path) (len : ℕ) (ranges : Ranges) (disk : Disk) (part : List PlainDeed) : Type 0 where
  pub was : List ℕ
  pub here : node_at disk path ≡ Some (file was)
  pub made : Ranges
  pub stops : StopsBehind len ranges was made
  pub is : part ≡ Reshapes path (length (written made was)) made ∷ []

-- ---- of a deed, and of deeds

-- a deed that can't be done does nothing, but for the writes of a reshaping
abbrev pub IsDoneOf : PlainDeed → Disk → List PlainDeed → Type 0
IsDoneOf (MakesDir path) disk part = part ≡ []
IsDoneOf (Puts path bytes) disk part = part ≡ []
IsDoneOf (Renames from to) disk part = part ≡ []
IsDoneOf (Removes path) disk part = part ≡ []
IsDoneOf (RemovesDir path) disk part = part ≡ []
IsDoneOf (Reshapes path len ranges) disk part = ((IsFile disk path → ⊥) × (part ≡ [])) ⊎ IsCutShort path len ranges disk part

-- the deed can't be done on the disk, and this is what is done of it
abbrev pub BreaksOff : PlainDeed → Disk → List PlainDeed → Type 0
BreaksOff deed disk part = ((after : Disk) → Does deed disk after → ⊥) × IsDoneOf deed disk part

-- what is done of deeds in order: all up to the first that can't be done, and what is done of that
abbrev pub GoesAsFar : List PlainDeed → Disk → List PlainDeed → Type 0
GoesAsFar [] disk part = part ≡ []
GoesAsFar (deed ∷ deeds) disk part =
    ((between : Disk) × Does deed disk between × (rest : List PlainDeed) × GoesAsFar deeds between rest × (part ≡ deed ∷ rest)) ⊎ BreaksOff deed disk part

-- what they leave that way
pub record Applies (deeds : List PlainDeed) (old new : Disk) : Type 0 where
  pub part : List PlainDeed
  pub far : GoesAsFar deeds old part
  pub does : DoesAll part old new

-- ---- on a log

-- Whatever is done of them that way: if reads and images were amid its application, all that a stop might have left since is, too.
abbrev pub StaysApplied : List PlainDeed → Log → Log → Type 0
StaysApplied deeds old new = (part : List PlainDeed) → GoesAsFar deeds (now old) part → StaysAmid part old new

-- the same of one that can't be done
abbrev pub StaysRefused : PlainDeed → Log → Log → Type 0
StaysRefused deed old new = (part : List PlainDeed) → BreaksOff deed (now old) part → StaysAmid part old new

-- if it can't be done, no call is made
abbrev pub KeepsStill : PlainDeed → Log → Log → Type 0
KeepsStill deed old new = ((after : Disk) → Does deed (now old) after → ⊥) → new ≡ old

-- one that can't be done was refused, and what is done of it is done
pub record HasBrokenOff (deed : PlainDeed) (old new : Log) : Type 0 where
  pub part : List PlainDeed
  pub off : BreaksOff deed (now old) part
  pub does : DoesAll part (now old) (now new)

-- some deed of these was refused, and they are done up to the call whose condition fails
pub record HasStopped (deeds : List PlainDeed) (old new : Log) : Type 0 where
  pub applied : Applies deeds (now old) (now new)
  pub cannot : (after : Disk) → DoesAll deeds (now old) after → ⊥
