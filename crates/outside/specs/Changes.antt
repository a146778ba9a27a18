-- The changes of a folder: when each can be made, what it leaves, and what a stop may leave of it.
use Rattle.std.specs.Prelude.{◌≡◌, ◌≢◌, ◌⊎◌, ℕ, ◌+◌, ◌≤◌, max, min, List, [], ◌∷◌, ◌++◌, length, take, drop, Option, Some, None}
use Rattle.std.specs.FinMap as map
use Rattle.outside.specs.Disk.{Disk, Path, Node, folder, file, node_at, parent, IsFolder, IsFile, CanMakeDir, CanPut}

-- the disk with this at the path, or nothing
abbrev pub set_at : Disk → Path → Option Node → Disk
set_at disk path None = map.remove disk path
set_at disk path (Some node) = map.insert disk path node

-- a call that changes a folder
pub data Change : Type 0 where
  MakeDir : Path → Change
  Put : Path → List ℕ → Change
  Write : Path → ℕ → List ℕ → Change
  SetLen : Path → ℕ → Change
  Move : Path → Path → Change
  RemoveFile : Path → Change
  RemoveDir : Path → Change

-- bytes with others written over them from a place on
abbrev pub overwritten : List ℕ → ℕ → List ℕ → List ℕ
overwritten old at bytes = take at old ++ bytes ++ drop (at + length bytes) old

-- a file's bytes after f, and anything else as it is
abbrev pub in_file : (List ℕ → List ℕ) → Option Node → Option Node
in_file f None = None
in_file f (Some folder) = Some folder
in_file f (Some (file bytes)) = Some (file (f bytes))

-- ---- when a change can be made

-- nothing or a file
abbrev pub IsFree : Option Node → Type 0
IsFree old = (old ≡ None) ⊎ ((bytes : List ℕ) × (old ≡ Some (file bytes)))

pub record CanMove (disk : Disk) (from to : Path) : Type 0 where
  pub there : IsFile disk from
  pub inside : IsFolder disk (parent to)
  pub free : IsFree (node_at disk to)

-- a folder without an entry, which isn't the whole
pub record IsBare (disk : Disk) (path : Path) : Type 0 where
  pub below : path ≢ []
  pub there : IsFolder disk path
  pub no_child : (name : List ℕ) → node_at disk (path ++ name ∷ []) ≡ None

abbrev pub CanDo : Change → Disk → Type 0
CanDo (MakeDir path) disk = CanMakeDir disk path
CanDo (Put path bytes) disk = CanPut disk path
CanDo (Write path at bytes) disk = (old : List ℕ) × (node_at disk path ≡ Some (file old)) × (at ≤ length old)
CanDo (SetLen path n) disk = (old : List ℕ) × (node_at disk path ≡ Some (file old)) × (n ≤ length old)
CanDo (Move from to) disk = CanMove disk from to
CanDo (RemoveFile path) disk = IsFree (node_at disk path)
CanDo (RemoveDir path) disk = (node_at disk path ≡ None) ⊎ IsBare disk path

-- ---- what it leaves

abbrev pub done : Change → Disk → Disk
done (MakeDir path) disk = set_at disk path (Some folder)
done (Put path bytes) disk = set_at disk path (Some (file bytes))
done (Write path at bytes) disk = set_at disk path (in_file (λ old. overwritten old at bytes) (node_at disk path))
done (SetLen path n) disk = set_at disk path (in_file (take n) (node_at disk path))
done (Move from to) disk = set_at (set_at disk from None) to (node_at disk from)
done (RemoveFile path) disk = set_at disk path None
done (RemoveDir path) disk = set_at disk path None

-- ---- what a stop may leave of it, up to the next sync

-- any bytes in the range and past the old end, the same elsewhere, and any length between
pub record IsTorn (at n : ℕ) (old new : List ℕ) : Type 0 where
  pub before : take at new ≡ take at old
  pub after : drop (at + n) new ≡ drop (at + n) old
  pub no_shorter : length old ≤ length new
  pub no_longer : length new ≤ max (length old) (at + n)

-- the front of the old bytes, at any length between
pub record IsCut (n : ℕ) (old new : List ℕ) : Type 0 where
  pub no_shorter : min n (length old) ≤ length new
  pub front : new ≡ take (length new) old

-- any bytes in place of the old file's, no more of them than the greater of the two
abbrev pub IsTornPut : ℕ → List ℕ → List ℕ → Type 0
IsTornPut n old new = length new ≤ max n (length old)

abbrev pub bytes_or_none : Option Node → List ℕ
bytes_or_none None = []
bytes_or_none (Some folder) = []
bytes_or_none (Some (file bytes)) = bytes

-- what may be at the path of a change of one path, if this was there before
abbrev pub MayStand : Change → Option Node → Option Node → Type 0
MayStand (MakeDir path) old new = new ≡ Some folder
MayStand (Put path bytes) old new = (now : List ℕ) × (new ≡ Some (file now)) × IsTornPut (length bytes) (bytes_or_none old) now
MayStand (Write path at bytes) old new =
    (was : List ℕ) × (now : List ℕ) × (old ≡ Some (file was)) × (new ≡ Some (file now)) × IsTorn at (length bytes) was now
MayStand (SetLen path n) old new =
    (was : List ℕ) × (now : List ℕ) × (old ≡ Some (file was)) × (new ≡ Some (file now)) × IsCut n was now
MayStand (Move from to) old new = ⊥
MayStand (RemoveFile path) old new = new ≡ None
MayStand (RemoveDir path) old new = new ≡ None

-- the path that a change of one path names
abbrev pub path_of : Change → Path
path_of (MakeDir path) = path
path_of (Put path bytes) = path
path_of (Write path at bytes) = path
path_of (SetLen path n) = path
path_of (Move from to) = to
path_of (RemoveFile path) = path
path_of (RemoveDir path) = path

-- a file is moved whole, only from where it is, and never over a folder
abbrev pub IsMoved : Change → Disk → Disk → Type 0
IsMoved (Move from to) old new = IsFile old from × IsFree (node_at old to) × (new ≡ done (Move from to) old)
IsMoved other old new = ⊥

-- none of it, or some part of it
abbrev pub IsPartOf : Change → Disk → Disk → Type 0
IsPartOf change old new =
    (new ≡ old)
    ⊎ IsMoved change old new
    ⊎ ((node : Option Node) × MayStand change (node_at old (path_of change)) node × (new ≡ set_at old (path_of change) node))
