-- How names change, and which names a power cut leaves.
--
-- A name is on the disk once the folder that it is in was flushed since (fsync(2): flushing a file doesn't bring its entry in a
-- folder to the disk). Until then a power cut leaves the step or not, each for itself, but in the order in which they were taken.
use Rattle.std.specs.Prelude.{◌≡◌, ◌≢◌, ◌⊎◌, ℕ, List, [], ◌∷◌, ◌++◌, Option, Some, None, Bool, true, false, cond, map as each_of}
use Rattle.std.specs.Ordering.{eq_by_cmp}
use Rattle.std.specs.FinMap as map
use Rattle.outside.specs.Disk.{Path, path_cmp, parent}
use Rattle.host_calls.specs.declared.found.Inode.{Inode}
use Rattle.host_calls.specs.Volume.{Names, Entry, Folder, File, entry_at}

-- a step that a call of the host takes: a folder or a new file gets a name, a file gets another one, or a name goes
pub data NameStep : Type 0 where
  MadeFolder : Path → NameStep
  MadeFile : Path → Inode → NameStep
  Moved : Path → Path → NameStep
  Dropped : Path → NameStep

abbrev pub HasFolder : Names → Path → Type 0
HasFolder names path = entry_at names path ≡ Some Folder

abbrev pub HasFile : Names → Path → Type 0
HasFile names path = (inode : Inode) × (entry_at names path ≡ Some (File inode))

-- ---- when a step can be taken

-- mkdir(2), open(2) with O_EXCL: the folder is there, and nothing has the name
pub record CanMake (names : Names) (path : Path) : Type 0 where
  pub inside : HasFolder names (parent path)
  pub free : entry_at names path ≡ None

-- rename(2) of a file: it is there, so is the folder that it goes to, and no folder has the name
pub record CanMoveTo (names : Names) (from to : Path) : Type 0 where
  pub there : HasFile names from
  pub inside : HasFolder names (parent to)
  pub free : (entry_at names to ≡ None) ⊎ HasFile names to

-- rmdir(2): a folder with no entry, which isn't the vault's own
pub record IsEmptyFolder (names : Names) (path : Path) : Type 0 where
  pub below : path ≢ []
  pub there : HasFolder names path
  pub no_child : (name : List ℕ) → entry_at names (path ++ name ∷ []) ≡ None

abbrev pub Fits : NameStep → Names → Type 0
Fits (MadeFolder path) names = CanMake names path
Fits (MadeFile path inode) names = CanMake names path
Fits (Moved from to) names = CanMoveTo names from to
Fits (Dropped path) names = HasFile names path ⊎ IsEmptyFolder names path

-- ---- what it leaves

-- the names with this at the path, or nothing
abbrev pub named : Names → Path → Option Entry → Names
named names path None = map.remove names path
named names path (Some entry) = map.insert names path entry

abbrev pub after_step : NameStep → Names → Names
after_step (MadeFolder path) names = named names path (Some Folder)
after_step (MadeFile path inode) names = named names path (Some (File inode))
after_step (Moved from to) names = named (named names from None) to (entry_at names from)
after_step (Dropped path) names = named names path None

-- ---- what is on the disk of it

-- the folders whose entries a step changes
abbrev pub folders_of : NameStep → List Path
folders_of (MadeFolder path) = parent path ∷ []
folders_of (MadeFile path inode) = parent path ∷ []
folders_of (Moved from to) = parent to ∷ parent from ∷ []
folders_of (Dropped path) = parent path ∷ []

-- a step that was taken, and the folders that are still to be flushed before it lasts
pub record Pending : Type 0 where
  pub step : NameStep
  pub to_flush : List Path

abbrev pub begun : NameStep → Pending
begun step = record { step = step; to_flush = folders_of step }

abbrev pub without : Path → List Path → List Path
without path [] = []
without path (one ∷ more) = cond (eq_by_cmp path_cmp one path) (without path more) (one ∷ without path more)

-- after a folder's flush
abbrev pub flushed : Path → Pending → Pending
flushed path pending = record { step = pending.step; to_flush = without path pending.to_flush }

-- With a folder that goes, what was changed in it goes: a flush of the folder that it was in brings both to the disk.
abbrev pub instead : Path → Path → Path
instead path one = cond (eq_by_cmp path_cmp one path) (parent path) one

abbrev pub without_folder : Path → Pending → Pending
without_folder path pending = record { step = pending.step; to_flush = each_of (instead path) pending.to_flush }

-- the steps before one, once it is taken
abbrev pub before_step : NameStep → List Pending → List Pending
before_step (MadeFolder path) older = older
before_step (MadeFile path inode) older = older
before_step (Moved from to) older = older
before_step (Dropped path) older = each_of (without_folder path) older

-- ---- which names there are

-- by reads: after all steps, of which the newest is the first
abbrev pub names_after : Names → List Pending → Names
names_after base [] = base
names_after base (last ∷ older) = after_step last.step (names_after base older)

-- a step is there, or not at all, which one that lasts is only where it doesn't fit
abbrev pub IsTaken : Pending → Names → Names → Type 0
IsTaken pending before names =
    (Fits pending.step before × (names ≡ after_step pending.step before))
    ⊎ ((names ≡ before) × (pending.to_flush ≡ [] → ¬ Fits pending.step before))

-- after a power cut
abbrev pub MayName : Names → List Pending → Names → Type 0
MayName base [] names = names ≡ base
MayName base (last ∷ older) names = (before : Names) × MayName base older before × IsTaken last before names

-- each step could be taken when it was
abbrev pub AreFitting : Names → List Pending → Type 0
AreFitting base [] = Unit {0}
AreFitting base (last ∷ older) = AreFitting base older × Fits last.step (names_after base older)
