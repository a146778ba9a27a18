-- What a folder's calls changed, and what of it since the last sync.
use Rattle.std.specs.Prelude.{◌≡◌, ⊤, List, [], ◌∷◌, flat_map}
use Rattle.outside.specs.Disk.{Disk, Path, IsTree}
use Rattle.outside.specs.Changes.{Change, MakeDir, Put, Write, SetLen, Move, RemoveFile, RemoveDir, CanDo}
use Rattle.outside.specs.Images.{Call, Did, Broke, Synced, Log, now, disk_after, IsImage, BreaksInto}

-- the paths that a change names: both of a move
abbrev pub paths_of : Change → List Path
paths_of (MakeDir path) = path ∷ []
paths_of (Put path bytes) = path ∷ []
paths_of (Write path at bytes) = path ∷ []
paths_of (SetLen path n) = path ∷ []
paths_of (Move from to) = from ∷ to ∷ []
paths_of (RemoveFile path) = path ∷ []
paths_of (RemoveDir path) = path ∷ []

-- those that changes name
abbrev pub touched : List Change → List Path
touched changes = flat_map paths_of changes

-- the changes among calls, those that failed among them, the newest first
abbrev pub changes_in : List Call → List Change
changes_in [] = []
changes_in (Did change ∷ older) = change ∷ changes_in older
changes_in (Broke change left ∷ older) = change ∷ changes_in older
changes_in (Synced ∷ older) = changes_in older

-- those since the last sync
abbrev pub unsynced : List Call → List Change
unsynced [] = []
unsynced (Did change ∷ older) = change ∷ unsynced older
unsynced (Broke change left ∷ older) = change ∷ unsynced older
unsynced (Synced ∷ older) = []

-- each of them was as it can be
abbrev pub IsSoundSinceSync : Disk → List Call → Type 0
IsSoundSinceSync start [] = ⊤
IsSoundSinceSync start (Did change ∷ older) = IsSoundSinceSync start older × CanDo change (disk_after start older)
IsSoundSinceSync start (Broke change left ∷ older) = IsSoundSinceSync start older × BreaksInto change (disk_after start older) left
IsSoundSinceSync start (Synced ∷ older) = ⊤

-- all is on the disk, and nothing was changed since the last sync
pub record IsSynced (log : Log) : Type 0 where
  pub durable : (image : Disk) → IsImage log image → image ≡ now log
  pub tree : IsTree (now log)
  pub none : unsynced log.calls ≡ []
