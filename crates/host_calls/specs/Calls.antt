-- What each call of a host says of a story that is told.
use Rattle.std.specs.Prelude.{◌≡◌, ◌⊎◌, ℕ, ◌+◌, ◌≤◌, Bool, true, false, List, [], ◌∷◌, length, take, Option, Some, None, IsTrue}
use Rattle.std.specs.FinMap as map
use Rattle.vault_path.specs.Parts.{is_path}
use Rattle.outside.specs.Calls.{Told, Changes}
use Rattle.outside.specs.Disk.{Disk, Path}
use Rattle.outside.specs.Changes.{Change, MakeDir, Put, Write, SetLen, Move, RemoveFile, RemoveDir}
use Rattle.outside.specs.Images.{Call, Did, Broke, Synced}
use Rattle.host_calls.specs.declared.found.Inode.{Inode}
use Rattle.host_calls.specs.declared.found.Found.{Found}
use Rattle.host_calls.specs.declared.found.Found.TheVariants as found
use Rattle.host_calls.specs.declared.calls.HostChange.{HostChange}
use Rattle.host_calls.specs.declared.calls.HostChange.TheVariants as marks
use Rattle.host_calls.specs.HostPath.{host_path}
use Rattle.host_calls.specs.Volume.{Folder, File, entry_at}
use Rattle.host_calls.specs.Names.{NameStep, Fits, MadeFolder, Moved, Dropped, CanMake, HasFile, IsEmptyFolder}
use Rattle.host_calls.specs.Bytes.{FileStep, Wrote, Cut}
use Rattle.host_calls.specs.Story.{Story, names_now, volume_now, disk_now, bytes_now, IsNew, takes, writes, creates, flushes_entry, doubts, notes}

-- the text that names a path in the folder whose own text is `top`
pub record IsTextOf (top : List ℕ) (text : List ℕ) (path : Path) : Type 0 where
  pub good : IsTrue (is_path path)
  pub is : text ≡ host_path top path

-- P of the path that a text names, if it names one
abbrev pub AtPath : List ℕ → List ℕ → (Path → Type 0) → Type 0
AtPath top text P = (path : Path) → IsTextOf top text path → P path

-- what was found is what is at the path
abbrev pub IsFound : Found → Story → Path → Type 0
IsFound found.Nothing story path = entry_at (names_now story) path ≡ None
IsFound (found.Dir inode) story path = entry_at (names_now story) path ≡ Some Folder
IsFound (found.File inode size) story path = (entry_at (names_now story) path ≡ Some (File inode)) × (size ≡ length (bytes_now story inode))
IsFound found.Other story path = ⊥

-- a step fits the names that there are, and was taken
pub record HasTaken (step : NameStep) (old new : Story) : Type 0 where
  pub fits : Fits step (names_now old)
  pub is : new ≡ takes step old

-- a file was made of these bytes
pub record HasCreated (path : Path) (bytes : List ℕ) (old new : Story) : Type 0 where
  pub fits : CanMake (names_now old) path
  pub inode : Inode
  pub fresh : IsNew old inode
  pub is : new ≡ creates path inode (Wrote 0 bytes ∷ []) old

-- the file at a path, of at least so many bytes
pub record IsLongFile (path : Path) (inode : Inode) (least : ℕ) (story : Story) : Type 0 where
  pub there : entry_at (names_now story) path ≡ Some (File inode)
  pub long : least ≤ length (bytes_now story inode)

-- a file was changed by these steps, the newest first
pub record HasWritten (path : Path) (inode : Inode) (least : ℕ) (steps : List FileStep) (old new : Story) : Type 0 where
  pub file : IsLongFile path inode least old
  pub is : new ≡ writes inode steps old

-- bytes that are written from a place on, which may be the file's last
abbrev pub written : ℕ → List ℕ → Bool → List FileStep
written at bytes false = Wrote at bytes ∷ []
written at bytes true = Cut (at + length bytes) ∷ Wrote at bytes ∷ []

-- ---- what a call that failed may have done: nothing, all, or a part

abbrev pub MayHaveTaken : NameStep → Story → Story → Type 0
MayHaveTaken step old new = (new ≡ old) ⊎ HasTaken step old new

abbrev pub MayHaveCreated : Path → List ℕ → Story → Story → Type 0
MayHaveCreated path bytes old new = (new ≡ old) ⊎ ((n : ℕ) × HasCreated path (take n bytes) old new)

abbrev pub MayHaveWritten : Path → Inode → ℕ → List ℕ → Bool → Story → Story → Type 0
MayHaveWritten path inode at bytes is_end old new =
    (new ≡ old)
    ⊎ HasWritten path inode at (written at bytes is_end) old new
    ⊎ ((n : ℕ) × HasWritten path inode at (written at (take n bytes) false) old new)

abbrev pub MayHaveCut : Path → Inode → ℕ → Story → Story → Type 0
MayHaveCut path inode n old new = (new ≡ old) ⊎ HasWritten path inode n (Cut n ∷ []) old new

-- ---- flushes

-- what is at the path came to the disk, if no flush failed before
abbrev pub flushed_at : Path → Bool → Story → Story
flushed_at path false story = flushes_entry path (entry_at (names_now story) path) story
flushed_at path true story = story

abbrev pub HasFlushed : Path → Story → Story → Type 0
HasFlushed path old new = new ≡ flushed_at path old.doubt old

abbrev pub HasDoubt : Story → Story → Type 0
HasDoubt old new = new ≡ doubts old

-- ---- the diary

abbrev pub change_of : HostChange → Change
change_of (marks.MakeDir path) = MakeDir path.now
change_of (marks.Put path bytes) = Put path.now bytes.now
change_of (marks.Write path at bytes) = Write path.now at bytes.now
change_of (marks.SetLen path n) = SetLen path.now n
change_of (marks.Rename from to) = Move from.now to.now
change_of (marks.RemoveFile path) = RemoveFile path.now
change_of (marks.RemoveDir path) = RemoveDir path.now

abbrev pub HasNoted : Call → Story → Story → Type 0
HasNoted call old new = new ≡ notes call old

-- a change that failed, which left what reads give, if any step of it was taken
abbrev pub noted_break : Change → Bool → Story → Story
noted_break change false story = story
noted_break change true story = notes (Broke change (disk_now story)) story

abbrev pub HasNotedBreak : Change → Story → Story → Type 0
HasNotedBreak change old new = new ≡ noted_break change old.unnoted old
