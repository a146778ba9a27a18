-- The calls that a folder in memory keeps, as those of its log.
use Rattle.std.specs.Prelude.{◌≡◌, ⊤, ℕ, ◌/◌, List, [], ◌∷◌, length, take, replicate}
use Rattle.outside.specs.Disk.{Disk}
use Rattle.outside.specs.Changes.{Change, MakeDir, Put, Write, SetLen, Move, RemoveFile, RemoveDir, CanDo, done}
use Rattle.outside.specs.Images.{Call, Did, Broke, Synced, Log, IsImage, disk_after}
use Rattle.outside_mem.specs.Held.{Holding}
use Rattle.outside_mem.specs.Plan.{no_faults}
use Rattle.outside_mem.specs.declared.change.MemChange.{MemChange}
use Rattle.outside_mem.specs.declared.change.MemChange.TheVariants as kept
use Rattle.outside_mem.specs.declared.change.MemCall.{MemCall}
use Rattle.outside_mem.specs.declared.change.MemCall.TheVariants as calls

abbrev pub change_of : MemChange → Change
change_of (kept.MakeDir path) = MakeDir path
change_of (kept.Put path bytes) = Put path bytes.items
change_of (kept.Write path at bytes) = Write path at bytes.items
change_of (kept.SetLen path n) = SetLen path n
change_of (kept.Move from to) = Move from to
change_of (kept.RemoveFile path) = RemoveFile path
change_of (kept.RemoveDir path) = RemoveDir path

-- the bytes that a change puts or writes
abbrev pub own_bytes : Change → List ℕ
own_bytes (MakeDir path) = []
own_bytes (Put path bytes) = bytes
own_bytes (Write path at bytes) = bytes
own_bytes (SetLen path n) = []
own_bytes (Move from to) = []
own_bytes (RemoveFile path) = []
own_bytes (RemoveDir path) = []

-- the same change with others in their place
abbrev pub with_bytes : Change → List ℕ → Change
with_bytes (MakeDir path) others = MakeDir path
with_bytes (Put path bytes) others = Put path others
with_bytes (Write path at bytes) others = Write path at others
with_bytes (SetLen path n) others = SetLen path n
with_bytes (Move from to) others = Move from to
with_bytes (RemoveFile path) others = RemoveFile path
with_bytes (RemoveDir path) others = RemoveDir path

-- the part of a change that is done by a call that breaks off: half of its bytes, or all of it
abbrev pub halved : Change → Change
halved change = with_bytes change (take (length (own_bytes change) / 2) (own_bytes change))

-- the same change with 0xA5 in place of each of its bytes
abbrev pub filled : Change → Change
filled change = with_bytes change (replicate (length (own_bytes change)) 165)

-- a call of the log, by the disk that it was made of
abbrev pub call_of : Disk → MemCall → Call
call_of disk (calls.Did change) = Did (change_of change)
call_of disk (calls.Broke change) = Broke (change_of change) (done (halved (change_of change)) disk)
call_of disk calls.Synced = Synced

-- the calls of the log, the newest first, after those that were there
abbrev pub calls_after : Disk → List MemCall → List Call → List Call
calls_after start [] older = older
calls_after start (call ∷ calls) older = calls_after start calls (call_of (disk_after start older) call ∷ older)

-- the same from a folder's first call on
abbrev pub all_calls : Disk → List MemCall → List Call
all_calls start calls = calls_after start calls []

-- what the calls leave of a disk
abbrev pub disk_by : Disk → List MemCall → Disk
disk_by start calls = disk_after start (all_calls start calls)

-- ---- a call that is made again

-- when it can be
abbrev pub CanRepeat : Disk → MemCall → Type 0
CanRepeat disk (calls.Did change) = CanDo (change_of change) disk
CanRepeat disk (calls.Broke change) = CanDo (change_of change) disk
CanRepeat disk calls.Synced = ⊤

-- what it leaves
abbrev pub left_by : MemCall → Disk → Disk
left_by (calls.Did change) disk = done (change_of change) disk
left_by (calls.Broke change) disk = done (halved (change_of change)) disk
left_by calls.Synced disk = disk

-- ---- images

-- a folder that begins with what a stop may leave of another, and has no calls
pub record IsStopped (log : Log) (folder : Holding) : Type 0 where
  pub image : IsImage log folder.log.start
  pub calls : folder.log.calls ≡ []
  pub changes : folder.changes ≡ 0
  pub plan : folder.plan ≡ no_faults
