-- What a stop may leave of a folder, by the calls that there were.
--
-- Up to the next sync a stop leaves of each change none of it, all of it or a part, in every combination that is a tree.
-- The model goes by paths, whereas a host goes by files: it is true of a host only while no file that was moved is put,
-- written or cut again before the next sync. Whoever calls a folder keeps to that.
use Rattle.std.specs.Prelude.{◌≡◌, ◌⊎◌, ◌≤◌, ◌-◌, ℕ, List, [], ◌∷◌, ◌++◌, length, drop, Option}
use Rattle.std.specs.Option.{option_map}
use Rattle.outside.specs.Calls.{IsUnfit}
use Rattle.outside.specs.Disk.{Disk, IsTree}
use Rattle.outside.specs.Changes.{Change, CanDo, IsPartOf, done}

-- a call that was made of a folder: a change that was done, one that failed and left this disk, or a sync
pub data Call : Type 0 where
  Did : Change → Call
  Broke : Change → Disk → Call
  Synced : Call

-- the disk that it began with, and its calls, the newest first
pub record Log : Type 0 where
  pub start : Disk
  pub calls : List Call

-- what reads give
abbrev pub disk_after : Disk → List Call → Disk
disk_after start [] = start
disk_after start (Did change ∷ older) = done change (disk_after start older)
disk_after start (Broke change left ∷ older) = left
disk_after start (Synced ∷ older) = disk_after start older

-- what a stop may leave
abbrev pub MayLeave : Disk → List Call → Disk → Type 0
MayLeave start [] image = image ≡ start
MayLeave start (Did change ∷ older) image = (before : Disk) × MayLeave start older before × IsPartOf change before image × IsTree image
MayLeave start (Broke change left ∷ older) image = (before : Disk) × MayLeave start older before × IsPartOf change before image × IsTree image
MayLeave start (Synced ∷ older) image = image ≡ disk_after start older

-- a change that could be done on the disk failed on the way, and left this
pub record BreaksInto (change : Change) (old left : Disk) : Type 0 where
  pub can : CanDo change old
  pub part : IsPartOf change old left
  pub tree : IsTree left

-- each call was as it can be, from a tree on
abbrev pub IsSound : Disk → List Call → Type 0
IsSound start [] = IsTree start
IsSound start (Did change ∷ older) = IsSound start older × CanDo change (disk_after start older)
IsSound start (Broke change left ∷ older) = IsSound start older × BreaksInto change (disk_after start older) left
IsSound start (Synced ∷ older) = IsSound start older

-- what reads give now
abbrev pub now : Log → Disk
now log = disk_after log.start log.calls

-- the same of a log that may be told
abbrev pub disk_in : Option Log → Option Disk
disk_in log = option_map now log

-- a disk that a stop may leave now
abbrev pub IsImage : Log → Disk → Type 0
IsImage log image = MayLeave log.start log.calls image

-- the moment: how many calls there were
abbrev pub moment : Log → ℕ
moment log = length log.calls

-- the log as it was at a moment
abbrev pub log_at : Log → ℕ → Log
log_at log m = record { start = log.start; calls = drop (length log.calls - m) log.calls }

-- the log with one call more
abbrev pub adds : Log → Call → Log
adds log call = record { start = log.start; calls = call ∷ log.calls }

-- a change could be done, and was
abbrev pub HasDone : Change → Log → Log → Type 0
HasDone change old new = CanDo change (now old) × (new ≡ adds old (Did change))

-- a change that failed wasn't begun, or could be done and left some part of itself
abbrev pub HasBroken : Change → Log → Log → Type 0
HasBroken change old new =
    (new ≡ old) ⊎ ((left : Disk) × BreaksInto change (now old) left × (new ≡ adds old (Broke change left)))

-- A call answers that a change doesn't fit only if it can't be done, or, if nothing is told, if the count rose.
abbrev pub DoesNotFit : Change → Option Log → ℕ → ℕ → Type 0
DoesNotFit change log before after = IsUnfit log before after (λ l. CanDo change (now l))

-- The calls since go on from the old ones and change none of them, and P of each image at each moment from then on.
pub record LeavesOnly (old new : Log) (P : Disk → Type 0) : Type 0 where
  pub start : new.start ≡ old.start
  pub later : (since : List Call) × (new.calls ≡ since ++ old.calls)
  pub each : (m : ℕ) → moment old ≤ m → m ≤ moment new → (image : Disk) → IsImage (log_at new m) image → P image

-- all is on the disk: a stop leaves what reads give
pub record IsSteady (log : Log) : Type 0 where
  pub durable : (image : Disk) → IsImage log image → image ≡ now log
  pub tree : IsTree (now log)

-- a change was done, and is on the disk
pub record HasKept (change : Change) (old new : Log) : Type 0 where
  pub can : CanDo change (now old)
  pub is : now new ≡ done change (now old)
  pub steady : IsSteady new
