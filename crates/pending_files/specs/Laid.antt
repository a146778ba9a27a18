-- What waits, laid over a disk: the disk once all of it is done.
use Rattle.std.specs.Prelude.{◌≡◌, ◌<◌, List, [], ◌∷◌, length, Option, Some, None}
use Rattle.outside.specs.Disk.{Disk, Path, Node, folder, file, node_at}
use Rattle.outside.specs.Changes.{MakeDir, Put, Write, SetLen, Move, RemoveFile, RemoveDir}
use Rattle.outside.specs.Images.{Call, Did, Broke, Synced, Log, now}
use Rattle.deeds.specs.Reshape.{Ranges}
use Rattle.deeds.specs.Deeds.{PlainDeed, MakesDir, Puts, Renames, Removes, RemovesDir, Reshapes, DoesAll, done_deed, in_order}
use Rattle.pending_files.specs.Pending.{ArePending}

abbrev pub laid : List PlainDeed → Disk → Disk
laid [] disk = disk
laid (deed ∷ deeds) disk = laid deeds (done_deed deed disk)

-- it can be done on the disk
pub record CanWait (deeds : List PlainDeed) (disk : Disk) : Type 0 where
  pub pending : ArePending deeds
  pub does : DoesAll (in_order deeds) disk (laid deeds disk)

-- ---- what reads give of a folder over which it is laid

-- the changes that a deed asks for, before others
abbrev pub range_calls : Path → Ranges → List Call → List Call
range_calls path [] others = others
range_calls path (range ∷ ranges) others = Did (Write path range.0 range.1) ∷ range_calls path ranges others

abbrev pub deed_calls : PlainDeed → List Call → List Call
deed_calls (MakesDir path) others = Did (MakeDir path) ∷ others
deed_calls (Puts path bytes) others = Did (Put path bytes) ∷ others
deed_calls (Renames from to) others = Did (Move from to) ∷ others
deed_calls (Removes path) others = Did (RemoveFile path) ∷ others
deed_calls (RemovesDir path) others = Did (RemoveDir path) ∷ others
deed_calls (Reshapes path len ranges) others = Did (SetLen path len) ∷ range_calls path ranges others

-- those of all that waits, before the folder's own calls
abbrev pub waiting_calls : List PlainDeed → List Call → List Call
waiting_calls [] calls = Synced ∷ calls
waiting_calls (deed ∷ deeds) calls = deed_calls deed (waiting_calls deeds calls)

-- A log that says all of both: the folder's own, then what waits, and the disk that is shown. So a reader that leaves it as it was has changed
-- neither.
abbrev pub laid_log : List PlainDeed → Log → Log
laid_log deeds log = record { start = log.start; calls = Broke (MakeDir []) (laid deeds (now log)) ∷ waiting_calls deeds log.calls }

-- ---- what a disk looks like but for the bytes of its files

abbrev pub outline : Option Node → Option Node
outline None = None
outline (Some folder) = Some folder
outline (Some (file bytes)) = Some (file [])

-- two disks are alike so below the top, where the journal's files are
abbrev pub LookAlike : Disk → Disk → Type 0
LookAlike a b = (q : Path) → 1 < length q → outline (node_at b q) ≡ outline (node_at a q)
