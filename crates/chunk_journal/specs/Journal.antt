-- The journal of a folder, and what an image of it recovers to.
use Rattle.std.specs.Prelude.{◌≡◌, ◌≢◌, ◌⊎◌, ℕ, ◌≤◌, List, ◌∷◌, ◌++◌, length, take, drop, codes, Contains, get_or, Some, None}
use Rattle.sha2.specs.Sha256.{sha256}
use Rattle.outside.specs.Disk.{Disk, Path, file, node_at, IsFolder}
use Rattle.outside.specs.Images.{Log, now, moment, log_at, LeavesOnly}
use Rattle.deeds.specs.Deeds.{PlainDeed, DoesAll, IsAlikeBut, LogGoesOn, in_order, named}
use Rattle.outside.specs.Unsynced.{IsSoundSinceSync, IsSynced, touched, unsynced}
use Rattle.deeds.specs.Applying.{Applies}
use Rattle.deeds.specs.Grammar.{IsBatch, behind_gate}
pub use Rattle.deeds.specs.Repeatable.{journal_name, new_name, names_apart, journal_file, new_file, IsRepeatable}

-- ---- what an image recovers to

-- there is no journal, or its gate isn't open
abbrev pub IsClosed : Disk → Type 0
IsClosed disk = (node_at disk journal_file ≡ None) ⊎ ((bytes : List ℕ) × (node_at disk journal_file ≡ Some (file bytes)) × (get_or bytes 0 0 ≢ 1))

-- the letters before a sum
abbrev pub sum_mark : List ℕ
sum_mark = codes "BATCHSUM"

-- what follows an open gate with its batch begins with no sum, or with the SHA-256 of these
abbrev pub IsSummed : List ℕ → List ℕ → Type 0
IsSummed whole rest = take 8 rest ≡ sum_mark → take 32 (drop 8 rest) ≡ sha256 whole

-- its gate is open before this batch, whose sum isn't another's; what follows else is ignored
pub record HoldsBatch (disk : Disk) (deeds : List PlainDeed) : Type 0 where
  pub batch : IsBatch deeds
  pub rest : List ℕ
  pub here : node_at disk journal_file ≡ Some (file (1 ∷ behind_gate deeds ++ rest))
  pub sum : IsSummed (1 ∷ behind_gate deeds) rest

-- there is no such batch: the gate isn't open, or the bytes after it are none, or a sum of others follows them
abbrev pub IsUnheld : Disk → Type 0
IsUnheld disk = (deeds : List PlainDeed) → HoldsBatch disk deeds → ⊥

abbrev pub RecoversTo : Disk → Disk → Type 0
RecoversTo image disk = (IsClosed image × (disk ≡ image)) ⊎ ((deeds : List PlainDeed) × HoldsBatch image deeds × DoesAll (in_order deeds) image disk)

-- the same if the batch may not fit the image: it is applied up to the first call whose condition fails
abbrev pub Recovered : Disk → Disk → Type 0
Recovered image disk = (IsUnheld image × (disk ≡ image)) ⊎ ((deeds : List PlainDeed) × HoldsBatch image deeds × Applies (in_order deeds) image disk)

-- the batch of a disk, if it holds one, can be done again, and no folder is where the first journal is made
pub record IsReopenable (disk : Disk) : Type 0 where
  pub repeatable : (deeds : List PlainDeed) → HoldsBatch disk deeds → IsRepeatable deeds
  pub no_folder : IsFolder disk new_file → ⊥

-- the same beside the journal's two files
abbrev pub IsAlike : Disk → Disk → Type 0
IsAlike a b = IsAlikeBut journal_file new_file a b

-- an image recovers to what was before, or to what is after, and can be opened again
abbrev pub IsBeforeOrAfter : Disk → Disk → Disk → Type 0
IsBeforeOrAfter before after image = (disk : Disk) × RecoversTo image disk × (IsAlike before disk ⊎ IsAlike after disk) × IsReopenable image

-- all is on the disk and synced, no journal is open, and no folder is where the first one is made
pub record IsQuiet (log : Log) : Type 0 where
  pub steady : IsSynced log
  pub closed : IsClosed (now log)
  pub no_folder : IsFolder (now log) new_file → ⊥

-- besides, the journal is there
pub record IsReady (log : Log) : Type 0 where
  pub steady : IsSynced log
  pub gate : ℕ
  pub rest : List ℕ
  pub here : node_at (now log) journal_file ≡ Some (file (gate ∷ rest))
  pub shut : gate ≢ 1
  pub no_folder : IsFolder (now log) new_file → ⊥

-- of the journal's file, if it is there, no byte is behind its gate
abbrev pub HasGateAlone : Disk → Type 0
HasGateAlone disk = (bytes : List ℕ) → node_at disk journal_file ≡ Some (file bytes) → length bytes ≤ 1

-- ---- what is unsynced

-- one of the journal's two files is there, or the batch that the disk holds names the path
abbrev pub IsLoose : Disk → Path → Type 0
IsLoose disk path = (path ≡ journal_file) ⊎ ((path ≡ new_file) ⊎ ((deeds : List PlainDeed) × HoldsBatch disk deeds × Contains (named deeds) path))

-- each change since the last sync was as it can be, and names only paths that are loose on the disk that reads give
pub record IsTidy (log : Log) : Type 0 where
  pub sound : IsSoundSinceSync log.start log.calls
  pub loose : (path : Path) → Contains (touched (unsynced log.calls)) path → IsLoose (now log) path

-- so it is at each moment from this one on
abbrev pub TidySince : ℕ → Log → Type 0
TidySince first log = (m : ℕ) → first ≤ m → m ≤ moment log → IsTidy (log_at log m)

-- the calls go on from the old ones, and so it is at each moment since
pub record StaysTidy (old new : Log) : Type 0 where
  pub grown : LogGoesOn old new
  pub each : TidySince (moment old) new

-- ---- commits

-- At each moment since, whatever the deeds leave in the end, an image recovers to what was before or to that; and what is unsynced is loose.
pub record AnyMoment (deeds : List PlainDeed) (old new : Log) : Type 0 where
  pub recovers : (after : Disk) → DoesAll (in_order deeds) (now old) after → LeavesOnly old new (IsBeforeOrAfter (now old) after)
  pub tidy : StaysTidy old new

-- the deeds are done and on the disk, and the journal is quiet
pub record HasCommitted (deeds : List PlainDeed) (old new : Log) : Type 0 where
  pub at_rest : IsQuiet new
  pub after : (after : Disk) → DoesAll (in_order deeds) (now old) after → IsAlike after (now new)

-- ---- recovery

-- an image recovers to this beside the journal's files, and can be opened again
abbrev pub RecoversLike : Disk → Disk → Type 0
RecoversLike after image = (disk : Disk) × RecoversTo image disk × IsAlike after disk × IsReopenable image

-- a journal with this batch was found open, and all is on the disk and synced
pub record IsFound (deeds : List PlainDeed) (log : Log) : Type 0 where
  pub steady : IsSynced log
  pub open_gate : HoldsBatch (now log) deeds
  pub no_folder : IsFolder (now log) new_file → ⊥

-- the same if its batch may not fit
abbrev pub RecoveredLike : Disk → Disk → Type 0
RecoveredLike after image = (disk : Disk) × Recovered image disk × IsAlike after disk × IsReopenable image

-- At each moment since an image recovers to what the disk that was found does, whether all deeds can be done on it or not; and what is unsynced
-- is loose.
pub record StaysRecovered (deeds : List PlainDeed) (old new : Log) : Type 0 where
  pub whole : (after : Disk) → DoesAll (in_order deeds) (now old) after → LeavesOnly old new (RecoversLike after)
  pub applied : (after : Disk) → Applies (in_order deeds) (now old) after → LeavesOnly old new (RecoveredLike after)
  pub tidy : StaysTidy old new

-- the deeds are done and on the disk, and the gate is closed
pub record HasRecovered (deeds : List PlainDeed) (old new : Log) : Type 0 where
  pub at_rest : IsQuiet new
  pub after : (after : Disk) → DoesAll (in_order deeds) (now old) after → IsAlike after (now new)

-- ---- the first journal

-- at each moment since an image recovers to what reads gave, and what is unsynced is loose
pub record StaysShut (old new : Log) : Type 0 where
  pub recovers : LeavesOnly old new (RecoversLike (now old))
  pub tidy : StaysTidy old new
