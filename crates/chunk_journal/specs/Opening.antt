-- Opening a folder whose journal a stop may have left: which journals are damaged, and where, and what an opening owes.
use Rattle.std.specs.Prelude.{◌≡◌, ◌⊎◌, ⊤, ℕ, ◌+◌, ◌<◌, ◌^◌, List, ◌∷◌, ◌++◌, length, take, drop, get_or, Bool, true, false, Option, None, Some}
use Rattle.std.specs.Int.{w64, from_be_bytes}
use Rattle.outside.specs.Disk.{Disk, file, node_at, IsFolder}
use Rattle.outside.specs.Images.{Log, Synced, adds, now, IsImage, LeavesOnly}
use Rattle.deeds.specs.Deeds.{PlainDeed, DoesAll, IsRefusedAt, LogGoesOn, in_order}
use Rattle.outside.specs.Unsynced.{IsSynced}
use Rattle.deeds.specs.Grammar.{IsBadAt, IsBatch, behind_gate, spelled_deeds}
use Rattle.chunk_journal.specs.declared.fault.JournalErr.{JournalErr}
use Rattle.chunk_journal.specs.declared.fault.JournalErr.TheVariants.{Device, JournalDamaged, Memory}
use Rattle.chunk_journal.specs.Journal.{journal_file, new_file, IsSummed, HoldsBatch, IsClosed, RecoversTo, Recovered, IsAlike, IsQuiet, IsFound, IsRepeatable, IsReopenable, StaysRecovered, StaysTidy}

-- ---- the bytes of a journal whose gate is open

-- the number of bytes that it says its batch has
abbrev pub said_len : List ℕ → ℕ
said_len bytes = from_be_bytes w64 (take 8 (drop 1 bytes))

-- so many bytes after the gate and the length
abbrev pub batch_bytes : List ℕ → List ℕ
batch_bytes bytes = take (said_len bytes) (drop 9 bytes)

-- the gate, the length and the batch
abbrev pub whole_batch : List ℕ → List ℕ
whole_batch bytes = take (9 + said_len bytes) bytes

-- and what follows them
abbrev pub behind_batch : List ℕ → List ℕ
behind_batch bytes = drop (9 + said_len bytes) bytes

-- the file ends within its length, or within its batch
abbrev pub IsShort : List ℕ → Type 0
IsShort bytes = (length bytes < 9) ⊎ (length bytes < 9 + said_len bytes)

-- ---- damage, and its place

-- a folder is where the journal is, or where the first one is made
abbrev pub HasFolder : Disk → Type 0
HasFolder disk = IsFolder disk journal_file ⊎ IsFolder disk new_file

-- the file is short: the file's length
pub record IsCutAt (bytes : List ℕ) (at : ℕ) : Type 0 where
  pub short : IsShort bytes
  pub place : at ≡ length bytes

-- the batch isn't in the grammar: the place of its first fault
pub record IsUnreadAt (bytes : List ℕ) (at : ℕ) : Type 0 where
  pub whole : IsShort bytes → ⊥
  pub fault : ℕ
  pub bad : IsBadAt (batch_bytes bytes) fault
  pub place : at ≡ 9 + fault

-- the batch is in the grammar, and a sum follows it that is another's: the place of its letters
pub record IsMissummedAt (bytes : List ℕ) (at : ℕ) : Type 0 where
  pub whole : IsShort bytes → ⊥
  pub good : (fault : ℕ) → IsBadAt (batch_bytes bytes) fault → ⊥
  pub other : IsSummed (whole_batch bytes) (behind_batch bytes) → ⊥
  pub place : at ≡ 9 + said_len bytes

-- the folder doesn't fit a deed: the place of the first such deed in the order of doing
pub record IsUnfitAt (disk : Disk) (at : ℕ) : Type 0 where
  pub deeds : List PlainDeed
  pub held : HoldsBatch disk deeds
  pub index : ℕ
  pub refused : IsRefusedAt deeds index disk
  pub place : at ≡ 13 + length (spelled_deeds (take index deeds))

-- no folder is there, the gate is open, and what is after it can't be done
pub record IsBadBehindGate (disk : Disk) (at : ℕ) : Type 0 where
  pub no_folder : HasFolder disk → ⊥
  pub bytes : List ℕ
  pub here : node_at disk journal_file ≡ Some (file bytes)
  pub gate : get_or bytes 0 0 ≡ 1
  pub damage : IsCutAt bytes at ⊎ (IsUnreadAt bytes at ⊎ (IsMissummedAt bytes at ⊎ IsUnfitAt disk at))

-- the journal of a disk is damaged at this place
abbrev pub IsDamagedAt : Disk → ℕ → Type 0
IsDamagedAt disk at = (HasFolder disk × (at ≡ 0)) ⊎ IsBadBehindGate disk at

-- its batch can be done, and leaves a folder where a file of the journal's has to be
pub record LeavesFolder (disk : Disk) (at : ℕ) : Type 0 where
  pub deeds : List PlainDeed
  pub held : HoldsBatch disk deeds
  pub after : Disk
  pub run : DoesAll (in_order deeds) disk after
  pub folder : HasFolder after
  pub place : at ≡ 0

-- the journal of a disk isn't damaged, and can be opened again
pub record IsOpenable (disk : Disk) : Type 0 where
  pub undamaged : (at : ℕ) → IsDamagedAt disk at → ⊥
  pub again : IsReopenable disk

-- the journal's file, if one is there, has bytes, and fewer than 2^64 of them
abbrev pub HasFileBytes : Disk → Type 0
HasFileBytes disk = (bytes : List ℕ) → node_at disk journal_file ≡ Some (file bytes) → (length bytes < 2 ^ 64) × ((i : ℕ) → get_or bytes i 0 < 256)

-- P of the place of the damage that an error names
abbrev pub IfDamaged : JournalErr → (ℕ → Type 0) → Type 0
IfDamaged Device P = ⊤
IfDamaged (JournalDamaged at) P = P at
IfDamaged Memory P = ⊤

-- ---- what an opening owes

-- The sync that it begins with leaves nothing that a stop couldn't have left before. Nothing else is done if there is no
-- batch to be done; and if its deeds can be repeated, each image at each moment since recovers to what the disk that was
-- found recovers to, and what is unsynced is loose. The folder's calls go on from those before.
pub record IsOpening (old new : Log) : Type 0 where
  pub grown : LogGoesOn old new
  pub begun : LeavesOnly old (adds old Synced) (IsImage old)
  pub steady : IsSynced (adds old Synced)
  pub untouched : ((deeds : List PlainDeed) → IsFound deeds (adds old Synced) → ⊥) → new ≡ adds old Synced
  pub stays : (deeds : List PlainDeed) → IsRepeatable deeds → IsFound deeds (adds old Synced) → StaysRecovered deeds (adds old Synced) new
  pub tidy : ((deeds : List PlainDeed) → HoldsBatch (now old) deeds → IsRepeatable deeds) → StaysTidy (adds old Synced) new

-- nothing was done, or it is as an opening owes
abbrev pub StaysOpening : Log → Log → Type 0
StaysOpening old new = (new ≡ old) ⊎ IsOpening old new

-- The journal is quiet, the disk is what the one before recovers to, and that wasn't damaged.
pub record HasOpened (old new : Log) : Type 0 where
  pub at_rest : IsQuiet new
  pub disk : Disk
  pub recovers : RecoversTo (now old) disk
  pub alike : IsAlike disk (now new)
  pub undamaged : (at : ℕ) → IsDamagedAt (now old) at → ⊥

-- What it was refused for is left: if no folder is in the places of the journal's files, reads give what the disk before recovers to, its deeds
-- applied up to the first call whose condition fails.
abbrev pub IsLeftApplied : Log → Log → Type 0
IsLeftApplied old new = (HasFolder (now old) → ⊥) → Recovered (now old) (now new)

-- a batch is there to be done, or there is none
abbrev pub HasOpenBatch : Bool → Disk → Type 0
HasOpenBatch true disk = (deeds : List PlainDeed) × HoldsBatch disk deeds
HasOpenBatch false disk = IsClosed disk

-- what is found before anything is done: no folder is in the places of the journal's files, and there is such a batch or none
pub record IsFoundOpen (held : Bool) (disk : Disk) : Type 0 where
  pub no_folder : HasFolder disk → ⊥
  pub batch : HasOpenBatch held disk

-- ---- what is read on the way

-- a file of this length is there, or nothing, and no folder at either place
abbrev pub HasLen : Option ℕ → Disk → Type 0
HasLen None disk = (node_at disk journal_file ≡ None) × (HasFolder disk → ⊥)
HasLen (Some len) disk = ((bytes : List ℕ) × (node_at disk journal_file ≡ Some (file bytes)) × (length bytes ≡ len)) × (HasFolder disk → ⊥)

-- the gate is open before a length that the file has
pub record Says (len : ℕ) (disk : Disk) : Type 0 where
  pub bytes : List ℕ
  pub here : node_at disk journal_file ≡ Some (file bytes)
  pub gate : get_or bytes 0 0 ≡ 1
  pub whole : IsShort bytes → ⊥
  pub is : len ≡ said_len bytes
  pub fits : (i : ℕ) → get_or (take 9 bytes) i 0 < 256

-- these deeds follow the open gate, whatever is behind them
pub record Follows (deeds : List PlainDeed) (disk : Disk) : Type 0 where
  pub batch : IsBatch deeds
  pub rest : List ℕ
  pub here : node_at disk journal_file ≡ Some (file (1 ∷ behind_gate deeds ++ rest))

-- behind them is no sum, or theirs; or there is another's
abbrev pub IsSummedOrNot : Bool → List PlainDeed → Disk → Type 0
IsSummedOrNot true deeds disk = HoldsBatch disk deeds
IsSummedOrNot false deeds disk = (follows : Follows deeds disk) × (IsSummed (1 ∷ behind_gate deeds) follows.rest → ⊥)

abbrev pub OfLen : Option ℕ → Type 0 → (ℕ → Type 0) → Type 0
OfLen None Q P = Q
OfLen (Some len) Q P = P len
