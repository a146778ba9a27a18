-- The stages of a commit, up to the batch that follows the closed gate.
use Rattle.std.specs.Prelude.{◌≡◌, ◌≢◌, ◌≤◌, ◌+◌, ℕ, List, [], ◌∷◌, ◌++◌, length, get_or, Some}
use Rattle.outside.specs.Disk.{Disk, Path, file, node_at}
use Rattle.outside.specs.Changes.{Change, CanDo, IsPartOf, done}
use Rattle.outside.specs.Images.{Log, now, LeavesOnly}
use Rattle.deeds.specs.Deeds.{PlainDeed, GoesOnAt}
use Rattle.outside.specs.Unsynced.{IsSynced, paths_of}
use Rattle.deeds.specs.Grammar.{behind_gate}
use Rattle.sha2.specs.Sha256.{sha256}
use Rattle.chunk_journal.specs.Journal.{journal_file, sum_mark}

-- The calls go on from the old ones, and the changes since name the change's paths alone; at each moment since an image has some part of the change.
pub record LeavesParts (change : Change) (old new : Log) : Type 0 where
  pub images : LeavesOnly old new (IsPartOf change (now old))
  pub grown : GoesOnAt (paths_of change) old new

-- a change was done, and nothing since it was synced
pub record IsKept (change : Change) (old new : Log) : Type 0 where
  pub can : CanDo change (now old)
  pub is : now new ≡ done change (now old)
  pub steady : IsSynced new

-- the journal is there and closed, and all else is as it was
pub record IsShutBeside (disk image : Disk) : Type 0 where
  pub bytes : List ℕ
  pub here : node_at image journal_file ≡ Some (file bytes)
  pub shut : get_or bytes 0 0 ≢ 1
  pub alike : (q : Path) → q ≢ journal_file → node_at image q ≡ node_at disk q

-- the calls go on from the old ones, and change the journal's file alone; and so is each image at each moment since
pub record KeepsShut (old new : Log) : Type 0 where
  pub images : LeavesOnly old new (IsShutBeside (now old))
  pub grown : GoesOnAt (journal_file ∷ []) old new

-- these bytes follow the closed gate, and all else is as it was
pub record HasFront (front : List ℕ) (disk new : Disk) : Type 0 where
  pub gate : ℕ
  pub shut : gate ≢ 1
  pub rest : List ℕ
  pub here : node_at new journal_file ≡ Some (file (gate ∷ (front ++ rest)))
  pub alike : (q : Path) → q ≢ journal_file → node_at new q ≡ node_at disk q

-- what is written behind a batch: the letters, and the SHA-256 of the open gate, the length and the batch
abbrev pub sum_behind : List PlainDeed → List ℕ
sum_behind deeds = sum_mark ++ sha256 (1 ∷ behind_gate deeds)

-- the batch and its sum follow the closed gate
abbrev pub HasWritten : List PlainDeed → Log → Log → Type 0
HasWritten deeds old new = HasFront (behind_gate deeds ++ sum_behind deeds) (now old) (now new)

-- besides, all is on the disk, and nothing was changed since
abbrev pub HasStaged : List PlainDeed → Log → Log → Type 0
HasStaged deeds old new = IsSynced new × HasWritten deeds old new

-- the journal is there, and isn't empty
abbrev pub HasGate : Disk → Type 0
HasGate disk = (gate : ℕ) × (rest : List ℕ) × (node_at disk journal_file ≡ Some (file (gate ∷ rest)))

-- ---- what is written behind the sum

-- the offset of what follows the batch and its sum
abbrev pub headers_at : List PlainDeed → ℕ
headers_at deeds = 1 + length (behind_gate deeds ++ sum_behind deeds)

-- the journal's file is there, and has as many bytes
abbrev pub HasPlace : ℕ → Log → Type 0
HasPlace at log = (bytes : List ℕ) × (node_at (now log) journal_file ≡ Some (file bytes)) × (at ≤ length bytes)

-- what follows the closed gate before this offset still does
abbrev pub KeepsFront : ℕ → Log → Log → Type 0
KeepsFront at old new = (first : Log) (front : List ℕ) → 1 + length front ≤ at → HasFront front (now first) (now old) → HasFront front (now first) (now new)

-- what kept the journal closed goes on to
abbrev pub KeepsItShut : Log → Log → Type 0
KeepsItShut old new = (first : Log) → KeepsShut first old → KeepsShut first new
