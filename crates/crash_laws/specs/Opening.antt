-- What the opening of a journal leaves, and how a history begins.
use Rattle.std.specs.Prelude.{ℕ, suc, ◌≤◌, List, []}
use Rattle.outside.specs.Disk.{Disk, IsTree}
use Rattle.outside.specs.Images.{Log, now, moment, log_at, IsImage}
use Rattle.deeds.specs.Deeds.{PlainDeed}
use Rattle.deeds.specs.Repeatable.{IsRepeatable}
use Rattle.chunk_journal.specs.Journal.{HoldsBatch, IsQuiet, IsAlike, RecoversTo, RecoversLike, Recovered, RecoveredLike, TidySince}
use Rattle.chunk_journal.specs.Opening.{HasFolder}
use Rattle.tree_model.specs.Rows.{Rows}
use Rattle.crash_laws.specs.Crash.{DiskShows}
use Rattle.crash_laws.specs.Prefix.{StopsRecover}

-- at each moment since the first sync, each image recovers to what the disk did that was found
abbrev pub StaysFound : Log → Log → Type 0
StaysFound old new = (found : Disk) → RecoversTo (now old) found →
    (m : ℕ) → suc (moment old) ≤ m → m ≤ moment new → (image : Disk) → IsImage (log_at new m) image → RecoversLike found image

-- the same if its batch may not fit it
abbrev pub StaysAsFound : Log → Log → Type 0
StaysAsFound old new = (found : Disk) → Recovered (now old) found →
    (m : ℕ) → suc (moment old) ≤ m → m ≤ moment new → (image : Disk) → IsImage (log_at new m) image → RecoveredLike found image

-- the journal is quiet, what the found disk recovers to is on the disk, and at each moment since the first sync what is unsynced is loose
pub record HasFound (old new : Log) : Type 0 where
  pub at_rest : IsQuiet new
  pub since : suc (moment old) ≤ moment new
  pub found : (found : Disk) → RecoversTo (now old) found → IsAlike found (now new)
  pub tidy : TidySince (suc (moment old)) new

-- a tree with no folder in the place of either of the journal's files
pub record IsClearTree (disk : Disk) : Type 0 where
  pub tree : IsTree disk
  pub no_folder : HasFolder disk → ⊥

-- such a tree, whose journal holds no batch that can't be done again
pub record IsSoundlyFound (disk : Disk) : Type 0 where
  pub clear : IsClearTree disk
  pub repeatable : (deeds : List PlainDeed) → HoldsBatch disk deeds → IsRepeatable deeds

-- what a found disk recovers to shows these rows
pub record IsFoundAs (Shows : DiskShows) (rows : Rows) (disk : Disk) : Type 0 where
  pub found : Disk
  pub recovers : RecoversTo disk found
  pub shows : Shows found rows

-- the image, whose batch may not fit it, is recovered to a disk that shows these rows
pub record IsAppliedAs (Shows : DiskShows) (rows : Rows) (image : Disk) : Type 0 where
  pub disk : Disk
  pub recovered : Recovered image disk
  pub shows : Shows disk rows

-- A stop since the first sync of an opening recovers to what was found; even if the batch that was found can't be done whole.
pub record OpeningRecovers (Shows : DiskShows) (old new : Log) : Type 0 where
  pub whole : (rows : Rows) → IsFoundAs Shows rows (now old) → StopsRecover Shows (suc (moment old)) rows [] new
  pub applied : (rows : Rows) → IsAppliedAs Shows rows (now old)
      → (m : ℕ) → suc (moment old) ≤ m → m ≤ moment new → (image : Disk) → IsImage (log_at new m) image → IsAppliedAs Shows rows image
