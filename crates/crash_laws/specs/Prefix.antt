-- The prefixes of a history that a stop at a moment may recover to, by their numbers.
use Rattle.std.specs.Prelude.{◌≡◌, ◌⊎◌, ℕ, suc, ◌+◌, ◌≤◌, nat_le, List, [], ◌∷◌, length, true, Some, if◌then◌else◌}
use Rattle.outside.specs.Disk.{Disk}
use Rattle.outside.specs.Images.{Log, now, moment, log_at, IsImage}
use Rattle.chunk_journal.specs.Journal.{IsReopenable, RecoversTo}
use Rattle.tree_model.specs.Rows.{Rows}
use Rattle.tree_model.specs.History.{Entry, entry_at, rows_at}
use Rattle.crash_laws.specs.Crash.{DiskShows, rows_stepped}

-- the stable of the last entry that had ended by then, and `low` if none had
abbrev pub low_at : ℕ → List Entry → ℕ → ℕ
low_at low [] m = low
low_at low (entry ∷ entries) m = low_at (if nat_le entry.made.moment m then entry.made.stable else low) entries m

-- how many entries had ended by then
abbrev pub ended_at : List Entry → ℕ → ℕ
ended_at [] m = 0
ended_at (entry ∷ entries) m = (if nat_le entry.made.moment m then 1 else 0) + ended_at entries m

-- the change of entry k, whose commit failed, on the rows after the first k, if it is among the first `high`
pub record IsFailedChange (Shows : DiskShows) (rows : Rows) (history : List Entry) (high k : ℕ) (disk : Disk) : Type 0 where
  pub begun : suc k ≤ high
  pub entry : Entry
  pub there : entry_at history k ≡ Some entry
  pub failed : entry.made.commit_failed ≡ true
  pub shows : Shows disk (rows_stepped (rows_at rows history k) entry.made)

-- For some k, from `low` to `high` and to the history's length, the image recovers to a disk that shows the rows after the first k
-- entries, or these with the change of the next one, whose commit failed; and it can be opened again.
pub record IsCrashPrefix (Shows : DiskShows) (rows : Rows) (history : List Entry) (low high : ℕ) (image : Disk) : Type 0 where
  pub k : ℕ
  pub least : low ≤ k
  pub most : k ≤ high
  pub within : k ≤ length history
  pub reopenable : IsReopenable image
  pub disk : Disk
  pub recovers : RecoversTo image disk
  pub shows : Shows disk (rows_at rows history k) ⊎ IsFailedChange Shows rows history high k disk

-- A stop at any moment since `opened`, the end of the opening's first sync, recovers to a prefix of the history that holds all that was
-- synced, and nothing that hadn't begun.
abbrev pub StopsRecover : DiskShows → ℕ → Rows → List Entry → Log → Type 0
StopsRecover Shows opened rows history log =
    (m : ℕ) → opened ≤ m → m ≤ moment log → (image : Disk) → IsImage (log_at log m) image
    → IsCrashPrefix Shows rows history (low_at 0 history m) (suc (ended_at history m)) image

-- it recovers to a disk that shows the rows after all entries, and can be opened again
pub record RecoversWhole (Shows : DiskShows) (rows : Rows) (history : List Entry) (image : Disk) : Type 0 where
  pub reopenable : IsReopenable image
  pub disk : Disk
  pub recovers : RecoversTo image disk
  pub shows : Shows disk (rows_at rows history (length history))

-- every image does, and what reads give shows them
pub record IsWhole (Shows : DiskShows) (rows : Rows) (history : List Entry) (log : Log) : Type 0 where
  pub shows : Shows (now log) (rows_at rows history (length history))
  pub images : (image : Disk) → IsImage log image → RecoversWhole Shows rows history image

-- A stop at any moment from `opened` up to `begun`, at which a history begins, recovers to a disk that shows the rows that it begins with.
abbrev pub BeginningRecovers : DiskShows → ℕ → ℕ → Rows → Log → Type 0
BeginningRecovers Shows opened begun rows log =
    (m : ℕ) → opened ≤ m → m ≤ begun → m ≤ moment log → (image : Disk) → IsImage (log_at log m) image
    → RecoversWhole Shows rows [] image
