-- What a stop at a moment of a history recovers to.
use Rattle.std.specs.Prelude.{◌≡◌, ◌⊎◌, ℕ, suc, ◌≤◌, List, length, true, Some}
use Rattle.outside.specs.Disk.{Disk, IsTree}
use Rattle.chunk_journal.specs.Journal.{RecoversTo, IsAlike, IsReopenable}
use Rattle.tree_model.specs.Rows.{Rows}
use Rattle.tree_model.specs.Step.{step}
use Rattle.tree_model.specs.History.{Made, Entry, entry_at, rows_at}

-- the rows of a disk have the shape of these rows
abbrev pub DiskShows : Type 1
DiskShows = Disk → Rows → Type 0

-- what the journal's two files hold doesn't matter
abbrev pub IsBlind : DiskShows → Type 0
IsBlind Shows = (a b : Disk) (rows : Rows) → Shows a rows → IsTree b → IsAlike a b → Shows b rows

-- ---- what had ended by a moment

-- whatever no stop undoes by this moment is among the first k entries
abbrev pub HoldsEnded : List Entry → ℕ → ℕ → Type 0
HoldsEnded history m k = (i : ℕ) (entry : Entry) → entry_at history i ≡ Some entry → entry.made.moment ≤ m → entry.made.stable ≤ k

-- the first n entries had ended by this moment
abbrev pub HaveEnded : List Entry → ℕ → ℕ → Type 0
HaveEnded history m n = (i : ℕ) (entry : Entry) → entry_at history i ≡ Some entry → suc i ≤ n → entry.made.moment ≤ m

-- ---- what an image shows once it is recovered

-- the rows of the step of what was asked, whatever was answered
abbrev pub rows_stepped : Rows → Made → Rows
rows_stepped rows made = (step rows made.asked.request made.asked.second).rows

-- the rows after the first k entries, all of which but the last had ended
pub record IsAfter (Shows : DiskShows) (rows : Rows) (history : List Entry) (m k : ℕ) (disk : Disk) : Type 0 where
  pub ended : (i : ℕ) (entry : Entry) → entry_at history i ≡ Some entry → suc (suc i) ≤ k → entry.made.moment ≤ m
  pub shows : Shows disk (rows_at rows history k)

-- the rows after the first k entries, all of which had ended, with the change of the next one, whose commit failed
pub record IsFlagged (Shows : DiskShows) (rows : Rows) (history : List Entry) (m k : ℕ) (disk : Disk) : Type 0 where
  pub ended : HaveEnded history m k
  pub entry : Entry
  pub there : entry_at history k ≡ Some entry
  pub failed : entry.made.commit_failed ≡ true
  pub shows : Shows disk (rows_stepped (rows_at rows history k) entry.made)

-- an image that recovers to such a disk, and can be opened again: so no journal in it is damaged
pub record IsCrash (Shows : DiskShows) (rows : Rows) (history : List Entry) (m : ℕ) (image : Disk) : Type 0 where
  pub k : ℕ
  pub within : k ≤ length history
  pub holds : HoldsEnded history m k
  pub reopenable : IsReopenable image
  pub disk : Disk
  pub recovers : RecoversTo image disk
  pub shows : IsAfter Shows rows history m k disk ⊎ IsFlagged Shows rows history m k disk
