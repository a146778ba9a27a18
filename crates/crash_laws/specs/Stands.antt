-- What a history stands for: what each image of each moment of its folder recovers to, and what waits to be committed.
use Rattle.std.specs.Prelude.{ℕ, suc, ◌≤◌, ◌<◌, List, length, Option, Some, None}
use Rattle.outside.specs.Disk.{Disk}
use Rattle.outside.specs.Images.{Log, now, moment, log_at, IsImage}
use Rattle.deeds.specs.Deeds.{PlainDeed, DoesAll, in_order}
use Rattle.chunk_journal.specs.Journal.{IsQuiet, TidySince}
use Rattle.tree_model.specs.Rows.{Rows}
use Rattle.tree_model.specs.History.{Entry, rows_at}
use Rattle.crash_laws.specs.Crash.{DiskShows, IsCrash, HoldsEnded, HaveEnded}

-- each image at each moment from `opened`, the end of the opening's first sync, up to one before `end`
abbrev pub WasSafe : DiskShows → ℕ → Rows → List Entry → Log → ℕ → Type 0
WasSafe Shows opened rows history log end =
    (m : ℕ) → opened ≤ m → m < end → (image : Disk) → IsImage (log_at log m) image → IsCrash Shows rows history m image

-- The journal is at rest, the first `base` entries are on the disk, what is pending makes the rest of them, and nothing that is stable
-- is pending. Of the present moment nothing is said beside: its one image is what reads give. At each moment what is unsynced is loose.
pub record IsRunning (Shows : DiskShows) (opened : ℕ) (rows : Rows) (history : List Entry) (pending : List PlainDeed) (log : Log) : Type 0 where
  pub since : opened ≤ moment log
  pub past : WasSafe Shows opened rows history log (moment log)
  pub tidy : TidySince opened log
  pub ended : HaveEnded history (moment log) (length history)
  pub at_rest : IsQuiet log
  pub base : ℕ
  pub within : base ≤ length history
  pub holds : HoldsEnded history (moment log) base
  pub shows : Shows (now log) (rows_at rows history base)
  pub after : Disk
  pub does : DoesAll (in_order pending) (now log) after
  pub shows_after : Shows after (rows_at rows history (length history))

-- a commit failed: nothing is changed from now on
pub record IsBroken (Shows : DiskShows) (opened : ℕ) (rows : Rows) (history : List Entry) (log : Log) : Type 0 where
  pub since : opened ≤ moment log
  pub past : WasSafe Shows opened rows history log (suc (moment log))
  pub tidy : TidySince opened log
  pub ended : HaveEnded history (moment log) (length history)

-- running, or broken from the entry on whose commit failed
abbrev pub IsInState : DiskShows → ℕ → Rows → List Entry → List PlainDeed → Log → Option ℕ → Type 0
IsInState Shows opened rows history pending log None = IsRunning Shows opened rows history pending log
IsInState Shows opened rows history pending log (Some f) = IsBroken Shows opened rows history log
