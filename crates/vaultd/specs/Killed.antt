-- What a run that was killed leaves for the next one, on a host that lives on.
use Rattle.std.specs.Prelude.{◌≡◌, ◌↔◌, ℕ, suc, ◌≤◌, false, List, [], Some, Contains}
use Rattle.outside.specs.Disk.{Disk, Path}
use Rattle.outside.specs.Images.{Log, log_at, moment, now, IsImage}
use Rattle.outside.specs.Views.{FolderView}
use Rattle.vault_keys.specs.Keys.{KeyPair}
use Rattle.tree_model.specs.Rows.{Rows}
use Rattle.tree_model.specs.History.{Entry, Origin}
use Rattle.chunk_journal.specs.Journal.{IsLoose}
use Rattle.chunk_journal.specs.Opening.{StaysOpening}
use Rattle.crash_laws.specs.Opening.{IsSoundlyFound}
use Rattle.store_laws.specs.Store.{IsSaidFrom}
use Rattle.host_calls.specs.Story.{Story, disk_now, restarted}
use Rattle.host_folder.specs.Held.{IsHeld, IsLater, IsSure}
use Rattle.host_folder.specs.Opened.{IsOpened}
use Rattle.vault_top.specs.Served.{HasStops}

-- the loose paths of a disk
abbrev pub AreLoose : Disk → List Path → Type 0
AreLoose disk paths = (path : Path) → Contains paths path ↔ IsLoose disk path

-- What reads give after the kill is an image of the run's log, so all is said of it that is said of a stop; and a folder that is opened anew
-- can be settled at the loose paths.
pub record IsLeftByKill (log : Log) (story : Story) : Type 0 where
  pub image : IsImage log (disk_now story)
  pub settled : (paths : List Path) → AreLoose (disk_now story) paths → IsOpened paths (restarted story)

-- a folder over a host, on which no flush failed, has this log
pub record IsOver (log : Log) (story : Story) : Type 0 where
  pub kept : List Path
  pub moved : List Path
  pub held : IsHeld story kept moved false
  pub diary : story.diary ≡ log

-- so it is at each moment of which something is said of a vault that was served
abbrev pub KilledVaultsAreSettled : Type 0
KilledVaultsAreSettled = (keys : KeyPair) (rows : Rows) (origin : Origin) (entries : List Entry) (before after : FolderView) (log : Log)
    → HasStops keys rows origin entries before after → after.log ≡ Some log → (opened : ℕ) → IsSaidFrom before.log origin opened
    → (m : ℕ) → opened ≤ m → m ≤ moment log → (story : Story) → IsOver (log_at log m) story → IsLeftByKill (log_at log m) story

-- and from the first sync on, if the vault wasn't opened
abbrev pub UnopenedVaultsAreSettled : Type 0
UnopenedVaultsAreSettled = (old new : Log) → StaysOpening old new → IsSoundlyFound (now old)
    → (m : ℕ) → suc (moment old) ≤ m → m ≤ moment new → (story : Story) → IsOver (log_at new m) story → IsLeftByKill (log_at new m) story

-- What was settled, with no flush that failed, begins a log with what reads gave after the kill, and each power cut from then on leaves an image of that log.
abbrev pub SettledVaultsAreHeld : Type 0
SettledVaultsAreHeld = (paths : List Path) (story new : Story) → IsOpened paths (restarted story) → IsLater (restarted story) new → IsSure new []
    → IsHeld new [] [] false × (new.diary ≡ record { start = disk_now story; calls = [] })
