-- What a run finds of a vault that another left, be it stopped.
use Rattle.std.specs.Prelude.{◌≡◌, ℕ, suc, ◌≤◌, List, Option, Some}
use Rattle.outside.specs.Calls.{Changes, Told}
use Rattle.outside.specs.Disk.{Disk, IsTree}
use Rattle.outside.specs.Images.{Log, log_at, moment, now, IsImage, IsSound, LeavesOnly}
use Rattle.outside.specs.Views.{FolderView}
use Rattle.vault_keys.specs.Keys.{KeyPair}
use Rattle.chunk_journal.specs.Journal.{IsTidy}
use Rattle.chunk_journal.specs.Flushed.{IsFlushedWhole}
use Rattle.chunk_journal.specs.Opening.{IsOpenable, StaysOpening}
use Rattle.tree_model.specs.Rows.{Rows}
use Rattle.tree_model.specs.History.{Entry, Origin}
use Rattle.crash_laws.specs.Opening.{IsFoundAs, IsSoundlyFound, OpeningRecovers}
use Rattle.vault_make.specs.Draws.{NewSecrets}
use Rattle.vault_make.specs.Vault.{IsNewVault}
use Rattle.store_laws.specs.Store.{IsSaidFrom, shows_under}
use Rattle.vault_top.specs.Served.{HasStops}

-- At each moment of which something is said, what a stop leaves, as a tree, is soundly found: the next run says the same of each moment since its
-- own first sync, however often runs were stopped.
abbrev pub StoppedVaultsAreSound : Type 0
StoppedVaultsAreSound = (keys : KeyPair) (rows : Rows) (origin : Origin) (entries : List Entry) (before after : FolderView) (log : Log)
    → HasStops keys rows origin entries before after → after.log ≡ Some log → (opened : ℕ) → IsSaidFrom before.log origin opened
    → (m : ℕ) → opened ≤ m → m ≤ moment log → (image : Disk) → IsImage (log_at log m) image → IsTree image → IsSoundlyFound image

-- So it is if the vault wasn't opened, for a cause of the folder's or of memory: the journal that was found may have been done in part, and is again.
abbrev pub UnopenedVaultsAreSound : Type 0
UnopenedVaultsAreSound = (keys : KeyPair) (rows : Rows) (old new : Log) → OpeningRecovers (shows_under (Some old) keys) old new → IsFoundAs (shows_under (Some old) keys) rows (now old)
    → (m : ℕ) → suc (moment old) ≤ m → m ≤ moment new → (image : Disk) → IsImage (log_at new m) image → IsTree image → IsSoundlyFound image

-- a new vault is soundly found
abbrev pub NewVaultsAreSound : Type 0
NewVaultsAreSound = (password : List ℕ) (secrets : NewSecrets) (disk : Disk) → IsTree disk → IsNewVault password secrets disk → IsSoundlyFound disk

-- ---- journals that aren't damaged

-- Each call of the folder was as it can be, from a tree on, and the journal of each disk that a stop may leave of it isn't damaged, and can be opened again.
pub record IsFoundOpenable (log : Log) : Type 0 where
  pub sound : IsSound log.start log.calls
  pub images : (image : Disk) → IsImage log image → IsOpenable image

-- where a folder is found so, at each moment since the journal of each image isn't damaged, and can be opened again
abbrev pub KeepsOpenable : Option Log → Option Log → Type 0
KeepsOpenable before after = Told before IsFoundOpenable → Changes before after (λ old new. LeavesOnly old new IsOpenable)

-- however its folder was found, so it is at each moment of which something is said of a vault that was served
abbrev pub StoppedVaultsAreOpenable : Type 0
StoppedVaultsAreOpenable = (keys : KeyPair) (rows : Rows) (origin : Origin) (entries : List Entry) (before after : FolderView) (log : Log)
    → HasStops keys rows origin entries before after → after.log ≡ Some log → (opened m : ℕ) → IsSaidFrom before.log origin opened
    → opened ≤ m → m ≤ moment log → (image : Disk) → IsImage (log_at log m) image → IsOpenable image

-- and so is a new vault's
abbrev pub NewVaultsAreOpenable : Type 0
NewVaultsAreOpenable = (password : List ℕ) (secrets : NewSecrets) (disk : Disk) → IsNewVault password secrets disk → IsOpenable disk

-- ---- runs that were killed, on a host that lives on

-- if the changes since the last sync name loose paths alone, all is on the disk once these are flushed as they are read
abbrev pub TidyLogsAreFlushed : Type 0
TidyLogsAreFlushed = (log : Log) → IsTidy log → IsFlushedWhole log

-- so it is at each moment of which something is said of a vault that was served
abbrev pub KilledVaultsAreFlushed : Type 0
KilledVaultsAreFlushed = (keys : KeyPair) (rows : Rows) (origin : Origin) (entries : List Entry) (before after : FolderView) (log : Log)
    → HasStops keys rows origin entries before after → after.log ≡ Some log → (opened : ℕ) → IsSaidFrom before.log origin opened
    → (m : ℕ) → opened ≤ m → m ≤ moment log → IsFlushedWhole (log_at log m)

-- and from the first sync on, if the vault wasn't opened
abbrev pub UnopenedVaultsAreFlushed : Type 0
UnopenedVaultsAreFlushed = (old new : Log) → StaysOpening old new → IsSoundlyFound (now old) → (m : ℕ) → suc (moment old) ≤ m → m ≤ moment new → IsFlushedWhole (log_at new m)
