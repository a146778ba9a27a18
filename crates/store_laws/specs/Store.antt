-- What an open vault stands for: a legal history of the plain file tree, and what a stop at each moment of it recovers to.
use Rattle.std.specs.Prelude.{◌≡◌, ◌≢◌, ◌⊎◌, ℕ, suc, ◌≤◌, ◌^◌, ◌-◌, min, List, length, take, true, Option, Some, IsNone, IsSome, IsSomeAnd}
use Rattle.std.specs.Option.{option_map, option_map_or}
use Rattle.outside.specs.Calls.{Changes, Told}
use Rattle.outside.specs.Disk.{Disk, Path as HostPath, node_at}
use Rattle.outside.specs.Images.{Log, disk_in, log_at, moment, now}
use Rattle.outside.specs.Views.{FolderView}
use Rattle.deeds.specs.Deeds.{PlainDeed, LogGoesOn}
use Rattle.deeds.specs.Repeatable.{journal_file, new_file}
use Rattle.chunk_journal.specs.Journal.{Recovered}
use Rattle.chunk_journal.specs.Opening.{HasOpened}
use Rattle.pending_files.specs.Laid.{CanWait, LookAlike, laid, laid_log}
use Rattle.vault_keys.specs.Keys.{KeyPair}
use Rattle.tree_model.specs.Rows.{Content, Rows}
use Rattle.tree_model.specs.History.{Made, Entry, Origin, entry_at, rows_at, tally_at, tally_of, AreCaused, AreAnswered, rows_after}
use Rattle.version_laws.specs.RowVersions.{wrapped}
use Rattle.tree_loading.specs.Format.{sealing_of}
use Rattle.tree_deed_laws.specs.Shapes.{HasTree}
use Rattle.live_tree.specs.Held.{HeldTree, live_rows}
use Rattle.live_tree_laws.specs.Strays.{KeepsStrays}
use Rattle.node_changes.specs.Changed.{StandsOn}
use Rattle.node_changes.specs.Placed.{taken_for}
use Rattle.node_changes.specs.Within.{IsWithin, AreWithin}
use Rattle.crash_laws.specs.Crash.{DiskShows, rows_stepped}
use Rattle.crash_laws.specs.Stands.{IsInState}
use Rattle.crash_laws.specs.Opening.{IsSoundlyFound}
use Rattle.crash_laws.specs.Prefix.{BeginningRecovers}

-- what isn't the vault's data, nor one of the journal's two files, is as it is on this disk
abbrev pub KeepsElsewhere : Disk → Disk → Type 0
KeepsElsewhere first disk = (path : HostPath) → (IsWithin path → ⊥) → path ≢ journal_file → path ≢ new_file → node_at disk path ≡ node_at first path

-- all that isn't the vault's own is as it is on this disk, also what is among its data and belongs to no node
pub record KeepsOthers (keys : KeyPair) (first disk : Disk) : Type 0 where
  pub elsewhere : KeepsElsewhere first disk
  pub strays : KeepsStrays (sealing_of keys) first disk

-- the same of the disk that a folder recovers to which was found with this log, its batch applied as far as it can be
abbrev pub KeepsFound : Option Log → KeyPair → Disk → Type 0
KeepsFound found keys disk = Told found (λ log. (first : Disk) → Recovered (now log) first → KeepsOthers keys first disk)

-- A disk shows rows if they have the shape of its tree, and what isn't the vault's own is as it was found.
pub record ShowsVault (found : Option Log) (keys : KeyPair) (disk : Disk) (rows : Rows) : Type 0 where
  pub tree : HasTree (sealing_of keys) disk rows
  pub others : KeepsFound found keys disk

abbrev pub shows_under : Option Log → KeyPair → DiskShows
shows_under found keys disk rows = ShowsVault found keys disk rows

-- an open vault in memory: its keys, its tree and which node names which folder, what waits to be committed, how many entries its history
-- has, as far as 64 bits go, and the number that is answered once a commit has failed
pub record StoreView : Type 0 where
  pub keys : KeyPair
  pub live : HeldTree
  pub claims : List (List ℕ × ℕ)
  pub waiting : List PlainDeed
  pub entries : ℕ
  pub stopped : Option ℕ

-- the largest number
abbrev pub number_limit : ℕ
number_limit = 2 ^ 64 - 1

abbrev pub bounded : ℕ → ℕ
bounded n = min n number_limit

-- the moment of a folder: how many changing calls its log has, and 0 if none is told
abbrev pub moment_of : Option Log → ℕ
moment_of log = option_map_or (λ l. moment l) log 0

-- what reads give through a store: the folder's disk once all that waits is done
abbrev pub shown_in : StoreView → FolderView → Option Disk
shown_in store folder = disk_in (option_map (laid_log store.waiting) folder.log)

-- ---- a store's history

-- What a stop recovers to is said from the end of the opening on, where a history begins; and if the disk was found sound, whose journal has no
-- batch that can't be done again, from the end of the opening's first sync on.
abbrev pub IsSaidFrom : Option Log → Origin → ℕ → Type 0
IsSaidFrom found origin opened =
    (opened ≡ origin.moment) ⊎ IsSomeAnd found (λ log. IsSoundlyFound (now log) × (opened ≡ suc (moment log)))

-- The tree in memory is that of a disk, and its rows, with the contents that its files have there, are those after the entries, but for
-- versions past 2^32.
pub record HasRows (store : StoreView) (disk : Disk) (rows : Rows) (history : List Entry) : Type 0 where
  pub contents : ℕ → Content
  pub stands : StandsOn (sealing_of store.keys) disk store.live store.claims contents
  pub current : wrapped (rows_after rows history) ≡ wrapped (live_rows contents store.live)

-- the place that an entry names as taken is the one that is taken for its request on this disk, by this tree in memory
abbrev pub IsTakenBy : KeyPair → HeldTree → Disk → Made → Type 0
IsTakenBy keys live disk made = made.taken ≡ taken_for (sealing_of keys) disk live made.asked.request made.drawn

-- The place that an entry names as taken is the one that is taken for its request on a disk, by a tree which has these rows: that of the
-- disk, but for bytes of files that wait to be written.
pub record IsPlacedOn (keys : KeyPair) (disk : Disk) (rows : Rows) (made : Made) : Type 0 where
  pub live : HeldTree
  pub claims : List (List ℕ × ℕ)
  pub contents : ℕ → Content
  pub later : Disk
  pub alike : LookAlike disk later
  pub stands : StandsOn (sealing_of keys) later live claims contents
  pub current : wrapped rows ≡ wrapped (live_rows contents live)
  pub taken : IsTakenBy keys live disk made

-- It is so of each entry until a commit fails, on the disk as it read at the end of the entry before.
abbrev pub ArePlaced : KeyPair → Rows → Origin → List Entry → Log → Type 0
ArePlaced keys rows origin history log = (i : ℕ) (entry : Entry) → entry_at history i ≡ Some entry → IsNone (tally_of origin (take i history)).stopped
    → IsPlacedOn keys (now (log_at log (tally_of origin (take i history)).moment)) (rows_at rows history i) entry.made

-- From a failed commit on nothing changes, on the disk or in memory: each entry names the place that is taken by the tree which stays there.
abbrev pub ArePlacedSince : KeyPair → HeldTree → Origin → List Entry → Log → Type 0
ArePlacedSince keys live origin history log = (i : ℕ) (entry : Entry) → entry_at history i ≡ Some entry → IsSome (tally_of origin (take i history)).stopped
    → IsTakenBy keys live (now (log_at log (tally_of origin (take i history)).moment)) entry.made

-- The tree in memory has the rows after the entries with the change of one of them, whose commit failed.
pub record HasFailedChange (contents : ℕ → Content) (live : HeldTree) (rows : Rows) (history : List Entry) : Type 0 where
  pub number : ℕ
  pub entry : Entry
  pub there : entry_at history number ≡ Some entry
  pub failed : entry.made.commit_failed ≡ true
  pub stepped : wrapped (rows_stepped (rows_after rows history) entry.made) ≡ wrapped (live_rows contents live)

-- The rows of the tree that stays in memory once a commit has failed, with some contents of its files, but for versions past 2^32: those after
-- the entries, or those with the change whose commit it was.
pub record HasRowsLeft (store : StoreView) (rows : Rows) (history : List Entry) : Type 0 where
  pub contents : ℕ → Content
  pub current : (wrapped (rows_after rows history) ≡ wrapped (live_rows contents store.live)) ⊎ HasFailedChange contents store.live rows history

-- A folder's log on which a store stands for a history: a stop at any moment recovers to a prefix of it, which is empty up to the moment at which
-- it begins; until a commit fails the tree in memory is that of the disk once what waits is done, which can be done and names the vault's data alone,
-- spares what belongs to no node, and what isn't the vault's own is as it was found; each entry is answered in the rows before it, and names the place that is taken. What was committed since the last entry has changed no more than bytes of files; and once
-- a commit has failed, no moment goes by.
pub record IsStoredIn (found : Option Log) (store : StoreView) (rows : Rows) (origin : Origin) (history : List Entry) (log : Log) : Type 0 where
  pub state : (opened : ℕ) → IsSaidFrom found origin opened → IsInState (shows_under found store.keys) opened rows history store.waiting log (tally_of origin history).stopped
  pub begun : (opened : ℕ) → IsSaidFrom found origin opened → BeginningRecovers (shows_under found store.keys) opened origin.moment rows log
  pub waits : IsNone (tally_of origin history).stopped → CanWait store.waiting (now log)
  pub within : IsNone (tally_of origin history).stopped → AreWithin store.waiting
  pub strays : IsNone (tally_of origin history).stopped → KeepsStrays (sealing_of store.keys) (now log) (laid store.waiting (now log))
  pub others : IsNone (tally_of origin history).stopped → KeepsFound found store.keys (now log)
  pub tree : IsNone (tally_of origin history).stopped → HasRows store (laid store.waiting (now log)) rows history
  pub since : IsNone (tally_of origin history).stopped → LookAlike (now (log_at log (tally_of origin history).moment)) (now log)
  pub answered : AreAnswered rows (tally_at origin) history
  pub placed : ArePlaced store.keys rows origin history log
  pub placed_since : ArePlacedSince store.keys store.live origin history log
  pub left : IsSome (tally_of origin history).stopped → HasRowsLeft store rows history
  pub rests : IsSome (tally_of origin history).stopped → (tally_of origin history).moment ≡ moment log

-- A store stands for a history from given rows and counts on, over a folder that was found with this log: its entries have their causes, and
-- if the folder tells its log, it stands for them on that, and the history begins at a moment at which the journal had been opened.
pub record IsStoreOf (found : Option Log) (store : StoreView) (folder : FolderView) (rows : Rows) (origin : Origin) (history : List Entry) : Type 0 where
  pub stored : Told folder.log (IsStoredIn found store rows origin history)
  pub grown : Changes found folder.log LogGoesOn
  pub opened : Changes found folder.log (λ old new. HasOpened old (log_at new origin.moment))
  pub caused : AreCaused (tally_at origin) history
  pub faults : (tally_of origin history).folder_faults ≤ folder.faults
  pub moment : (tally_of origin history).moment ≤ moment_of folder.log
  pub stopped : store.stopped ≡ option_map bounded (tally_of origin history).stopped
  pub count : store.entries ≡ bounded (length history)
