-- How a store's history begins, and what its end leaves.
use Rattle.std.specs.Prelude.{◌≡◌, ℕ, ◌≤◌, List, [], length, Option, Some, IsNone}
use Rattle.outside.specs.Calls.{Changes, Told}
use Rattle.outside.specs.Disk.{Disk}
use Rattle.outside.specs.Images.{Log, log_at, now}
use Rattle.outside.specs.Views.{FolderView}
use Rattle.vault_keys.specs.Keys.{KeyPair}
use Rattle.chunk_journal.specs.Journal.{AnyMoment, RecoversTo, Recovered, TidySince}
use Rattle.chunk_journal.specs.Opening.{HasOpened, IsOpening, StaysOpening}
use Rattle.tree_model.specs.Rows.{Rows}
use Rattle.tree_model.specs.Step.{node_limit}
use Rattle.tree_model.specs.History.{Entry, Origin, tally_of}
use Rattle.clear_tree.specs.Kept.{KeptTree, IsKept}
use Rattle.tree_loading.specs.Format.{sealing_of}
use Rattle.tree_loading.specs.Clear.{IsClear}
use Rattle.live_tree_laws.specs.Loading.{loaded_tree}
use Rattle.name_places.specs.Claims.{AreClaimsOf}
use Rattle.crash_laws.specs.Prefix.{StopsRecover, BeginningRecovers, IsWhole}
use Rattle.crash_laws.specs.Opening.{IsSoundlyFound, OpeningRecovers}
use Rattle.deeds.specs.Deeds.{LogGoesOn}
use Rattle.store_laws.specs.Store.{StoreView, ArePlaced, ArePlacedSince, IsSaidFrom, IsStoreOf, KeepsFound, moment_of, shows_under}

-- the rows of what a found disk recovers to, of a vault that is unlocked at this second; there are no more of them than a tree may have nodes
pub record IsFoundClear (keys : KeyPair) (disk : Disk) (unlocked : ℕ) (rows : Rows) : Type 0 where
  pub found : Disk
  pub recovers : RecoversTo disk found
  pub clear : IsClear keys found unlocked rows
  pub few : length rows.nodes ≤ node_limit

-- A store as it was opened over a folder: it stands for no entries yet, from the rows on of what the folder recovers to, and from any counts on
-- that are no higher than its folder's and at its moment.
pub record IsOpened (before : FolderView) (keys : KeyPair) (unlocked : ℕ) (store : StoreView) (after : FolderView) : Type 0 where
  pub keys_are : store.keys ≡ keys
  pub rows : Rows
  pub clear : Told before.log (λ log. IsFoundClear keys (now log) unlocked rows)
  pub stands : (origin : Origin) → origin.folder_faults ≤ after.faults → origin.moment ≡ moment_of after.log
      → IsStoreOf before.log store after rows origin []

-- what opening it is made of: the journal was opened, the tree loaded from what reads give then, and nothing changed
pub record HasBeenOpened (before : FolderView) (keys : KeyPair) (unlocked : ℕ) (kept : KeptTree) (store : StoreView) (after : FolderView) : Type 0 where
  pub keys_are : store.keys ≡ keys
  pub live : store.live ≡ loaded_tree unlocked kept
  pub claims : AreClaimsOf (sealing_of keys) store.live store.claims
  pub none : store.entries ≡ 0
  pub idle : store.waiting ≡ []
  pub running : IsNone store.stopped
  pub opened : Changes before.log after.log HasOpened
  pub any_moment : Changes before.log after.log IsOpening
  pub loaded : Told after.log (λ log. IsKept (sealing_of keys) (now log) kept)
  pub few : length kept.nodes ≤ node_limit

abbrev pub OpeningsStand : Type 0
OpeningsStand = (before after : FolderView) (keys : KeyPair) (unlocked : ℕ) (kept : KeptTree) (store : StoreView)
    → HasBeenOpened before keys unlocked kept store after → IsOpened before keys unlocked store after

-- what isn't the vault's own is on the disk that was found as it is on that which it recovers to
abbrev pub FoundIsKept : Type 0
FoundIsKept = (keys : KeyPair) (log : Log) (found : Disk) → Recovered (now log) found → KeepsFound (Some log) keys found

-- if it wasn't opened, a stop since the first sync recovers to what was found
abbrev pub FailedOpeningsRecover : Type 0
FailedOpeningsRecover = (keys : KeyPair) (old new : Log) → StaysOpening old new → IsSoundlyFound (now old) → OpeningRecovers (shows_under (Some old) keys) old new

-- ---- at its end

-- What a stop recovers to: at any moment to a prefix of the history that holds all that was synced, and up to the moment at which it begins to the
-- rows that it begins with, with what isn't the vault's own as it was found; and at each moment what is unsynced is loose.
pub record Recovers (found : Option Log) (keys : KeyPair) (folder : FolderView) (rows : Rows) (origin : Origin) (history : List Entry) : Type 0 where
  pub stops : Told folder.log (λ log. (opened : ℕ) → IsSaidFrom found origin opened → StopsRecover (shows_under found keys) opened rows history log)
  pub begun : Told folder.log (λ log. (opened : ℕ) → IsSaidFrom found origin opened → BeginningRecovers (shows_under found keys) opened origin.moment rows log)
  pub tidy : Told folder.log (λ log. (opened : ℕ) → IsSaidFrom found origin opened → TidySince opened log)

-- a store's history is left so, whenever it ends
abbrev pub StoresRecover : Type 0
StoresRecover = (found : Option Log) (store : StoreView) (folder : FolderView) (rows : Rows) (origin : Origin) (history : List Entry)
    → IsStoreOf found store folder rows origin history → Recovers found store.keys folder rows origin history

-- of a store none of whose commits failed and in which nothing waits, all of it is on the disk
abbrev pub StoresAreWhole : Type 0
StoresAreWhole = (found : Option Log) (store : StoreView) (folder : FolderView) (rows : Rows) (origin : Origin) (history : List Entry)
    → IsStoreOf found store folder rows origin history → store.waiting ≡ []
    → IsNone (tally_of origin history).stopped → Told folder.log (λ log. IsWhole (shows_under found store.keys) rows history log)

-- what is left of a store's history if the commit of what waits failed as it was closed
pub record IsCutShort (found : Option Log) (store : StoreView) (after : FolderView) (rows : Rows) (origin : Origin) (history : List Entry) : Type 0 where
  pub grown : Changes found after.log LogGoesOn
  pub opened : Changes found after.log (λ old new. HasOpened old (log_at new origin.moment))
  pub placed : Told after.log (ArePlaced store.keys rows origin history)
  pub placed_since : Told after.log (ArePlacedSince store.keys store.live origin history)
  pub recover : Recovers found store.keys after rows origin history
  pub moment : (tally_of origin history).moment ≤ moment_of after.log

abbrev pub ClosingsRecover : Type 0
ClosingsRecover = (found : Option Log) (store : StoreView) (before after : FolderView) (rows : Rows) (origin : Origin) (history : List Entry)
    → IsStoreOf found store before rows origin history → IsNone store.stopped → Changes before.log after.log (AnyMoment store.waiting)
    → IsCutShort found store after rows origin history
