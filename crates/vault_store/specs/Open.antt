-- An open vault as clauses see it.
use Rattle.std.specs.Prelude.{◌≡◌, ℕ, ◌≤◌, suc, List, [], length, Option, Some, None, Result}
use Rattle.outside.specs.declared.folder.Reads as reads
use Rattle.outside.specs.declared.stream.Failed.{Failed}
use Rattle.outside.specs.Calls.{Told}
use Rattle.outside.specs.Images.{Log, now}
use Rattle.deeds.specs.Deeds.{PlainDeed}
use Rattle.tree_model.specs.Step.{node_limit}
use Rattle.vault_keys.specs.Keys.{KeyPair}
use Rattle.clear_tree.specs.Kept.{KeptTree, IsKept}
use Rattle.tree_loading.specs.Format.{sealing_of}
use Rattle.live_tree.specs.Held.{HeldTree}
use Rattle.live_tree_laws.specs.Loading.{loaded_tree}
use Rattle.name_places.specs.Claims.{AreClaimsOf}
use Rattle.file_changes.specs.Waiting.{IsAtRestOver}
use Rattle.node_changes.specs.Changed.{IsAtRest}
use Rattle.node_changes.specs.declared.tree.VaultTree.{VaultTree}
use Rattle.store_laws.specs.Store.{StoreView, bounded}

-- what it is in memory, the threshold by which new names have their places, and its folder
pub record OpenVault (D : Type 0) : Type 0 where
  pub store : StoreView
  pub threshold : ℕ
  pub folder : D

-- what a store that was closed was in memory, if nothing waits any more, and whether what waited was committed
pub record ClosedVault : Type 0 where
  pub store : StoreView
  pub committed : Result (Unit {0}) Failed

-- a vault, whatever it answered before: its tree, what waits to be committed, and its folder
pub record VaultView (D : Type 0) : Type 0 where
  pub tree : VaultTree
  pub waiting : List PlainDeed
  pub folder : D

abbrev pub view_of : VaultTree → List PlainDeed → ℕ → Option ℕ → StoreView
view_of tree waiting entries stopped = record { keys = tree.keys; live = tree.live; claims = tree.claims; waiting = waiting; entries = entries; stopped = stopped }

-- one that runs, in which nothing waits
abbrev pub running : KeyPair → HeldTree → List (List ℕ × ℕ) → ℕ → StoreView
running keys live claims entries = record { keys = keys; live = live; claims = claims; waiting = []; entries = entries; stopped = None }

-- a store in memory that has a vault, once it made so many entries, and stopped in that one
abbrev pub store_in : {D : Type 0} → VaultView D → ℕ → Option ℕ → StoreView
store_in vault entries stopped = view_of vault.tree vault.waiting entries stopped

abbrev pub opened_in : {D : Type 0} → VaultView D → ℕ → Option ℕ → OpenVault D
opened_in vault entries stopped = record { store = store_in vault entries stopped; threshold = vault.tree.threshold; folder = vault.folder }

-- what was kept of a disk, which has no more nodes than a tree may have, in memory
pub record IsLoadedTree (keys : KeyPair) (unlocked threshold : ℕ) (log : Option Log) (tree : VaultTree) : Type 0 where
  pub keys_are : tree.keys ≡ keys
  pub threshold_is : tree.threshold ≡ threshold
  pub kept : KeptTree
  pub live : tree.live ≡ loaded_tree unlocked kept
  pub claims : AreClaimsOf (sealing_of keys) tree.live tree.claims
  pub loaded : Told log (λ log. IsKept (sealing_of keys) (now log) kept)
  pub few : length kept.nodes ≤ node_limit

-- at rest between requests
abbrev pub IsResting : {D : Type 0} → reads.Ghosts D → VaultView D → Type 0
IsResting by vault = Told (by.log vault.folder) (IsAtRestOver (sealing_of vault.tree.keys) vault.tree.live vault.tree.claims vault.waiting)

-- and nothing waits
pub record IsIdle {D : Type 0} (by : reads.Ghosts D) (vault : VaultView D) : Type 0 where
  pub none : vault.waiting ≡ []
  pub rest : Told (by.log vault.folder) (IsAtRest (sealing_of vault.tree.keys) vault.tree.live vault.tree.claims)

-- what a request leaves as it was, whatever it comes to; no count of the folder's faults falls
pub record Keeps {D : Type 0} (by : reads.Ghosts D) (old new : VaultView D) : Type 0 where
  pub threshold : new.tree.threshold ≡ old.tree.threshold
  pub keys : new.tree.keys ≡ old.tree.keys
  pub faults : by.faults old.folder ≤ by.faults new.folder

-- with one entry more
abbrev pub counted : StoreView → StoreView
counted store = record store { entries = bounded (suc store.entries) }

-- and stopped in that entry
abbrev pub stopped_in : StoreView → StoreView
stopped_in store = record store { entries = bounded (suc store.entries); stopped = Some store.entries }

-- with nothing that waits
abbrev pub idle_of : StoreView → StoreView
idle_of store = record store { waiting = [] }
