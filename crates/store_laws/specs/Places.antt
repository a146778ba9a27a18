-- Which places can be taken in a vault none of whose directories holds a foreign entry.
use Rattle.std.specs.Prelude.{◌≡◌, ◌≢◌, ◌⊎◌, ℕ, true, false, List, Option, Some, Ok, IsSome}
use Rattle.std.specs.List.{AllByRecursion}
use Rattle.outside.specs.Disk.{Disk, Path as HostPath}
use Rattle.vault_keys.specs.Keys.{KeyPair}
use Rattle.tree_model.specs.Names.{clear_name}
use Rattle.tree_model.specs.Rows.{Rows}
use Rattle.tree_model.specs.Asked.{PlainRequest, look, walk, open_node, create, read, list, write, remove, stat_of, change, sync}
use Rattle.tree_model.specs.History.{Made, Entry, MayDraw, rows_at}
use Rattle.tree_model.specs.Laws.{IsPlaceTaken}
use Rattle.clear_tree.specs.Walk.{Sealing}
use Rattle.clear_tree.specs.Places.{host_entry}
use Rattle.tree_loading.specs.Format.{sealing_of}
use Rattle.tree_deed_laws.specs.Taken.{taken_by_identifier}
use Rattle.live_tree.specs.Held.{HeldNode, HeldTree, IsChild}
use Rattle.name_places.specs.Claims.{claims_in}
use Rattle.node_changes.specs.Placed.{identifier_at, parent_at}
use Rattle.store_laws.specs.Store.{IsPlacedOn}

-- no directory holds foreign entries
abbrev pub AreUnmarked : Rows → Type 0
AreUnmarked rows = AllByRecursion (λ row. row.foreign ≡ false) rows.nodes

-- ---- places

-- The long place of a name in the directory of a number, at which another of the directory's nodes is: two sealed names have one long place.
pub record IsAnothersPlace (s : Sealing) (live : HeldTree) (parent : ℕ) (name : List ℕ) (path : HostPath) : Type 0 where
  pub identifier : List ℕ
  pub directory : identifier_at live parent ≡ Some identifier
  pub clear : List ℕ
  pub clear_is : clear_name name ≡ Ok clear
  pub path_is : path ≡ host_entry (s.folder_of identifier) (s.long_of (s.seal identifier clear))
  pub number : ℕ
  pub node : HeldNode
  pub child : IsChild live parent number node
  pub another : node.kept.name ≢ clear
  pub there : node.kept.entry ≡ s.long_of (s.seal identifier clear)

-- a place of the identifier that was drawn for a directory: its folder, a file at that folder's part of two characters, or the `dir.c9r` of a node
-- that names the folder
abbrev pub IsIdentifiersPlace : Sealing → Disk → HeldTree → Option (List ℕ) → HostPath → Type 0
IsIdentifiersPlace s d live drawn path = IsSome drawn × (taken_by_identifier s d (claims_in s live) drawn ≡ Some path)

-- the parent of the node of a number, and another name for it
pub record IsRenamed (s : Sealing) (live : HeldTree) (number : ℕ) (asked : Option (List ℕ)) (path : HostPath) : Type 0 where
  pub name : List ℕ
  pub asked_is : asked ≡ Some name
  pub parent : ℕ
  pub parent_is : parent_at live number ≡ Some parent
  pub anothers : IsAnothersPlace s live parent name path

-- The paths that may be taken for a request: if a node is made or gets another name, the long place of that name, if it is another's; and if
-- a directory is made, what its identifier needs.
abbrev pub MayBeTaken : Sealing → Disk → HeldTree → PlainRequest → Option (List ℕ) → HostPath → Type 0
MayBeTaken s d live (look n) drawn path = ⊥
MayBeTaken s d live (walk n names) drawn path = ⊥
MayBeTaken s d live (open_node n mode) drawn path = ⊥
MayBeTaken s d live (create n name is_dir mode) drawn path =
    IsAnothersPlace s live n name path ⊎ ((is_dir ≡ true) × IsIdentifiersPlace s d live drawn path)
MayBeTaken s d live (read n at most) drawn path = ⊥
MayBeTaken s d live (list n after most) drawn path = ⊥
MayBeTaken s d live (write n at bytes) drawn path = ⊥
MayBeTaken s d live (remove n) drawn path = ⊥
MayBeTaken s d live (stat_of n) drawn path = ⊥
MayBeTaken s d live (change n c) drawn path = IsRenamed s live n c.name path
MayBeTaken s d live (sync n) drawn path = ⊥

-- ---- the laws

-- no request marks a directory
abbrev pub HistoriesStayUnmarked : Type 0
HistoriesStayUnmarked = (rows : Rows) (entries : List Entry) (i : ℕ) → AreUnmarked rows → AreUnmarked (rows_at rows entries i)

-- If no directory holds foreign entries, the place that an entry names as taken is one that may be: a name's short place never is.
abbrev pub PlacesAreAnothers : Type 0
PlacesAreAnothers = (keys : KeyPair) (disk : Disk) (rows : Rows) (made : Made) (placed : IsPlacedOn keys disk rows made) (taken : IsPlaceTaken rows made)
    → AreUnmarked rows → (IsSome made.drawn → MayDraw made.asked.request)
    → MayBeTaken (sealing_of keys) disk placed.live made.asked.request made.drawn taken.path
