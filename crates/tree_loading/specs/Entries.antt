-- What the entries of a directory's folder are.
use Rattle.std.specs.Prelude.{◌≡◌, ◌≢◌, ◌↔◌, ◌≤◌, ℕ, List, length, Bool, Option, Some, None, IsSome, IsTrue, Contains}
use Rattle.std.specs.FinMap.{get}
use Rattle.std.specs.Ordering.{nat_cmp}
use Rattle.std.specs.Cmp.Lexicographic.{slice_cmp}
use Rattle.std.specs.BTreeMap.{is_at}
use Rattle.std.specs.Map.{lookup}
use Rattle.outside.specs.Disk.{Disk, IsTree}
use Rattle.vault_names.specs.Places.{longest_text}
use Rattle.clear_tree.specs.Walk.{Sealing, Kind, Bare, look}
use Rattle.clear_tree.specs.Places.{folders_of, host_entry, host_inner, entry_of, text_name}
use Rattle.clear_tree.specs.Marks.{IsNodeEntry, IsForeign}
use Rattle.clear_tree.specs.Scan.{Found, IsFound}
use Rattle.tree_loading.specs.declared.entry.Entry.{Entry}
use Rattle.tree_loading.specs.declared.entry.Entry.TheVariants.{Node, Taken, Foreign, Copy}
use Rattle.tree_loading.specs.declared.found.FoundNode.{FoundNode}
use Rattle.tree_loading.specs.Reading.{file_at}
use Rattle.tree_loading.specs.Scanned.{found_of}

-- the disk is a tree, and the entry is in the folder
pub record IsThere (s : Sealing) (d : Disk) (i u : List ℕ) : Type 0 where
  pub tree : IsTree d
  pub there : get d (host_entry (s.folder_of i) u) ≢ None

-- a name opens from its text, which is this one
pub record IsOpened (s : Sealing) (i t n : List ℕ) : Type 0 where
  pub opens : s.open_name i t ≡ Some n
  pub sealed : t ≡ s.seal i n

-- an entry ending in `.c9s` is the folder of the text that its `name.c9s` holds
pub record HoldsText (s : Sealing) (d : Disk) (i u t : List ℕ) : Type 0 where
  pub held : file_at d (host_inner (s.folder_of i) u text_name) ≡ Some t
  pub hashed : u ≡ s.long_of t
  pub short : length t ≤ longest_text

-- and that text opens to a name
pub record IsLongName (s : Sealing) (d : Disk) (i u n t : List ℕ) : Type 0 where
  pub holds : HoldsText s d i u t
  pub opened : IsOpened s i t n

abbrev pub IsNoLongName : Sealing → Disk → List ℕ → List ℕ → Type 0
IsNoLongName s d i u = (n t : List ℕ) → IsLongName s d i u n t → ⊥

-- a node that was found has this entry
pub record IsNodeOf (s : Sealing) (d : Disk) (i u : List ℕ) (found : Found) : Type 0 where
  pub is : IsFound s d i found
  pub place : found.entry ≡ u

-- no node of the directory has this name
abbrev pub HasNoNode : Sealing → Disk → List ℕ → List ℕ → Type 0
HasNoNode s d i name = (kind : Kind) → look s (folders_of s d) i name ≡ Some kind → kind ≢ Bare → ⊥

-- what an entry is
abbrev pub IsEntry : Sealing → Disk → List ℕ → List ℕ → Entry → Type 0
IsEntry s d i u (Node name node) = IsNodeOf s d i u (found_of (name, node))
IsEntry s d i u (Taken name) = IsForeign s d i u × HasNoNode s d i name
IsEntry s d i u Foreign = IsForeign s d i u
IsEntry s d i u Copy = (IsForeign s d i u → ⊥) × (IsNodeEntry s d i u → ⊥)

-- what an entry is, if it is there
abbrev pub IsReadable : Sealing → Disk → List ℕ → List ℕ → Entry → Type 0
IsReadable s d i u entry = IsThere s d i u → IsEntry s d i u entry

-- the node of a name, among nodes by name
abbrev pub node_named : List (List ℕ × FoundNode) → List ℕ → Option FoundNode
node_named nodes name = lookup (is_at (slice_cmp nat_cmp name)) nodes

-- each of these is an entry of the folder
abbrev pub AreThere : Sealing → Disk → List ℕ → List (List ℕ) → Type 0
AreThere s d i entries = (u : List ℕ) → Contains entries u → IsThere s d i u

-- the nodes and the mark that these entries make
pub record IsGathered (s : Sealing) (d : Disk) (i : List ℕ) (entries : List (List ℕ)) (nodes : List (List ℕ × FoundNode)) (foreign : Bool) : Type 0 where
  pub sound : (name : List ℕ) (node : FoundNode) → node_named nodes name ≡ Some node → IsFound s d i (found_of (name, node))
  pub complete : (name : List ℕ) (kind : Kind) → look s (folders_of s d) i name ≡ Some kind → kind ≢ Bare
      → Contains entries (entry_of s d (s.folder_of i) (s.seal i name)) → IsSome (node_named nodes name)
  pub marked : IsTrue foreign ↔ ((u : List ℕ) × Contains entries u × IsForeign s d i u)
