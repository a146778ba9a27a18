-- Marks: of a directory, that its folder has foreign entries; of a node, that it has a twin or its folder further entries; of all, that an identifier is named twice.
use Rattle.std.specs.Prelude.{◌≡◌, ◌≢◌, ◌⊎◌, ◌↔◌, ℕ, Bool, false, List, [], ◌∷◌, Option, Some, None, IsTrue}
use Rattle.std.specs.FinMap.{get}
use Rattle.outside.specs.Disk.{Disk, file as Bytes, IsFile}
use Rattle.clear_tree.specs.Walk.{Path, Sealing, Folders, Kind, Bare, Node, File, Link, Dir, Bad, look, node_at, claimed}
use Rattle.clear_tree.specs.Places.{folders_of, host_entry, host_inner, entry_at, entry_of, known, bytes_of, text_dir, text_dirid, text_symlink, text_name}

-- the entry of a node of the directory
pub record IsNodeEntry (s : Sealing) (d : Disk) (i u : List ℕ) : Type 0 where
  pub name : List ℕ
  pub kind : Kind
  pub shown : look s (folders_of s d) i name ≡ Some kind
  pub known : kind ≢ Bare
  pub place : u ≡ entry_of s d (s.folder_of i) (s.seal i name)

-- every other entry, but for dirid.c9r as a file
pub record IsForeign (s : Sealing) (d : Disk) (i u : List ℕ) : Type 0 where
  pub there : get d (host_entry (s.folder_of i) u) ≢ None
  pub no_copy : u ≡ text_dirid → IsFile d (host_entry (s.folder_of i) text_dirid) → ⊥
  pub no_node : IsNodeEntry s d i u → ⊥

abbrev pub Foreign : Sealing → Disk → List ℕ → Type 0
Foreign s d i = (u : List ℕ) × IsForeign s d i u

-- the known file of a node folder, by its entry
abbrev pub known_at : Disk → List ℕ → List ℕ → List ℕ
known_at d h e = known (bytes_of (get d (host_inner h e text_dir))) (bytes_of (get d (host_inner h e text_symlink)))

-- an entry of its node folder beside the known file, and name.c9s of a long one
pub record HasFurther (s : Sealing) (d : Disk) (h t : List ℕ) : Type 0 where
  pub entry : List ℕ
  pub unknown : entry ≢ known_at d h (entry_of s d h t)
  pub no_name : entry_at s d h t ≡ None → entry ≢ text_name
  pub there : get d (host_inner h (entry_of s d h t) entry) ≢ None

-- at the short place, and a folder of the long form holds its name
pub record HasTwin (s : Sealing) (d : Disk) (h t : List ℕ) : Type 0 where
  pub short : entry_at s d h t ≢ None
  pub long : get d (host_inner h (s.long_of t) text_name) ≡ Some (Bytes t)

abbrev pub IsShadowed : Sealing → Disk → List ℕ → List ℕ → Type 0
IsShadowed s d i n = HasFurther s d (s.folder_of i) (s.seal i n) ⊎ HasTwin s d (s.folder_of i) (s.seal i n)

-- two nodes name one folder, Bad ones counted
pub record NamedTwice (s : Sealing) (v : Folders) (o : List ℕ → Path) : Type 0 where
  pub one : Path
  pub other : Path
  pub folder : List ℕ
  pub two : one ≢ other
  pub first : claimed s (node_at s v o one) ≡ Some folder
  pub second : claimed s (node_at s v o other) ≡ Some folder

-- marks by path: of a directory, that its folder has foreign entries; of a node below the root, that it has a twin, or its node folder
-- further entries; and whether an identifier is named twice
pub record Marks : Type 0 where
  pub foreign : Path → Bool
  pub shadowed : Path → Bool
  pub twice : Bool

abbrev pub HasForeign : Sealing → Disk → Option Node → Type 0
HasForeign s d None = ⊥
HasForeign s d (Some (Dir i)) = Foreign s d i
HasForeign s d (Some (File b)) = ⊥
HasForeign s d (Some (Link b)) = ⊥
HasForeign s d (Some (Bad t)) = ⊥

-- a node of this name is shadowed, by the node of its directory and its own
abbrev pub IsShadowedIn : Sealing → Disk → Option Node → List ℕ → Option Node → Type 0
IsShadowedIn s d parent n None = ⊥
IsShadowedIn s d None n (Some x) = ⊥
IsShadowedIn s d (Some (Dir i)) n (Some x) = IsShadowed s d i n
IsShadowedIn s d (Some (File b)) n (Some x) = ⊥
IsShadowedIn s d (Some (Link b)) n (Some x) = ⊥
IsShadowedIn s d (Some (Bad t)) n (Some x) = ⊥

-- the marks are those of the disk
pub record AreMarks (s : Sealing) (d : Disk) (owner : List ℕ → Path) (marks : Marks) : Type 0 where
  pub foreign : (p : Path) → IsTrue (marks.foreign p) ↔ HasForeign s d (node_at s (folders_of s d) owner p)
  pub root : marks.shadowed [] ≡ false
  pub shadowed : (n : List ℕ) (p : Path) → IsTrue (marks.shadowed (n ∷ p))
      ↔ IsShadowedIn s d (node_at s (folders_of s d) owner p) n (node_at s (folders_of s d) owner (n ∷ p))
  pub twice : IsTrue marks.twice ↔ NamedTwice s (folders_of s d) owner
