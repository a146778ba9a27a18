-- What is in a vault's folder `d` and belongs to no node of its tree: entries of other programs, folders that no directory names, what
-- else a node's folder holds (Cryptomator's vault format 8).
use Rattle.std.specs.Prelude.{◌≡◌, ◌≢◌, ◌⊎◌, ℕ, Bool, true, false, List, [], ◌∷◌, Some, None}
use Rattle.std.specs.FinMap.{get}
use Rattle.outside.specs.Disk.{Disk, IsFolder, node_at, Path as HostPath}
use Rattle.clear_tree.specs.Queue.{In}
use Rattle.clear_tree.specs.Walk.{Path, Sealing, Node, File, Link, Dir, Bad}
use Rattle.clear_tree.specs.Places.{host_folder, host_entry, host_inner, text_contents, text_d, text_dir, text_dirid, text_name, text_symlink}
use Rattle.tree_deed_laws.specs.Trees.{Tree, IsTreeOf}
use Rattle.tree_deed_laws.specs.Deeds.{Place, place_of}

-- the file that makes a node folder what it is
abbrev pub known_file : Node → List ℕ
known_file (File b) = text_contents
known_file (Link b) = text_symlink
known_file (Dir i) = text_dir
known_file (Bad t) = text_dir

-- the host paths of a node: its entry, and if that is a folder its known file, and `name.c9s` of a long one
abbrev pub node_paths : Bool → List ℕ → List ℕ → List ℕ → List HostPath
node_paths false folder entry known = host_entry folder entry ∷ host_inner folder entry known ∷ []
node_paths true folder entry known = host_entry folder entry ∷ host_inner folder entry known ∷ host_inner folder entry text_name ∷ []

abbrev pub paths_at : Place → Node → List HostPath
paths_at place node = node_paths place.long place.folder place.entry (known_file node)

-- the path is one of those of a node below the root
pub record IsOfNode (s : Sealing) (tree : Tree) (path : HostPath) : Type 0 where
  pub above : Path
  pub identifier : List ℕ
  pub name : List ℕ
  pub node : Node
  pub parent : get tree.nodes above ≡ Some (Dir identifier)
  pub there : get tree.nodes (name ∷ above) ≡ Some node
  pub is : In path (paths_at (place_of s identifier name (tree.long (name ∷ above))) node)

-- it is a directory's own folder, or the copy of its identifier there
pub record IsOfDirectory (s : Sealing) (tree : Tree) (path : HostPath) : Type 0 where
  pub at : Path
  pub identifier : List ℕ
  pub there : get tree.nodes at ≡ Some (Dir identifier)
  pub is : In path (host_folder (s.folder_of identifier) ∷ host_entry (s.folder_of identifier) text_dirid ∷ [])

abbrev pub IsOfTree : Sealing → Tree → HostPath → Type 0
IsOfTree s tree path = IsOfNode s tree path ⊎ IsOfDirectory s tree path

-- something is at this path below `d`, and the path is none of the tree's
pub record IsStray (s : Sealing) (disk : Disk) (path : HostPath) : Type 0 where
  pub rest : HostPath
  pub inside : path ≡ text_d ∷ rest
  pub there : node_at disk path ≢ None
  pub apart : (tree : Tree) → IsTreeOf s disk tree → IsOfTree s tree path → ⊥

-- a folder `d/XX`, of the directories whose folders' names begin with these two characters
pub record IsPairFolder (disk : Disk) (path : HostPath) : Type 0 where
  pub pair : List ℕ
  pub is : path ≡ text_d ∷ pair ∷ []
  pub there : IsFolder disk path

-- each stray of the first disk is one on the other, and is as it was; and there are no others, but for folders
-- `d/XX`
pub record KeepsStrays (s : Sealing) (first disk : Disk) : Type 0 where
  pub kept : (path : HostPath) → IsStray s first path → IsStray s disk path × (node_at disk path ≡ node_at first path)
  pub found : (path : HostPath) → IsStray s disk path → IsStray s first path ⊎ IsPairFolder disk path
