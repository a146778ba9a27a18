-- What a number leads to: its path, its node, its row, its host file and its place.
use Rattle.std.specs.Prelude.{◌≡◌, ◌↔◌, ℕ, List, ◌∷◌, length, Option, Some, None}
use Rattle.std.specs.FinMap.{get}
use Rattle.outside.specs.Disk.{Disk, node_at as thing_at, file as host_file}
use Rattle.tree_model.specs.Rows.{Content, Row, row_of}
use Rattle.clear_tree.specs.Walk.{Path, Sealing, Node, File, Link, Dir, Bad}
use Rattle.clear_tree.specs.Kept.{HasHostFile, folder_in}
use Rattle.tree_deed_laws.specs.Trees.{Tree, IsTreeOf}
use Rattle.tree_deed_laws.specs.Deeds.{place_of}
use Rattle.tree_deed_laws.specs.Shapes.{IsRowAt, HasShape}
use Rattle.live_tree.specs.Held.{HeldNode, HeldTree, node_of, live_row, live_rows, path_of, size_of, IsNamed}
use Rattle.live_tree_laws.specs.Holds.{IsAt, IsHeldAs, Holds, AreHeldContents}

-- ---- rows

-- of a number that has a node: its path, the node there, what is held of it, and its row
pub record IsNodeAt (s : Sealing) (tree : Tree) (live : HeldTree) (contents : ℕ → Content) (number : ℕ) (row : Row) : Type 0 where
  pub path : Path
  pub at : IsAt live path number
  pub node : Node
  pub stands : get tree.nodes path ≡ Some node
  pub held : HeldNode
  pub there : node_of live number ≡ Some held
  pub is : IsHeldAs s tree path node held
  pub row_is : row ≡ live_row contents (number, held)
  pub row_at : IsRowAt (live_rows contents live) path row

-- a number has a row just if it has a node, and that is the row of what is held of it
abbrev pub NodesHaveRows : Type 0
NodesHaveRows = (live : HeldTree) (contents : ℕ → Content) (number : ℕ) (held : HeldNode) → node_of live number ≡ Some held
    → row_of (live_rows contents live) number ≡ Some (live_row contents (number, held))

abbrev pub RowsAreOfNodes : Type 0
RowsAreOfNodes = (s : Sealing) (tree : Tree) (live : HeldTree) (contents : ℕ → Content) (number : ℕ) (row : Row) → Holds s tree live
    → row_of (live_rows contents live) number ≡ Some row → IsNodeAt s tree live contents number row

-- the rows have the tree's shape
abbrev pub HeldRowsHaveShape : Type 0
HeldRowsHaveShape = (s : Sealing) (tree : Tree) (live : HeldTree) (contents : ℕ → Content) → Holds s tree live → AreHeldContents s tree live contents
    → HasShape s tree (live_rows contents live)

-- ---- host files

-- the bytes of the host file of a file or a link
abbrev pub bytes_in : Node → Option (List ℕ)
bytes_in (File b) = Some b
bytes_in (Link b) = Some b
bytes_in (Dir i) = None
bytes_in (Bad t) = None

-- the host file of a number is at this path, has these bytes, and its size is held
pub record IsHostFile (d : Disk) (live : HeldTree) (number : ℕ) (path : List (List ℕ)) (bytes : List ℕ) : Type 0 where
  pub is : path_of live number ≡ Some path
  pub there : thing_at d path ≡ Some (host_file bytes)
  pub size : size_of live number ≡ Some (length bytes)

pub record HasBytes (d : Disk) (live : HeldTree) (number : ℕ) (bytes : List ℕ) : Type 0 where
  pub path : List (List ℕ)
  pub file : IsHostFile d live number path bytes

-- a file or a link has its host file, with its bytes
abbrev pub NodesHaveBytes : Type 0
NodesHaveBytes = (s : Sealing) (d : Disk) (tree : Tree) (live : HeldTree) (p : Path) (number : ℕ) (x : Node) (bytes : List ℕ) → IsTreeOf s d tree → Holds s tree live
    → IsAt live p number → get tree.nodes p ≡ Some x → bytes_in x ≡ Some bytes → HasBytes d live number bytes

-- the node whose host file it is
pub record IsOfNode (d : Disk) (tree : Tree) (live : HeldTree) (number : ℕ) (path : List (List ℕ)) : Type 0 where
  pub at_path : Path
  pub at : IsAt live at_path number
  pub node : Node
  pub stands : get tree.nodes at_path ≡ Some node
  pub bytes : List ℕ
  pub has : bytes_in node ≡ Some bytes
  pub file : IsHostFile d live number path bytes

-- and what has one is a file or a link
abbrev pub PathsAreOfNodes : Type 0
PathsAreOfNodes = (s : Sealing) (d : Disk) (tree : Tree) (live : HeldTree) (number : ℕ) (path : List (List ℕ)) → IsTreeOf s d tree → Holds s tree live
    → path_of live number ≡ Some path → IsOfNode d tree live number path

-- the contents of files and links are those of the bytes of their host files
pub record AreLiveContents (s : Sealing) (d : Disk) (live : HeldTree) (contents : ℕ → Content) : Type 0 where
  pub files : (number : ℕ) (path : List (List ℕ)) → path_of live number ≡ Some path → HasHostFile s d contents number path
  pub sizes : (number size : ℕ) (path : List (List ℕ)) (bytes : List ℕ) → path_of live number ≡ Some path → size_of live number ≡ Some size
      → thing_at d path ≡ Some (host_file bytes) → length bytes ≡ size

abbrev pub ContentsAreHeld : Type 0
ContentsAreHeld = (s : Sealing) (d : Disk) (tree : Tree) (live : HeldTree) (contents : ℕ → Content) → IsTreeOf s d tree → Holds s tree live
    → AreHeldContents s tree live contents ↔ AreLiveContents s d live contents

-- ---- places

-- Of a node of the directory at p, of identifier i: its place is the folder of its parent, with its own entry.
abbrev pub PlacesAreHeld : Type 0
PlacesAreHeld = (s : Sealing) (tree : Tree) (live : HeldTree) (p : Path) (parent number : ℕ) (i n f : List ℕ) (above held : HeldNode) → Holds s tree live
    → IsAt live p parent → get tree.nodes p ≡ Some (Dir i) → IsNamed live parent n number
    → node_of live parent ≡ Some above → folder_in above.kept.what ≡ Some f → node_of live number ≡ Some held
    → place_of s i n (tree.long (n ∷ p)) ≡ record { folder = f; entry = held.kept.entry; long = held.kept.long }
