-- A file that gets other bytes, and a node that gets another mtime.
use Rattle.std.specs.Prelude.{◌≡◌, ◌≢◌, ℕ, List, ◌∷◌, length, Some}
use Rattle.std.specs.FinMap.{get, insert}
use Rattle.outside.specs.Disk.{Disk, node_at as thing_at, file as host_file, IsTree, Path as HostPath}
use Rattle.clear_tree.specs.Walk.{Path, Sealing, File, Dir}
use Rattle.clear_tree.specs.Kept.{file_path}
use Rattle.tree_deed_laws.specs.Trees.{Tree, IsTreeOf}
use Rattle.tree_deed_laws.specs.Deeds.{Place, place_of}
use Rattle.live_tree.specs.Held.{HeldTree, path_of}
use Rattle.live_tree.specs.Changes.{touched, dated}
use Rattle.live_tree_laws.specs.Holds.{IsAt, Holds}

-- the tree in which the file at a path has these bytes
abbrev pub with_file : Tree → Path → List ℕ → Tree
with_file tree p bytes = record tree { nodes = insert tree.nodes p (File bytes) }

-- a file was written: its host file has another size
abbrev pub WritingHolds : Type 0
WritingHolds = (s : Sealing) (tree : Tree) (live : HeldTree) (p : Path) (number : ℕ) (old bytes : List ℕ) (now : ℕ) → Holds s tree live
    → IsAt live p number → get tree.nodes p ≡ Some (File old) → Holds s (with_file tree p bytes) (touched live number (length bytes) now)

abbrev pub DatingHolds : Type 0
DatingHolds = (s : Sealing) (tree : Tree) (live : HeldTree) (number modified : ℕ) → Holds s tree live → Holds s tree (dated live number modified)

-- ---- on the disk

-- a disk on which a file has these bytes, and all else is as it was
pub record IsRewritten (d d' : Disk) (path : HostPath) (bytes : List ℕ) : Type 0 where
  pub tree : IsTree d'
  pub file : thing_at d' path ≡ Some (host_file bytes)
  pub others : (q : HostPath) → q ≢ path → thing_at d' q ≡ thing_at d q

-- where the host file of a file at a place is
abbrev pub file_at : Place → HostPath
file_at place = file_path place.long place.folder place.entry

-- it is where the tree in memory says
abbrev pub FilesStandAtPlaces : Type 0
FilesStandAtPlaces = (s : Sealing) (d : Disk) (tree : Tree) (live : HeldTree) (p : Path) (number : ℕ) (i n bytes : List ℕ) → IsTreeOf s d tree → Holds s tree live
    → IsAt live (n ∷ p) number → get tree.nodes p ≡ Some (Dir i) → get tree.nodes (n ∷ p) ≡ Some (File bytes)
    → path_of live number ≡ Some (file_at (place_of s i n (tree.long (n ∷ p))))

-- if the host file of a file has other bytes, so has the file, and nothing else is other
abbrev pub ContentsChange : Type 0
ContentsChange = (s : Sealing) (d d' : Disk) (tree : Tree) (p : Path) (i n old bytes : List ℕ) → IsTreeOf s d tree
    → get tree.nodes p ≡ Some (Dir i) → get tree.nodes (n ∷ p) ≡ Some (File old) → IsRewritten d d' (file_at (place_of s i n (tree.long (n ∷ p)))) bytes
    → IsTreeOf s d' (with_file tree (n ∷ p) bytes)
