-- A disk: what a folder of the host holds, by path.
use Rattle.std.specs.Prelude.{◌≡◌, ℕ, ◌-◌, ◌⊎◌, ◌↔◌, List, [], ◌∷◌, ◌++◌, length, take, Option, Some, IsSome, IsNone, Contains}
use Rattle.std.specs.List.{IsDistinct}
use Rattle.std.specs.Option.{option_map}
use Rattle.std.specs.Ordering.{nat_cmp}
use Rattle.std.specs.Str.{bytes_eq}
use Rattle.std.specs.Cmp.Lexicographic.{slice_cmp}
use Rattle.std.specs.declared.cmp.Ordering.{Ordering}
use Rattle.std.specs.FinMap as map
use Rattle.outside.specs.declared.folder.Kind.{Kind}
use Rattle.outside.specs.declared.folder.Kind.TheVariants.{Dir, File}

-- a path: the names of its parts, from the folder down. They are any bytes, since a host folder may hold any
abbrev pub Path : Type 0
Path = List (List ℕ)

-- the order of paths: part by part, each by its bytes
abbrev pub path_cmp : Path → Path → Ordering
path_cmp = slice_cmp (slice_cmp nat_cmp)

-- what is at a path: a folder, or a file and its bytes
pub data Node : Type 0 where
  folder : Node
  file : List ℕ → Node

-- a finite map from paths to what is there
abbrev pub Disk : Type 0
Disk = map.FinMap path_cmp Node

abbrev pub node_at : Disk → Path → Option Node
node_at disk path = map.get disk path

-- the kind of a node, a file's with its length
abbrev pub kind_of : Node → Kind
kind_of folder = Dir
kind_of (file bytes) = File (length bytes)

abbrev pub kind_at : Disk → Path → Option Kind
kind_at disk path = option_map kind_of (node_at disk path)

abbrev pub IsFolder : Disk → Path → Type 0
IsFolder disk path = node_at disk path ≡ Some folder

abbrev pub IsFile : Disk → Path → Type 0
IsFile disk path = (bytes : List ℕ) × (node_at disk path ≡ Some (file bytes))

-- the path without its last part; that of the folder itself is its own
abbrev pub parent : Path → Path
parent path = take (length path - 1) path

-- the folder itself is a folder, and so is the parent of whatever there is
pub record IsTree (disk : Disk) : Type 0 where
  pub top : IsFolder disk []
  pub parents : (path : Path) → IsSome (node_at disk path) → IsFolder disk (parent path)

-- the names in a folder, each once, in some order
pub record IsListing (disk : Disk) (path : Path) (names : List (List ℕ)) : Type 0 where
  pub distinct : IsDistinct bytes_eq names
  pub exact : (name : List ℕ) → Contains names name ↔ IsSome (node_at disk (path ++ name ∷ []))

-- a folder can be made: its parent is one, and nothing or a folder is there
pub record CanMakeDir (disk : Disk) (path : Path) : Type 0 where
  pub inside : IsFolder disk (parent path)
  pub free : IsNone (node_at disk path) ⊎ IsFolder disk path

-- a file can be put: its parent is a folder, and nothing or a file is there
pub record CanPut (disk : Disk) (path : Path) : Type 0 where
  pub inside : IsFolder disk (parent path)
  pub free : IsNone (node_at disk path) ⊎ IsFile disk path
