-- The rows that a disk stands for: its nodes in the walk's order, numbered from the root on.
use Rattle.std.specs.Prelude.{◌≡◌, ℕ, suc, List, [], ◌∷◌, true, if◌then◌else◌}
use Rattle.std.specs.FinMap as map
use Rattle.outside.specs.Disk.{Disk, IsFolder}
use Rattle.tree_model.specs.Rows.{Kind, dir, file, link, bad, Content, chunks, Row, Rows, root}
use Rattle.clear_tree.specs.Walk.{Path, same_path, walk_cmp, Sealing, Node, File, Link, Dir, Bad, node_at, IsOwner}
use Rattle.clear_tree.specs.Places.{folders_of, host_folder}
use Rattle.clear_tree.specs.Marks.{Marks, AreMarks}

-- nodes by path, in the walk's order: breadth first, names by their bytes
abbrev pub Nodes : Type 0
Nodes = map.FinMap walk_cmp Node

abbrev pub kind_of : Node → Kind
kind_of (File b) = file
kind_of (Link b) = link
kind_of (Dir i) = dir
kind_of (Bad t) = bad

abbrev pub content_in : Sealing → Node → Content
content_in s (File b) = s.content b
content_in s (Link b) = s.content b
content_in s (Dir i) = chunks true []
content_in s (Bad t) = chunks true []

-- how many paths of a list are before this one
abbrev pub number_of : List (Path × Node) → Path → ℕ
number_of [] p = 0
number_of (e ∷ es) p = if same_path e.0 p then 0 else suc (number_of es p)

-- the root's parent is itself
abbrev pub parent_of : List (Path × Node) → Path → ℕ
parent_of all [] = root
parent_of all (n ∷ p) = number_of all p

-- the root's name is `/`
abbrev pub name_of : Path → List ℕ
name_of [] = 47 ∷ []
name_of (n ∷ p) = n

abbrev pub row_of : Sealing → ℕ → Marks → List (Path × Node) → ℕ → Path × Node → Row
row_of s now marks all number e = record {
  number = number;
  parent = parent_of all e.0;
  name = name_of e.0;
  kind = kind_of e.1;
  content = content_in s e.1;
  foreign = marks.foreign e.0;
  shadowed = marks.shadowed e.0;
  version = 0;
  modified = now;
}

-- the rows of nodes, numbered from a number on
abbrev pub rows_from : Sealing → ℕ → Marks → List (Path × Node) → ℕ → List (Path × Node) → List Row
rows_from s now marks all number [] = []
rows_from s now marks all number (e ∷ es) = row_of s now marks all number e ∷ rows_from s now marks all (suc number) es

-- a row for each node, at its place in the walk; the vault was unlocked at this second
abbrev pub rows_of : Sealing → ℕ → Nodes → Marks → Rows
rows_of s now nodes marks = record {
  nodes = rows_from s now marks (map.entries nodes) 0 (map.entries nodes);
  next = map.len nodes;
  named_twice = marks.twice;
}

-- The rows that a disk stands for, unlocked at this second. There are none if the root's folder is absent. The owner of a folder is the
-- first path in the walk's order whose node names it.
pub record IsClear (s : Sealing) (d : Disk) (now : ℕ) (rows : Rows) : Type 0 where
  pub owner : List ℕ → Path
  pub nodes : Nodes
  pub marks : Marks
  pub there : IsFolder d (host_folder (s.folder_of []))
  pub first : IsOwner s (folders_of s d) owner
  pub exact : (p : Path) → map.get nodes p ≡ node_at s (folders_of s d) owner p
  pub marked : AreMarks s d owner marks
  pub rows_are : rows ≡ rows_of s now nodes marks
