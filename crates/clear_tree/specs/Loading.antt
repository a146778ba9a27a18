-- A tree under way: what is kept of the rows of a walk with a queue, turn by turn, and when that is what is kept of the disk.
use Rattle.std.specs.Prelude.{◌≡◌, ◌↔◌, ◌<◌, ◌≤◌, ℕ, Bool, true, false, cond, not, ◌&&◌, ◌||◌, List, [], ◌∷◌, ◌++◌, length, Some, IsSome, IsTrue, Contains, bytes_eq, is_some, slice_get}
use Rattle.outside.specs.Disk.{Disk, IsFolder}
use Rattle.tree_model.specs.Rows.{root}
use Rattle.clear_tree.specs.Walk.{Path, Sealing, Kind, Dir, claimed, node_at, IsOwner}
use Rattle.clear_tree.specs.Places.{folders_of, host_folder, entry_at, entry_of}
use Rattle.clear_tree.specs.Marks.{IsShadowed, HasForeign}
use Rattle.clear_tree.specs.Queue.{Row, first_claim, kids, IsWalk}
use Rattle.clear_tree.specs.Kept.{What, KeptFile, KeptLink, KeptDir, KeptBad, KeptNode, KeptTree, IsKept, what_of, is_absent, text_limit}
use Rattle.clear_tree.specs.Scan.{Shown, ShownFile, ShownLink, ShownText, Found, IsFound}

-- ---- what is kept of rows

-- the root's node
pub record IsKeptRoot (node : KeptNode) : Type 0 where
  pub own : node.parent ≡ root
  pub name : node.name ≡ 47 ∷ []
  pub entry : node.entry ≡ []
  pub short : node.long ≡ false
  pub alone : node.shadowed ≡ false

-- the node of a name in the directory at a path: its parent's number is that of the directory's row
pub record IsKeptBelow (s : Sealing) (d : Disk) (rows : List Row) (name : List ℕ) (above : Path) (node : KeptNode) : Type 0 where
  pub identifier : List ℕ
  pub inside : slice_get rows node.parent ≡ Some (above, Dir identifier)
  pub named : node.name ≡ name
  pub entry : node.entry ≡ entry_of s d (s.folder_of identifier) (s.seal identifier name)
  pub long : node.long ≡ is_absent (entry_at s d (s.folder_of identifier) (s.seal identifier name))
  pub shadowed : IsTrue node.shadowed ↔ IsShadowed s d identifier name

abbrev pub IsKeptAt : Sealing → Disk → List Row → Path → KeptNode → Type 0
IsKeptAt s d rows [] node = IsKeptRoot node
IsKeptAt s d rows (n ∷ q) node = IsKeptBelow s d rows n q node

-- The node of a row. Whether its folder has foreign entries is known once its turn was.
pub record IsKeptRow (s : Sealing) (d : Disk) (rows : List Row) (turns number : ℕ) (row : Row) (node : KeptNode) : Type 0 where
  pub what : node.what ≡ what_of s row.1
  pub place : IsKeptAt s d rows row.0 node
  pub marked : number < turns → IsTrue node.foreign ↔ HasForeign s d (Some row.1)
  pub unmarked : turns ≤ number → node.foreign ≡ false

-- two rows name one folder, Bad ones counted
pub record NamesTwice (s : Sealing) (rows : List Row) : Type 0 where
  pub one : ℕ
  pub other : ℕ
  pub a : Row
  pub b : Row
  pub folder : List ℕ
  pub before : one < other
  pub first : slice_get rows one ≡ Some a
  pub second : slice_get rows other ≡ Some b
  pub named : claimed s (Some a.1) ≡ Some folder
  pub again : claimed s (Some b.1) ≡ Some folder

-- what is kept of rows after some turns: a node for each, whether a folder is named twice, and which folders are named
pub record AreLoaded (s : Sealing) (d : Disk) (rows : List Row) (turns : ℕ) (tree : KeptTree) (claims : List ℕ → Bool) : Type 0 where
  pub count : length tree.nodes ≡ length rows
  pub each : (number : ℕ) (row : Row) (node : KeptNode) → slice_get rows number ≡ Some row → slice_get tree.nodes number ≡ Some node
      → IsKeptRow s d rows turns number row node
  pub twice : IsTrue tree.twice ↔ NamesTwice s rows
  pub named : (folder : List ℕ) → claims folder ≡ is_some (first_claim s folder rows)

-- A load after some turns of its walk: what is kept of the rows that are done and of those that wait.
pub record IsLoading (s : Sealing) (d : Disk) (turns : ℕ) (tree : KeptTree) (claims : List ℕ → Bool) : Type 0 where
  pub done : List Row
  pub todo : List Row
  pub walk : IsWalk s (folders_of s d) done todo
  pub turned : length done ≡ turns
  pub loaded : AreLoaded s d (done ++ todo) turns tree claims

-- ---- one node more

-- what a node is that shows this, by the folders that are there and those that are named already
abbrev pub new_what : Sealing → (List ℕ → Bool) → (List ℕ → Bool) → Shown → What
new_what s present claims (ShownFile size) = KeptFile size
new_what s present claims (ShownLink size) = KeptLink size
new_what s present claims (ShownText t) = cond (s.valid_id t && (present (s.folder_of t) && not (claims (s.folder_of t)))) (KeptDir t (s.folder_of t)) (KeptBad t)

-- whether it names a folder that is named already
abbrev pub names_again : Sealing → (List ℕ → Bool) → Shown → Bool
names_again s claims (ShownFile size) = false
names_again s claims (ShownLink size) = false
names_again s claims (ShownText t) = s.valid_id t && claims (s.folder_of t)

-- the folder that it names
abbrev pub names_folder : Sealing → Shown → List ℕ → Bool
names_folder s (ShownFile size) folder = false
names_folder s (ShownLink size) folder = false
names_folder s (ShownText t) folder = s.valid_id t && bytes_eq (s.folder_of t) folder

abbrev pub new_node : Sealing → (List ℕ → Bool) → (List ℕ → Bool) → ℕ → Found → KeptNode
new_node s present claims parent found = record {
  parent = parent;
  name = found.name;
  entry = found.entry;
  long = found.long;
  what = new_what s present claims found.shown;
  foreign = false;
  shadowed = found.shadowed;
}

-- the tree with a node more, as it was found in the directory of a number
abbrev pub with_found : Sealing → (List ℕ → Bool) → (List ℕ → Bool) → ℕ → KeptTree → Found → KeptTree
with_found s present claims parent tree found = record {
  nodes = tree.nodes ++ new_node s present claims parent found ∷ [];
  twice = tree.twice || names_again s claims found.shown;
}

abbrev pub with_claims : Sealing → (List ℕ → Bool) → Shown → List ℕ → Bool
with_claims s claims shown folder = claims folder || names_folder s shown folder

-- ---- laws

-- an identifier is kept whole: it is shorter than what is kept of a `dir.c9r`
abbrev pub KeepsIdentifiers : Sealing → Type 0
KeepsIdentifiers s = (text : List ℕ) → s.valid_id text ≡ true → length text < text_limit

-- a load whose walk has ended keeps the disk
abbrev pub LoadingEnds : Type 0
LoadingEnds = (s : Sealing) (d : Disk) (tree : KeptTree) (claims : List ℕ → Bool) → IsFolder d (host_folder (s.folder_of [])) →
    IsLoading s d (length tree.nodes) tree claims → IsKept s d tree

-- A disk has at least so many nodes, whoever the owners of folders are: here are their paths, no two of which are one.
pub record HasNodes (s : Sealing) (d : Disk) (count : ℕ) : Type 0 where
  pub paths : List Path
  pub many : length paths ≡ count
  pub distinct : (i j : ℕ) (path : Path) → slice_get paths i ≡ Some path → slice_get paths j ≡ Some path → i ≡ j
  pub nodes : (owner : List ℕ → Path) → IsOwner s (folders_of s d) owner → (path : Path) → Contains paths path → IsSome (node_at s (folders_of s d) owner path)

-- ---- the nodes of one directory

-- entries as they were found
abbrev pub AreShown : Sealing → Disk → List ℕ → List Found → List (List ℕ × Kind) → Type 0
AreShown s d i [] [] = Unit {0}
AreShown s d i [] (e ∷ es) = ⊥
AreShown s d i (f ∷ found) [] = ⊥
AreShown s d i (f ∷ found) (e ∷ es) = ((is : IsFound s d i f) × (e ≡ (f.name, is.kind))) × AreShown s d i found es

-- nodes that were found in the directory of a row are kept after what is kept of these rows
pub record AreAdded (s : Sealing) (d : Disk) (rows : List Row) (turns : ℕ) (above : Path) (identifier : List ℕ) (found : List Found) (tree : KeptTree) (claims : List ℕ → Bool) : Type 0 where
  pub entries : List (List ℕ × Kind)
  pub shown : AreShown s d identifier found entries
  pub loaded : AreLoaded s d (rows ++ kids s (folders_of s d) rows above entries) turns tree claims
