-- What is kept of a disk's clear tree in memory: a node for each number, in the walk's order, without the files' bytes.
use Rattle.std.specs.Prelude.{◌≡◌, ◌≢◌, ◌<◌, ℕ, suc, List, [], ◌∷◌, length, take, Bool, true, false, Option, Some, None, IsSome, slice_get}
use Rattle.std.specs.declared.cmp.Ordering.TheVariants.{Greater}
use Rattle.std.specs.Ordering.{nat_cmp}
use Rattle.std.specs.Cmp.Lexicographic.{slice_cmp}
use Rattle.std.specs.Option.{option_and_then}
use Rattle.std.specs.FinMap as finmap
use Rattle.vault_layout.specs.Limits.{identifier_limit}
use Rattle.outside.specs.Disk.{Disk, node_at as thing_at, file as host_file, IsFolder}
use Rattle.tree_model.specs.Rows.{Kind, dir, file, link, bad, Content, chunks, Row, Rows, root}
use Rattle.clear_tree.specs.Walk.{Path, Sealing, Node, File, Link, Dir, Bad, node_at, IsOwner}
use Rattle.clear_tree.specs.Places.{folders_of, host_folder, host_entry, host_inner, entry_at, entry_of, text_contents, text_symlink}
use Rattle.clear_tree.specs.Marks.{Marks, AreMarks}
use Rattle.clear_tree.specs.Rows.{Nodes, parent_of, name_of, IsClear}

-- what a node is: a file or a link with the size of its host file in bytes, a directory with its identifier and the 32 characters of its
-- folder, a Bad node with the text of its `dir.c9r`, of which no more is kept than the limit
pub data What : Type 0 where
  KeptFile : ℕ → What
  KeptLink : ℕ → What
  KeptDir : List ℕ → List ℕ → What
  KeptBad : List ℕ → What

-- a node: its parent's number, its name, its entry in the folder of its parent, and whether that is the long place
pub record KeptNode : Type 0 where
  pub parent : ℕ
  pub name : List ℕ
  pub entry : List ℕ
  pub long : Bool
  pub what : What
  pub foreign : Bool
  pub shadowed : Bool

-- the nodes by number, and whether an identifier is named twice
pub record KeptTree : Type 0 where
  pub nodes : List KeptNode
  pub twice : Bool

-- ---- what is kept of a disk

-- of a `dir.c9r` no more is kept than shows whether it is an identifier, which is no longer than the limit
abbrev pub text_limit : ℕ
text_limit = suc identifier_limit

abbrev pub kept_text : List ℕ → List ℕ
kept_text text = take text_limit text

abbrev pub what_of : Sealing → Node → What
what_of s (File b) = KeptFile (length b)
what_of s (Link b) = KeptLink (length b)
what_of s (Dir i) = KeptDir i (s.folder_of i)
what_of s (Bad t) = KeptBad (kept_text t)

-- the entry of a name in a directory. The root has none
abbrev pub entry_in : Sealing → Disk → Option Node → List ℕ → List ℕ
entry_in s d None n = []
entry_in s d (Some (Dir i)) n = entry_of s d (s.folder_of i) (s.seal i n)
entry_in s d (Some (File b)) n = []
entry_in s d (Some (Link b)) n = []
entry_in s d (Some (Bad t)) n = []

abbrev pub is_absent : {A : Type 0} → Option A → Bool
is_absent None = true
is_absent (Some x) = false

-- whether a name of a directory is at its long place
abbrev pub long_in : Sealing → Disk → Option Node → List ℕ → Bool
long_in s d None n = false
long_in s d (Some (Dir i)) n = is_absent (entry_at s d (s.folder_of i) (s.seal i n))
long_in s d (Some (File b)) n = false
long_in s d (Some (Link b)) n = false
long_in s d (Some (Bad t)) n = false

abbrev pub entry_by : Sealing → Disk → Nodes → Path → List ℕ
entry_by s d nodes [] = []
entry_by s d nodes (n ∷ p) = entry_in s d (finmap.get nodes p) n

abbrev pub long_by : Sealing → Disk → Nodes → Path → Bool
long_by s d nodes [] = false
long_by s d nodes (n ∷ p) = long_in s d (finmap.get nodes p) n

abbrev pub kept_node : Sealing → Disk → Nodes → Marks → Path × Node → KeptNode
kept_node s d nodes marks e = record {
  parent = parent_of (finmap.entries nodes) e.0;
  name = name_of e.0;
  entry = entry_by s d nodes e.0;
  long = long_by s d nodes e.0;
  what = what_of s e.1;
  foreign = marks.foreign e.0;
  shadowed = marks.shadowed e.0;
}

abbrev pub kept_nodes : Sealing → Disk → Nodes → Marks → List (Path × Node) → List KeptNode
kept_nodes s d nodes marks [] = []
kept_nodes s d nodes marks (e ∷ es) = kept_node s d nodes marks e ∷ kept_nodes s d nodes marks es

-- The tree is what is kept of the disk.
pub record IsKept (s : Sealing) (d : Disk) (tree : KeptTree) : Type 0 where
  pub owner : List ℕ → Path
  pub nodes : Nodes
  pub marks : Marks
  pub there : IsFolder d (host_folder (s.folder_of []))
  pub first : IsOwner s (folders_of s d) owner
  pub exact : (p : Path) → finmap.get nodes p ≡ node_at s (folders_of s d) owner p
  pub marked : AreMarks s d owner marks
  pub kept : tree.nodes ≡ kept_nodes s d nodes marks (finmap.entries nodes)
  pub twice : tree.twice ≡ marks.twice

-- ---- its rows

abbrev pub kind_of : What → Kind
kind_of (KeptFile size) = file
kind_of (KeptLink size) = link
kind_of (KeptDir identifier folder) = dir
kind_of (KeptBad text) = bad

-- a directory and a Bad node have no content
abbrev pub content_of : What → Content → Content
content_of (KeptFile size) content = content
content_of (KeptLink size) content = content
content_of (KeptDir identifier folder) content = chunks true []
content_of (KeptBad text) content = chunks true []

abbrev pub row_of : (ℕ → Content) → ℕ → ℕ → KeptNode → Row
row_of contents now number node = record {
  number = number;
  parent = node.parent;
  name = node.name;
  kind = kind_of node.what;
  content = content_of node.what (contents number);
  foreign = node.foreign;
  shadowed = node.shadowed;
  version = 0;
  modified = now;
}

abbrev pub rows_from : (ℕ → Content) → ℕ → ℕ → List KeptNode → List Row
rows_from contents now number [] = []
rows_from contents now number (node ∷ nodes) = row_of contents now number node ∷ rows_from contents now (suc number) nodes

-- the rows of a kept tree whose files and links have these contents by their numbers; the vault was unlocked at this second
abbrev pub tree_rows : (ℕ → Content) → ℕ → KeptTree → Rows
tree_rows contents now tree = record {
  nodes = rows_from contents now 0 tree.nodes;
  next = length tree.nodes;
  named_twice = tree.twice;
}

-- ---- host files

-- the folder of a directory, by what is kept of it
abbrev pub folder_in : What → Option (List ℕ)
folder_in (KeptDir identifier folder) = Some folder
folder_in (KeptFile size) = None
folder_in (KeptLink size) = None
folder_in (KeptBad text) = None

abbrev pub node_of : KeptTree → ℕ → Option KeptNode
node_of tree number = slice_get tree.nodes number

-- the host file of a file at its short place is its entry, at its long place `contents.c9r` of its node folder
abbrev pub file_path : Bool → List ℕ → List ℕ → List (List ℕ)
file_path false folder entry = host_entry folder entry
file_path true folder entry = host_inner folder entry text_contents

-- where the host file of a file or a link is, in the folder of its parent
abbrev pub path_in : KeptNode → What → List ℕ → Option (List (List ℕ))
path_in node (KeptFile size) folder = Some (file_path node.long folder node.entry)
path_in node (KeptLink size) folder = Some (host_inner folder node.entry text_symlink)
path_in node (KeptDir identifier own) folder = None
path_in node (KeptBad text) folder = None

abbrev pub parent_folder : KeptTree → KeptNode → Option (List ℕ)
parent_folder tree node = option_and_then (λ parent. folder_in parent.what) (node_of tree node.parent)

-- where the host file of the node of a number is, if it is a file or a link
abbrev pub path_of : KeptTree → ℕ → Option (List (List ℕ))
path_of tree number = option_and_then (λ node. option_and_then (path_in node node.what) (parent_folder tree node)) (node_of tree number)

-- how many bytes that host file had when it was loaded
abbrev pub size_in : What → Option ℕ
size_in (KeptFile size) = Some size
size_in (KeptLink size) = Some size
size_in (KeptDir identifier folder) = None
size_in (KeptBad text) = None

abbrev pub size_of : KeptTree → ℕ → Option ℕ
size_of tree number = option_and_then (λ node. size_in node.what) (node_of tree number)

-- the contents of a tree's files and links are those of the bytes of their host files
pub record HasHostFile (s : Sealing) (d : Disk) (contents : ℕ → Content) (number : ℕ) (path : List (List ℕ)) : Type 0 where
  pub bytes : List ℕ
  pub there : thing_at d path ≡ Some (host_file bytes)
  pub content : contents number ≡ s.content bytes

pub record AreContents (s : Sealing) (d : Disk) (tree : KeptTree) (contents : ℕ → Content) : Type 0 where
  pub files : (number : ℕ) (path : List (List ℕ)) → path_of tree number ≡ Some path → HasHostFile s d contents number path
  pub sizes : (number size : ℕ) (path : List (List ℕ)) (bytes : List ℕ) → path_of tree number ≡ Some path → size_of tree number ≡ Some size
      → thing_at d path ≡ Some (host_file bytes) → length bytes ≡ size

-- ---- children

-- the node of a number, other than the root, is in this directory
pub record IsChild (tree : KeptTree) (parent number : ℕ) (node : KeptNode) : Type 0 where
  pub there : node_of tree number ≡ Some node
  pub below : number ≢ root
  pub inside : node.parent ≡ parent

-- the node of a number has this name in a directory
pub record IsNamed (tree : KeptTree) (parent : ℕ) (name : List ℕ) (number : ℕ) : Type 0 where
  pub node : KeptNode
  pub child : IsChild tree parent number node
  pub named : node.name ≡ name

-- a name follows another in the order of the names' bytes; after none each one does
abbrev pub IsBehind : Option (List ℕ) → List ℕ → Type 0
IsBehind None name = Unit {0}
IsBehind (Some last) name = slice_cmp nat_cmp name last ≡ Greater

-- ---- what holds of each kept tree

-- the root: a directory that is its own parent
pub record IsRoot (tree : KeptTree) (node : KeptNode) : Type 0 where
  pub there : node_of tree root ≡ Some node
  pub own : node.parent ≡ root
  pub folder : IsSome (folder_in node.what)

-- what each kept tree is, of whatever disk: the root first, a directory that is its own parent; each other node's parent a directory before
-- it; and no two nodes of one directory with one name
pub record IsTree (tree : KeptTree) : Type 0 where
  pub first : (node : KeptNode) × IsRoot tree node
  pub parents : (number : ℕ) (node : KeptNode) → node_of tree number ≡ Some node → number ≢ root → node.parent < number
  pub folders : (number : ℕ) (node : KeptNode) → node_of tree number ≡ Some node → IsSome (parent_folder tree node)
  pub names : (parent : ℕ) (name : List ℕ) (a b : ℕ) → IsNamed tree parent name a → IsNamed tree parent name b → a ≡ b

-- ---- laws

-- What is kept of a disk determines the rows that the disk stands for.
pub record TellsRows (s : Sealing) (d : Disk) (tree : KeptTree) : Type 0 where
  pub contents : ℕ → Content
  pub are : AreContents s d tree contents
  pub clear : (now : ℕ) → IsClear s d now (tree_rows contents now tree)

abbrev pub KeepingTellsRows : Type 0
KeepingTellsRows = (s : Sealing) (d : Disk) (tree : KeptTree) → IsKept s d tree → TellsRows s d tree
