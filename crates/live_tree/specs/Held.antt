-- What is held of a tree that changes: its nodes by number, and the rows that they stand for.
use Rattle.std.specs.Prelude.{◌≡◌, ◌≢◌, ◌<◌, ◌^◌, ℕ, suc, List, [], ◌∷◌, map, Bool, Option, Some, IsSome}
use Rattle.std.specs.declared.cmp.Ordering.TheVariants.{Less}
use Rattle.std.specs.Ordering.{nat_cmp}
use Rattle.std.specs.Cmp.Lexicographic.{slice_cmp}
use Rattle.std.specs.Option.{option_and_then}
use Rattle.std.specs.List.Sorted.{IsStrictlySortedBy}
use Rattle.std.specs.Map.{keys_of, lookup}
use Rattle.std.specs.BTreeMap.{is_at}
use Rattle.tree_model.specs.Rows.{Content, Row, Rows, root}
use Rattle.clear_tree.specs.Kept.{KeptNode, kind_of, content_of, folder_in, path_in, size_in, IsBehind}

-- a node: what is kept of it, how often it changed since the vault was unlocked, modulo 2 ^ 32, and the second of its last change
pub record HeldNode : Type 0 where
  pub kept : KeptNode
  pub version : ℕ
  pub modified : ℕ

-- The nodes that are there, in the order of their numbers; the number that comes next, which no node had before; and whether an identifier
-- is named twice.
pub record HeldTree : Type 0 where
  pub nodes : List (ℕ × HeldNode)
  pub next : ℕ
  pub twice : Bool

abbrev pub node_of : HeldTree → ℕ → Option HeldNode
node_of tree number = lookup (is_at (nat_cmp number)) tree.nodes

-- ---- its rows

abbrev pub live_row : (ℕ → Content) → ℕ × HeldNode → Row
live_row contents e = record {
  number = e.0;
  parent = e.1.kept.parent;
  name = e.1.kept.name;
  kind = kind_of e.1.kept.what;
  content = content_of e.1.kept.what (contents e.0);
  foreign = e.1.kept.foreign;
  shadowed = e.1.kept.shadowed;
  version = e.1.version;
  modified = e.1.modified;
}

-- the rows of a tree whose files and links have these contents by their numbers
abbrev pub live_rows : (ℕ → Content) → HeldTree → Rows
live_rows contents tree = record {
  nodes = map (live_row contents) tree.nodes;
  next = tree.next;
  named_twice = tree.twice;
}

-- ---- a tree as it was loaded

abbrev pub unchanged_node : ℕ → KeptNode → HeldNode
unchanged_node unlocked node = record { kept = node; version = 0; modified = unlocked }

-- nodes, numbered from a number on
abbrev pub numbered : ℕ → ℕ → List KeptNode → List (ℕ × HeldNode)
numbered unlocked number [] = []
numbered unlocked number (node ∷ nodes) = (number, unchanged_node unlocked node) ∷ numbered unlocked (suc number) nodes

-- the nodes from a number on that were loaded, of a vault that was unlocked at this second
abbrev pub loaded : ℕ → List KeptNode → ℕ → Bool → HeldTree
loaded unlocked nodes next twice = record { nodes = numbered unlocked 0 nodes; next = next; twice = twice }

-- ---- host files

abbrev pub parent_folder : HeldTree → KeptNode → Option (List ℕ)
parent_folder tree node = option_and_then (λ (parent : HeldNode). folder_in parent.kept.what) (node_of tree node.parent)

-- where the host file of the node of a number is, if it is a file or a link
abbrev pub path_of : HeldTree → ℕ → Option (List (List ℕ))
path_of tree number =
    option_and_then (λ (node : HeldNode). option_and_then (path_in node.kept node.kept.what) (parent_folder tree node.kept)) (node_of tree number)

-- how many bytes that host file has
abbrev pub size_of : HeldTree → ℕ → Option ℕ
size_of tree number = option_and_then (λ (node : HeldNode). size_in node.kept.what) (node_of tree number)

-- ---- children

-- the node of a number, other than the root, is in this directory
pub record IsChild (tree : HeldTree) (parent number : ℕ) (node : HeldNode) : Type 0 where
  pub there : node_of tree number ≡ Some node
  pub below : number ≢ root
  pub inside : node.kept.parent ≡ parent

-- the node of a number has this name in a directory
pub record IsNamed (tree : HeldTree) (parent : ℕ) (name : List ℕ) (number : ℕ) : Type 0 where
  pub node : HeldNode
  pub child : IsChild tree parent number node
  pub named : node.kept.name ≡ name

-- no node of a directory has this name
abbrev pub IsFree : HeldTree → ℕ → List ℕ → Type 0
IsFree tree parent name = (number : ℕ) → IsNamed tree parent name number → ⊥

-- the first of a directory's nodes whose name follows this one
pub record IsNext (tree : HeldTree) (parent : ℕ) (last : Option (List ℕ)) (number : ℕ) : Type 0 where
  pub node : HeldNode
  pub child : IsChild tree parent number node
  pub behind : IsBehind last node.kept.name
  pub first : (other : ℕ) (node' : HeldNode) → IsChild tree parent other node' → IsBehind last node'.kept.name → other ≢ number
      → slice_cmp nat_cmp node.kept.name node'.kept.name ≡ Less

-- no node of the directory follows this name
abbrev pub IsNoNext : HeldTree → ℕ → Option (List ℕ) → Type 0
IsNoNext tree parent last = (other : ℕ) (node : HeldNode) → IsChild tree parent other node → IsBehind last node.kept.name → ⊥

-- a directory without nodes
abbrev pub IsChildless : HeldTree → ℕ → Type 0
IsChildless tree parent = (number : ℕ) (node : HeldNode) → IsChild tree parent number node → ⊥

-- the node of a number is a directory
pub record IsDirectory (tree : HeldTree) (number : ℕ) : Type 0 where
  pub node : HeldNode
  pub there : node_of tree number ≡ Some node
  pub folder : IsSome (folder_in node.kept.what)

-- ---- what holds of each tree

-- the root is a directory that is its own parent
pub record IsRoot (tree : HeldTree) (node : HeldNode) : Type 0 where
  pub there : node_of tree root ≡ Some node
  pub own : node.kept.parent ≡ root
  pub folder : IsSome (folder_in node.kept.what)

-- a node below the root is in a directory of a lower number
pub record HasParent (tree : HeldTree) (number : ℕ) (node : HeldNode) : Type 0 where
  pub before : node.kept.parent < number
  pub folder : IsSome (parent_folder tree node.kept)

-- what each tree is: the root, and below it nodes in directories of lower numbers; no two nodes of one directory with one name; each number
-- below the next one; and each version below 2 ^ 32
pub record IsTree (tree : HeldTree) : Type 0 where
  pub ordered : IsStrictlySortedBy nat_cmp (keys_of tree.nodes)
  pub first : (node : HeldNode) × IsRoot tree node
  pub parents : (number : ℕ) (node : HeldNode) → node_of tree number ≡ Some node → number ≢ root → HasParent tree number node
  pub numbers : (number : ℕ) (node : HeldNode) → node_of tree number ≡ Some node → number < tree.next
  pub versions : (number : ℕ) (node : HeldNode) → node_of tree number ≡ Some node → node.version < 2 ^ 32
  pub names : (parent : ℕ) (name : List ℕ) (a b : ℕ) → IsNamed tree parent name a → IsNamed tree parent name b → a ≡ b
