-- How a tree in memory is built: its root alone, then one node after another in the walk's order.
use Rattle.std.specs.Prelude.{◌≡◌, ◌≢◌, ◌-◌, ◌<◌, ◌≤◌, ℕ, zero, suc, List, [], ◌∷◌, ◌++◌, length, Bool, false, Some, IsSome, IfSome, IsTrue, slice_get, ⊤}
use Rattle.std.specs.Option.{option_and_then}
use Rattle.std.specs.Str.{IsUtf8}
use Rattle.std.specs.declared.cmp.Ordering.{Ordering}
use Rattle.std.specs.declared.cmp.Ordering.TheVariants.{Less}
use Rattle.std.specs.Ordering.{nat_cmp, ordering_then}
use Rattle.std.specs.Cmp.Lexicographic.{slice_cmp}
use Rattle.vault_path.specs.Parts.{is_part, is_path}
use Rattle.tree_model.specs.Names.{name_limit}
use Rattle.tree_model.specs.Rows.{root}
use Rattle.clear_tree.specs.Places.{host_folder}
use Rattle.clear_tree.specs.Kept.{What as KeptWhat, KeptFile, KeptLink, KeptDir, KeptBad, KeptNode, KeptTree, folder_in, node_of, parent_folder}
use Rattle.clear_tree.specs.declared.node.What.{What}
use Rattle.clear_tree.specs.declared.node.What.TheVariants.{File, Link, Dir, Bad}

abbrev pub kept_what : What → KeptWhat
kept_what (File size) = KeptFile size
kept_what (Link size) = KeptLink size
kept_what (Dir identifier folder) = KeptDir identifier folder
kept_what (Bad text) = KeptBad text

-- ---- one node

-- paths can be made of a directory's folder
abbrev pub HasHostFolder : KeptWhat → Type 0
HasHostFolder what = IfSome (folder_in what) (λ folder. IsTrue (is_path (host_folder folder)))

-- what can be said of a node by itself: its name is a text of at most 1,024 bytes
pub record IsShowable (name : List ℕ) (what : KeptWhat) : Type 0 where
  pub text : IsUtf8 name
  pub short : length name ≤ name_limit
  pub folder : HasHostFolder what

-- ---- the order of nodes

-- where a node is: its parent's number and its name
abbrev pub Place : Type 0
Place = ℕ × List ℕ

abbrev pub place_of : KeptNode → Place
place_of node = (node.parent, node.name)

-- by the parents' numbers, then by the names' bytes
abbrev pub place_cmp : Place → Place → Ordering
place_cmp a b = ordering_then (nat_cmp a.0 b.0) (slice_cmp nat_cmp a.1 b.1)

abbrev pub AreInOrder : List KeptNode → Type 0
AreInOrder nodes = (i j : ℕ) (a b : KeptNode) → i < j → slice_get nodes i ≡ Some a → slice_get nodes j ≡ Some b → place_cmp (place_of a) (place_of b) ≡ Less

-- ---- building

-- the root of a vault whose root folder is named by these 32 characters
abbrev pub root_node : List ℕ → KeptNode
root_node folder = record {
  parent = root;
  name = 47 ∷ [];
  entry = [];
  long = false;
  what = KeptDir [] folder;
  foreign = false;
  shadowed = false;
}

abbrev pub root_alone : List ℕ → KeptTree
root_alone folder = record { nodes = root_node folder ∷ []; twice = false }

abbrev pub with_node : KeptTree → KeptNode → KeptTree
with_node tree node = record { nodes = tree.nodes ++ node ∷ []; twice = tree.twice }

-- a node can be the next one of a tree: it is in one of its directories, and follows the last node, if that isn't the root
pub record FitsBehind (tree : KeptTree) (node : KeptNode) : Type 0 where
  pub inside : IsSome (parent_folder tree node)
  pub behind : (last : KeptNode) → node_of tree (length tree.nodes - 1) ≡ Some last → length tree.nodes - 1 ≢ root
      → place_cmp (place_of last) (place_of node) ≡ Less
  pub entry : IsTrue (is_part node.entry)

abbrev pub marked_node : Bool → KeptNode → KeptNode
marked_node foreign node = record node { foreign = foreign }

abbrev pub IsFile : KeptWhat → Type 0
IsFile (KeptFile size) = ⊤
IsFile (KeptDir identifier folder) = ⊥
IsFile (KeptLink size) = ⊥
IsFile (KeptBad text) = ⊥

abbrev pub renamed_node : List ℕ → List ℕ → Bool → KeptNode → KeptNode
renamed_node name entry long node = record node { name = name; entry = entry; long = long }

-- a file whose host file has another size
abbrev pub sized_node : ℕ → KeptNode → KeptNode
sized_node size node = record node { what = KeptFile size }

-- the nodes with this mark at a number
abbrev pub marked_at : ℕ → Bool → List KeptNode → List KeptNode
marked_at number foreign [] = []
marked_at zero foreign (node ∷ nodes) = marked_node foreign node ∷ nodes
marked_at (suc number) foreign (node ∷ nodes) = node ∷ marked_at number foreign nodes

abbrev pub with_foreign : KeptTree → ℕ → Bool → KeptTree
with_foreign tree number foreign = record { nodes = marked_at number foreign tree.nodes; twice = tree.twice }

abbrev pub with_twice : KeptTree → Bool → KeptTree
with_twice tree twice = record { nodes = tree.nodes; twice = twice }

-- ---- what holds of a tree that is built so

-- a node at an index after the root: its parent is a directory before it
pub record HasParent (first : KeptNode) (others : List KeptNode) (index : ℕ) (node : KeptNode) : Type 0 where
  pub before : node.parent ≤ index
  pub folder : IsSome (option_and_then (λ (parent : KeptNode). folder_in parent.what) (slice_get (first ∷ others) node.parent))

pub record AreKept (first : KeptNode) (others : List KeptNode) : Type 0 where
  pub own : first.parent ≡ root
  pub folder : IsSome (folder_in first.what)
  pub ordered : AreInOrder others
  pub parents : (index : ℕ) (node : KeptNode) → slice_get others index ≡ Some node → HasParent first others index node
  pub entries : (index : ℕ) (node : KeptNode) → slice_get others index ≡ Some node → IsTrue (is_part node.entry)
