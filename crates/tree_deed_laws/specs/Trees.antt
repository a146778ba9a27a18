-- The tree of a disk by path: its nodes, their marks, and which of them are at their long place.
use Rattle.std.specs.Prelude.{◌≡◌, ◌≢◌, ◌↔◌, ℕ, Bool, true, false, cond, List, [], ◌∷◌, map, Some, None, IsTrue}
use Rattle.std.specs.FinMap as finmap
use Rattle.outside.specs.Disk.{Disk, IsFolder, IsTree}
use Rattle.clear_tree.specs.Walk.{Path, same_path, Sealing, Node, Dir, node_at, IsOwner}
use Rattle.clear_tree.specs.Places.{folders_of, host_folder, entry_at, text_dirid}
use Rattle.clear_tree.specs.Marks.{Marks, AreMarks}
use Rattle.clear_tree.specs.Rows.{Nodes}

-- Which texts are those of sealed names: the text of a name that opens again is one, neither the folder of a long place nor `dirid.c9r` is
-- one, and the two are no one entry.
pub record AreTexts (s : Sealing) : Type 0 where
  pub text : (i n : List ℕ) → s.open_name i (s.seal i n) ≡ Some n → s.is_text (s.seal i n) ≡ true
  pub long : (t : List ℕ) → s.is_text (s.long_of t) ≡ false
  pub copy : s.is_text text_dirid ≡ false
  pub no_copy : (t : List ℕ) → s.long_of t ≢ text_dirid

pub record Tree : Type 0 where
  pub nodes : Nodes
  pub marks : Marks
  pub long : Path → Bool

-- a node below the root is at its long place if and only if nothing is there for it at its short
-- one
abbrev pub AreLong : Sealing → Disk → Tree → Type 0
AreLong s d tree = (n : List ℕ) (p : Path) (i : List ℕ) (x : Node) → finmap.get tree.nodes p ≡ Some (Dir i) → finmap.get tree.nodes (n ∷ p) ≡ Some x
    → IsTrue (tree.long (n ∷ p)) ↔ (entry_at s d (s.folder_of i) (s.seal i n) ≡ None)

-- The tree is that of the disk.
pub record IsTreeOf (s : Sealing) (d : Disk) (tree : Tree) : Type 0 where
  pub owner : List ℕ → Path
  pub host : IsTree d
  pub there : IsFolder d (host_folder (s.folder_of []))
  pub first : IsOwner s (folders_of s d) owner
  pub exact : (p : Path) → finmap.get tree.nodes p ≡ node_at s (folders_of s d) owner p
  pub marked : AreMarks s d owner tree.marks
  pub placed : AreLong s d tree

-- ---- trees that change

-- another value at one path
abbrev pub but_at : (Path → Bool) → Path → Bool → Path → Bool
but_at long p b q = cond (same_path p q) b (long q)

-- with one node more, which has no mark
abbrev pub with_node : Tree → Path → Node → Bool → Tree
with_node tree p x long = record { nodes = finmap.insert tree.nodes p x; marks = tree.marks; long = but_at tree.long p long }

-- without one, which had no mark
abbrev pub without_node : Tree → Path → Tree
without_node tree p = record tree { nodes = finmap.remove tree.nodes p }

-- the paths with two subtrees exchanged
unfoldable pub swapped : Path → Path → Path → Path
swapped old new [] = []
swapped old new (m ∷ q) = cond (same_path old (m ∷ q)) new (cond (same_path new (m ∷ q)) old (m ∷ swapped old new q))

abbrev pub renamed_nodes : Path → Path → Nodes → Nodes
renamed_nodes old new nodes = finmap.from_entries (map (λ node. (swapped old new node.0, node.1)) (finmap.entries nodes))

-- with all from one path on at another, at which there was none
abbrev pub with_name : Tree → Path → Path → Bool → Tree
with_name tree old new long = record {
  nodes = renamed_nodes old new tree.nodes;
  marks = record {
    foreign = λ q. tree.marks.foreign (swapped old new q);
    shadowed = λ q. tree.marks.shadowed (swapped old new q);
    twice = tree.marks.twice;
  };
  long = but_at (λ q. tree.long (swapped old new q)) new long;
}
