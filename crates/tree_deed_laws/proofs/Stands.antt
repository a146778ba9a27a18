-- A disk's marks and places, by its own nodes.
use Rattle.std.proofs.Common.{◌≡◌, ◌↔◌, ℕ, Bool, List, [], ◌∷◌, Some, None, IsTrue, sym, ◌∙◌}
use Rattle.std.specs.FinMap.{get}
use Rattle.outside.specs.Disk.{Disk, folder as Folder, IsTree}
use Rattle.clear_tree.specs.Walk.{Path, Sealing, Node, Dir, node_at, IsOwner}
use Rattle.clear_tree.specs.Places.{folders_of, host_folder, entry_at}
use Rattle.clear_tree.specs.Marks.{Marks, AreMarks}
use Rattle.tree_deed_laws.specs.Trees.{Tree, IsTreeOf}

pub record StandsFor (s : Sealing) (d : Disk) (marks : Marks) (long : Path → Bool) (o : List ℕ → Path) : Type 0 where
  pub tree : IsTree d
  pub root : get d (host_folder (s.folder_of [])) ≡ Some Folder
  pub first : IsOwner s (folders_of s d) o
  pub marked : AreMarks s d o marks
  pub placed : (l : List ℕ) (q : Path) (j : List ℕ) (y : Node) → node_at s (folders_of s d) o q ≡ Some (Dir j) → node_at s (folders_of s d) o (l ∷ q) ≡ Some y
      → IsTrue (long (l ∷ q)) ↔ (entry_at s d (s.folder_of j) (s.seal j l) ≡ None)

pub stands : (s : Sealing) (d : Disk) (tree : Tree) (t : IsTreeOf s d tree) → StandsFor s d tree.marks tree.long t.owner
stands s d tree t = record {
  tree = t.host;
  root = t.there;
  first = t.first;
  marked = t.marked;
  placed = λ l q j y at there. t.placed l q j y (t.exact q ∙ at) (t.exact (l ∷ q) ∙ there);
}

pub tree_stands : (s : Sealing) (d : Disk) (tree : Tree) (o : List ℕ → Path) → StandsFor s d tree.marks tree.long o
    → ((q : Path) → get tree.nodes q ≡ node_at s (folders_of s d) o q) → IsTreeOf s d tree
tree_stands s d tree o st exact = record {
  owner = o;
  host = st.tree;
  there = st.root;
  first = st.first;
  exact = exact;
  marked = st.marked;
  placed = λ l q j y at there. st.placed l q j y (sym (exact q) ∙ at) (sym (exact (l ∷ q)) ∙ there);
}
