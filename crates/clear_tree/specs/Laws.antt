-- The laws of the clear tree.
use Rattle.std.specs.Prelude.{◌≡◌, ◌≢◌, ℕ, true, false, List, [], ◌∷◌, ◌++◌, None, Some}
use Rattle.std.specs.FinMap.{get}
use Rattle.std.specs.Map.{update}
use Rattle.std.specs.Option.{unwrap_or}
use Rattle.outside.specs.Disk.{Disk, IsFolder}
use Rattle.tree_model.specs.Rows.{Rows, chunks, dir, root}
use Rattle.clear_tree.specs.Walk.{Path, same_path, Sealing, Named, Node, Dir, Folders, is_name, look, node, node_at, claimed, IsOwner, NamedOnce, new_owner, ChangedAt}
use Rattle.clear_tree.specs.Places.{host_entry, host_folder, host_inner}
use Rattle.clear_tree.specs.Queue.{Row, In, IsWalk, first_claim}
use Rattle.clear_tree.specs.Rows.{IsClear}

-- who is first doesn't matter to the nodes: the folders determine them
abbrev pub OneTree : Type 0
OneTree = (s : Sealing) (v : Folders) (o o' : List ℕ → Path) → IsOwner s v o → IsOwner s v o' → (q : Path) → node_at s v o' q ≡ node_at s v o q

-- a disk stands for one list of rows at most
abbrev pub RowsAreDetermined : Type 0
RowsAreDetermined = (s : Sealing) (d : Disk) (now : ℕ) (a b : Rows) → IsClear s d now a → IsClear s d now b → b ≡ a

-- the root alone, of a vault that was unlocked at this second
abbrev pub root_rows : ℕ → Rows
root_rows now = record {
  nodes = record {
    number = root;
    parent = root;
    name = 47 ∷ [];
    kind = dir;
    content = chunks true [];
    foreign = false;
    shadowed = false;
    version = 0;
    modified = now;
  } ∷ [];
  next = 1;
  named_twice = false;
}

-- a disk with the root's folder and nothing below that stands for it
abbrev pub BareVaultIsClear : Type 0
BareVaultIsClear = (s : Sealing) (d : Disk) (now : ℕ) → IsFolder d (host_folder (s.folder_of [])) → ((u : List ℕ) → get d (host_entry (s.folder_of []) u) ≡ None)
    → ((u l : List ℕ) → get d (host_inner (s.folder_of []) u l) ≡ None) → IsClear s d now (root_rows now)

-- and there are such disks
abbrev pub EmptyVaultIsClear : Type 0
EmptyVaultIsClear = (s : Sealing) (now : ℕ) → (d : Disk) × (rows : Rows) × IsClear s d now rows

-- In the folder of the directory at p the text of one name shows something else, which is no directory and no Bad node, nor was it.
pub record ChangesOneText (s : Sealing) (v v' : Folders) (owner : List ℕ → Path) (p : Path) (i n : List ℕ) : Type 0 where
  pub first : IsOwner s v owner
  pub parent : node_at s v owner p ≡ Some (Dir i)
  pub named : is_name n (s.open_name i (s.seal i n)) ≡ true
  pub changed : ChangedAt v v' (s.folder_of i) (s.seal i n)
  pub folders : (g : List ℕ) → v'.present g ≡ v.present g
  pub before : claimed s (node_at s v owner (n ∷ p)) ≡ None
  pub after : claimed s (node s v' owner (n ∷ p) (look s v' i n)) ≡ None

-- then the tree changes at one place, and the owners stay
abbrev pub OnePlaceChanges : Type 0
OnePlaceChanges = (s : Sealing) (v v' : Folders) (owner : List ℕ → Path) (p : Path) (i n : List ℕ) → ChangesOneText s v v' owner p i n →
    IsOwner s v' owner
    × ((q : Path) → node_at s v' owner q ≡ update same_path (node_at s v owner) (n ∷ p) (node s v' owner (n ∷ p) (look s v' i n)) q)

-- In the folder of the directory at p the text of one name becomes that of a directory, whose folder is new, empty and named by no node.
pub record MakesDirectory (s : Sealing) (v v' : Folders) (owner : List ℕ → Path) (p : Path) (i n t : List ℕ) : Type 0 where
  pub first : IsOwner s v owner
  pub parent : node_at s v owner p ≡ Some (Dir i)
  pub named : is_name n (s.open_name i (s.seal i n)) ≡ true
  pub changed : ChangedAt v v' (s.folder_of i) (s.seal i n)
  pub folders : (g : List ℕ) → g ≢ s.folder_of t → v'.present g ≡ v.present g
  pub valid : s.valid_id t ≡ true
  pub made : v'.present (s.folder_of t) ≡ true
  pub empty : (u : List ℕ) → v'.seen (s.folder_of t) u ≡ None
  pub fresh : (q : Path) → claimed s (node_at s v owner q) ≢ Some (s.folder_of t)
  pub free : node_at s v owner (n ∷ p) ≡ None
  pub now : v'.seen (s.folder_of i) (s.seal i n) ≡ Some (Named t)

abbrev pub OneDirectoryIsMade : Type 0
OneDirectoryIsMade = (s : Sealing) (v v' : Folders) (owner : List ℕ → Path) (p : Path) (i n t : List ℕ) → MakesDirectory s v v' owner p i n t →
    IsOwner s v' (new_owner owner (s.folder_of t) (n ∷ p))
    × ((q : Path) → node_at s v' (new_owner owner (s.folder_of t) (n ∷ p)) q ≡ update same_path (node_at s v owner) (n ∷ p) (Some (Dir t)) q)

-- In the folder of the directory at p the text of a directory without children shows nothing more, and its own folder may go.
pub record RemovesDirectory (s : Sealing) (v v' : Folders) (owner : List ℕ → Path) (p : Path) (i n t : List ℕ) : Type 0 where
  pub first : IsOwner s v owner
  pub parent : node_at s v owner p ≡ Some (Dir i)
  pub named : is_name n (s.open_name i (s.seal i n)) ≡ true
  pub changed : ChangedAt v v' (s.folder_of i) (s.seal i n)
  pub folders : (g : List ℕ) → g ≢ s.folder_of t → v'.present g ≡ v.present g
  pub once : NamedOnce s v owner
  pub there : node_at s v owner (n ∷ p) ≡ Some (Dir t)
  pub no_child : (m : List ℕ) → node_at s v owner (m ∷ n ∷ p) ≡ None
  pub now : v'.seen (s.folder_of i) (s.seal i n) ≡ None

abbrev pub OneDirectoryIsRemoved : Type 0
OneDirectoryIsRemoved = (s : Sealing) (v v' : Folders) (owner : List ℕ → Path) (p : Path) (i n t : List ℕ) → RemovesDirectory s v v' owner p i n t →
    IsOwner s v' owner × ((q : Path) → node_at s v' owner q ≡ update same_path (node_at s v owner) (n ∷ p) None q)

-- a walk with a queue that has ended gives just the nodes
abbrev pub WalkEnds : Type 0
WalkEnds = (s : Sealing) (v : Folders) (rows : List Row) → IsWalk s v rows [] →
    IsOwner s v (λ f. unwrap_or (first_claim s f rows) []) ×
    ((q : Path) (x : Node) → In (q, x) rows → node_at s v (λ f. unwrap_or (first_claim s f rows) []) q ≡ Some x) ×
    ((q : Path) (x : Node) → node_at s v (λ f. unwrap_or (first_claim s f rows) []) q ≡ Some x → In (q, x) rows)

-- the rows of a walk that has not ended are nodes too, whoever the owners are: one with too many rows shows that there are too many nodes
abbrev pub WalkGoesOn : Type 0
WalkGoesOn = (s : Sealing) (v : Folders) (done todo : List Row) (o : List ℕ → Path) → IsOwner s v o → IsWalk s v done todo →
    (q : Path) (x : Node) → In (q, x) (done ++ todo) → node_at s v o q ≡ Some x
