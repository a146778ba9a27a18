-- The shape of a tree's rows: by path, but for numbers, versions and moments.
use Rattle.std.specs.Prelude.{◌≡◌, ◌≢◌, ◌<◌, ℕ, List, [], ◌∷◌, Bool, true, false, Some, None, Ok}
use Rattle.std.specs.FinMap.{get}
use Rattle.outside.specs.Disk.{Disk, IsTree}
use Rattle.deeds.specs.Deeds.{PlainDeed}
use Rattle.tree_model.specs.declared.stat.Qid.{Qid}
use Rattle.tree_model.specs.Names.{clear_name}
use Rattle.tree_model.specs.Rows.{chunks, Row, Rows, root, row_of, child_of}
use Rattle.tree_model.specs.Asked.{PlainChange, create, remove, change, qid, done}
use Rattle.tree_model.specs.Step.{is_held, remove_refusal, change_dir, new_row, set_row, with_mtime, with_new, without_row, new_name, new_length, step}
use Rattle.clear_tree.specs.Walk.{Path, Sealing, Node, Dir, Bad}
use Rattle.clear_tree.specs.Queue.{In}
use Rattle.clear_tree.specs.Kept.{what_of}
use Rattle.clear_tree.specs.Rows.{kind_of, content_in, IsClear}
use Rattle.tree_deed_laws.specs.Trees.{AreTexts, Tree, IsTreeOf}
use Rattle.tree_deed_laws.specs.Deeds.{place_of, create_file_deeds, create_dir_deeds, remove_deeds, rename_deeds}
use Rattle.tree_deed_laws.specs.Changes.{CanStand, Leads}

-- a row of this name in the directory of another
pub record IsRowIn (rows : Rows) (above : Row) (name : List ℕ) (row : Row) : Type 0 where
  pub there : In row rows.nodes
  pub below : row.number ≢ root
  pub parent : row.parent ≡ above.number
  pub named : row.name ≡ name

-- a path leads to a row: the empty one to the root's, and any other from its parent's by its name
abbrev pub IsRowAt : Rows → Path → Row → Type 0
IsRowAt rows [] row = In row rows.nodes × (row.number ≡ root)
IsRowAt rows (n ∷ p) row = (above : Row) × IsRowAt rows p above × IsRowIn rows above n row

-- numbers are one each and below the next, so are names in a directory, and a path leads to each row
pub record AreNumbered (rows : Rows) : Type 0 where
  pub one : (a b : Row) → In a rows.nodes → In b rows.nodes → a.number ≡ b.number → a ≡ b
  pub names : (a b : Row) → In a rows.nodes → In b rows.nodes → a.number ≢ root → b.number ≢ root → a.parent ≡ b.parent → a.name ≡ b.name → a ≡ b
  pub below : (a : Row) → In a rows.nodes → a.number < rows.next
  pub reached : (a : Row) → In a rows.nodes → (p : Path) × IsRowAt rows p a

-- a row shows the node at a path
pub record IsShown (s : Sealing) (tree : Tree) (p : Path) (x : Node) (row : Row) : Type 0 where
  pub kind : row.kind ≡ kind_of x
  pub content : row.content ≡ content_in s x
  pub foreign : row.foreign ≡ tree.marks.foreign p
  pub shadowed : row.shadowed ≡ tree.marks.shadowed p

pub record HasRow (s : Sealing) (tree : Tree) (rows : Rows) (p : Path) (x : Node) : Type 0 where
  pub row : Row
  pub at : IsRowAt rows p row
  pub shown : IsShown s tree p x row

pub record HasNode (s : Sealing) (tree : Tree) (p : Path) (row : Row) : Type 0 where
  pub node : Node
  pub at : get tree.nodes p ≡ Some node
  pub shown : IsShown s tree p node row

-- The rows have the tree's shape: a row for each node, by path, and no other.
pub record HasShape (s : Sealing) (tree : Tree) (rows : Rows) : Type 0 where
  pub numbered : AreNumbered rows
  pub rows_of : (p : Path) (x : Node) → get tree.nodes p ≡ Some x → HasRow s tree rows p x
  pub nodes_of : (p : Path) (row : Row) → IsRowAt rows p row → HasNode s tree p row
  pub twice : rows.named_twice ≡ tree.marks.twice

-- ---- rows of one shape

-- two rows of one path, but for numbers, versions and moments
pub record AreAlike (a b : Row) : Type 0 where
  pub kind : a.kind ≡ b.kind
  pub content : a.content ≡ b.content
  pub foreign : a.foreign ≡ b.foreign
  pub shadowed : a.shadowed ≡ b.shadowed

pub record HasAlike (rows : Rows) (p : Path) (row : Row) : Type 0 where
  pub other : Row
  pub at : IsRowAt rows p other
  pub alike : AreAlike row other

pub record SameShape (a b : Rows) : Type 0 where
  pub forth : (p : Path) (row : Row) → IsRowAt a p row → HasAlike b p row
  pub back : (p : Path) (row : Row) → IsRowAt b p row → HasAlike a p row
  pub twice : a.named_twice ≡ b.named_twice

-- the rows that a disk stands for have the shape of a tree of the disk
pub record HasTree (s : Sealing) (d : Disk) (rows : Rows) : Type 0 where
  pub tree : Tree
  pub is : IsTreeOf s d tree
  pub shape : HasShape s tree rows

abbrev pub ClearRowsHaveTree : Type 0
ClearRowsHaveTree = (s : Sealing) (d : Disk) (now : ℕ) (rows : Rows) → IsClear s d now rows → IsTree d → HasTree s d rows

-- and there are such disks: an empty vault's
abbrev pub EmptyVaultHasTree : Type 0
EmptyVaultHasTree = (s : Sealing) (now : ℕ) → (d : Disk) × (rows : Rows) × HasTree s d rows

-- Rows of the shape of a disk's tree have that of the rows which the disk stands for.
pub record StandsForShape (s : Sealing) (d : Disk) (now : ℕ) (rows : Rows) : Type 0 where
  pub clear : Rows
  pub is : IsClear s d now clear
  pub same : SameShape rows clear

abbrev pub ShapesAreOfClearRows : Type 0
ShapesAreOfClearRows = (s : Sealing) (d : Disk) (tree : Tree) (rows : Rows) (now : ℕ) → IsTreeOf s d tree → HasShape s tree rows → StandsForShape s d now rows

-- ---- what the step does not refuse

-- the deeds lead to the disk of a tree, and the rows after the step have its shape
pub record Follows (s : Sealing) (d : Disk) (deeds : List PlainDeed) (rows : Rows) : Type 0 where
  pub tree : Tree
  pub leads : Leads s d deeds tree
  pub shape : HasShape s tree rows

-- a new file, whose header makes it one without chunks: no node of its directory has the name
abbrev pub FileFollows : Type 0
FileFollows = (s : Sealing) (d : Disk) (tree : Tree) (rows : Rows) (parent : Row) (p : Path) (i n header : List ℕ) (long : Bool) (now : ℕ)
    → AreTexts s → IsTreeOf s d tree → HasShape s tree rows → IsRowAt rows p parent → get tree.nodes p ≡ Some (Dir i)
    → child_of rows parent.number n ≡ None → CanStand s d tree i n long None → s.content header ≡ chunks true []
    → Follows s d (create_file_deeds (place_of s i n long) (s.seal i n) header) (with_new rows (new_row rows parent n false now) now)

abbrev pub DirectoryFollows : Type 0
DirectoryFollows = (s : Sealing) (d : Disk) (tree : Tree) (rows : Rows) (parent : Row) (p : Path) (i n t : List ℕ) (long : Bool) (now : ℕ)
    → AreTexts s → IsTreeOf s d tree → HasShape s tree rows → IsRowAt rows p parent → get tree.nodes p ≡ Some (Dir i)
    → child_of rows parent.number n ≡ None → CanStand s d tree i n long (Some t) → s.valid_id t ≡ true
    → Follows s d (create_dir_deeds (place_of s i n long) (s.seal i n) (s.folder_of t) t) (with_new rows (new_row rows parent n true now) now)

-- a node of any kind that the step does not refuse to remove
abbrev pub RemovalFollows : Type 0
RemovalFollows = (s : Sealing) (d : Disk) (tree : Tree) (rows : Rows) (row : Row) (p : Path) (i n : List ℕ) (x : Node) (now : ℕ)
    → AreTexts s → IsTreeOf s d tree → HasShape s tree rows → IsRowAt rows (n ∷ p) row
    → get tree.nodes p ≡ Some (Dir i) → get tree.nodes (n ∷ p) ≡ Some x → remove_refusal rows row ≡ None
    → Follows s d (remove_deeds (place_of s i n (tree.long (n ∷ p))) (what_of s x)) (without_row rows row now)

-- a node of any kind but a Bad one that isn't held, whose new name no node of its directory has
abbrev pub RenameFollows : Type 0
RenameFollows = (s : Sealing) (d : Disk) (tree : Tree) (rows : Rows) (row : Row) (p : Path) (i n k : List ℕ) (x : Node) (long : Bool) (c : PlainChange) (now : ℕ)
    → AreTexts s → IsTreeOf s d tree → HasShape s tree rows → IsRowAt rows (n ∷ p) row
    → get tree.nodes p ≡ Some (Dir i) → get tree.nodes (n ∷ p) ≡ Some x → ((t : List ℕ) → x ≢ Bad t)
    → child_of rows row.parent k ≡ None → is_held rows row ≡ false → CanStand s d tree i k long None
    → Follows s d (rename_deeds (place_of s i n (tree.long (n ∷ p))) (place_of s i k long) (s.seal i k) (what_of s x))
    (set_row (change_dir rows row.parent now) (with_mtime c (record row { name = k })))

-- ---- by requests: the deeds and the rows of a step that answers no refusal

-- a file made in the directory of a number
abbrev pub StepMakesFile : Type 0
StepMakesFile = (s : Sealing) (d : Disk) (tree : Tree) (rows : Rows) (parent : Row) (p : Path) (i n name header : List ℕ) (long : Bool) (number mode now : ℕ) (q : Qid)
    → AreTexts s → IsTreeOf s d tree → HasShape s tree rows → row_of rows number ≡ Some parent → IsRowAt rows p parent → get tree.nodes p ≡ Some (Dir i) → clear_name name ≡ Ok n
    → (step rows (create number name false mode) now).answer.reply ≡ qid q → CanStand s d tree i n long None → s.content header ≡ chunks true []
    → Follows s d (create_file_deeds (place_of s i n long) (s.seal i n) header) (step rows (create number name false mode) now).rows

abbrev pub StepMakesDirectory : Type 0
StepMakesDirectory = (s : Sealing) (d : Disk) (tree : Tree) (rows : Rows) (parent : Row) (p : Path) (i n name t : List ℕ) (long : Bool) (number mode now : ℕ) (q : Qid)
    → AreTexts s → IsTreeOf s d tree → HasShape s tree rows → row_of rows number ≡ Some parent → IsRowAt rows p parent → get tree.nodes p ≡ Some (Dir i) → clear_name name ≡ Ok n
    → (step rows (create number name true mode) now).answer.reply ≡ qid q → CanStand s d tree i n long (Some t) → s.valid_id t ≡ true
    → Follows s d (create_dir_deeds (place_of s i n long) (s.seal i n) (s.folder_of t) t) (step rows (create number name true mode) now).rows

-- the node of a number removed
abbrev pub StepRemoves : Type 0
StepRemoves = (s : Sealing) (d : Disk) (tree : Tree) (rows : Rows) (row : Row) (p : Path) (i n : List ℕ) (x : Node) (number now : ℕ)
    → AreTexts s → IsTreeOf s d tree → HasShape s tree rows → row_of rows number ≡ Some row → IsRowAt rows (n ∷ p) row
    → get tree.nodes p ≡ Some (Dir i) → get tree.nodes (n ∷ p) ≡ Some x → (step rows (remove number) now).answer.reply ≡ done
    → Follows s d (remove_deeds (place_of s i n (tree.long (n ∷ p))) (what_of s x)) (step rows (remove number) now).rows

-- and given another name
abbrev pub StepRenames : Type 0
StepRenames = (s : Sealing) (d : Disk) (tree : Tree) (rows : Rows) (row : Row) (p : Path) (i n k name : List ℕ) (x : Node) (long : Bool) (number now : ℕ) (c : PlainChange)
    → AreTexts s → IsTreeOf s d tree → HasShape s tree rows → row_of rows number ≡ Some row → IsRowAt rows (n ∷ p) row
    → get tree.nodes p ≡ Some (Dir i) → get tree.nodes (n ∷ p) ≡ Some x
    → new_name row c ≡ Some name → new_length row c ≡ None → clear_name name ≡ Ok k
    → (step rows (change number c) now).answer.reply ≡ done → CanStand s d tree i k long None
    → Follows s d (rename_deeds (place_of s i n (tree.long (n ∷ p))) (place_of s i k long) (s.seal i k) (what_of s x)) (step rows (change number c) now).rows
